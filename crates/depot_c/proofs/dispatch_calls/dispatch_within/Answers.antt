-- `depot_c::dispatch_calls::dispatch_within` meets its contract: the proved call is made, and what it leaves is written. Assumes nothing.
use mathlib.Core.Path.{refl, sym, ap}
use Rattle.state_bytes.specs.Layout.{all_lists}
use Rattle.dispatcher.specs.Calls.{dispatch_on}
use Rattle.depot_c.specs.Boundary.{packed}
use Rattle.depot_c.proofs.Refused.{state_refused}
use Rattle.depot_c.proofs.Accepted.{dispatch_made}
use Rattle.depot_c.proofs.Dispatched.{refused_left, made_written}
use Rattle.depot_c.proofs.dispatch_calls.dispatch_within.Goals as goal

pub returns-in_err-steps-clause-left : goal.returns-in_err-steps-clause-left
returns-in_err-steps-clause-left c =
    let a = c.args in
    let r = all_lists a.state.now a.key_room.now a.chute_room.now a.answer_room.now a.image.now in
    refused_left (dispatch_on r a.commands.now a.schedule.now) (all_lists a.state.now a.keys.now a.chutes.now a.answers.now a.image.now) r (state_refused _).0 c.in_err-steps.ensures.refusal c.in_err-steps.ensures.left refl refl

pub returns-clause-left : goal.returns-clause-left
returns-clause-left c =
    let a = c.args in
    let r = all_lists a.state.now a.key_room.now a.chute_room.now a.answer_room.now a.image.now in
    let is = dispatch_made r a.commands.now a.schedule.now (ap packed (sym c.in_ok-steps.ensures.refusal)) in
    made_written (dispatch_on r a.commands.now a.schedule.now) (all_lists a.state.now a.keys.now a.chutes.now a.answers.now a.image.now) r is.0 is.1 c.in_ok-steps.ensures.left c.write_lists.ensures

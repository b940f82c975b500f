-- `depot_c::advance_call::advance_within` meets its contract: the proved call is made, and what it leaves is written. Assumes nothing.
use mathlib.Core.Path.{refl, sym, ap}
use Rattle.state_bytes.specs.Layout.{all_lists}
use Rattle.controller.specs.Calls.{advance_on}
use Rattle.depot_c.specs.Boundary.{packed, answer_of}
use Rattle.depot_c.proofs.Refused.{advance_refused}
use Rattle.depot_c.proofs.Accepted.{advance_accepted}
use Rattle.depot_c.proofs.Outcomes.{refused_left, accepted_left}
use Rattle.depot_c.proofs.advance_call.advance_within.Goals as goal

pub returns-in_err-advance-clause-left : goal.returns-in_err-advance-clause-left
returns-in_err-advance-clause-left c =
    let a = c.args in
    let r = all_lists a.state.now a.key_room.now a.chute_room.now a.answer_room.now a.image.now in
    refused_left (advance_on r a.commands.now a.schedule.now) (all_lists a.state.now a.keys.now a.chutes.now a.answers.now a.image.now) r (advance_refused _).0 c.in_err-advance.ensures.refusal c.in_err-advance.ensures.left refl refl

pub returns-clause-left : goal.returns-clause-left
unfolding answer_of
returns-clause-left c =
    let a = c.args in
    let r = all_lists a.state.now a.key_room.now a.chute_room.now a.answer_room.now a.image.now in
    let is = advance_accepted r a.commands.now a.schedule.now (ap packed (sym c.in_ok-advance.ensures.refusal)) in
    accepted_left (advance_on r a.commands.now a.schedule.now) (all_lists a.state.now a.keys.now a.chutes.now a.answers.now a.image.now) r is.0 is.1 c.in_ok-advance.ensures.left c.write_lists.ensures

-- `depot_c::open_calls::open_within` meets its contract: the proved call is made, and what it leaves is written. Assumes nothing.
use mathlib.Core.Path.{refl, sym, ap}
use Rattle.std.specs.Prelude.{option_copied}
use Rattle.state_bytes.specs.Layout.{all_lists}
use Rattle.opening.specs.Calls.{open_on}
use Rattle.opening.specs.Opened.{source_of}
use Rattle.depot_c.specs.Boundary.{packed, answer_of}
use Rattle.depot_c.proofs.Refused.{opening_refused}
use Rattle.depot_c.proofs.Accepted.{opening_accepted}
use Rattle.depot_c.proofs.Outcomes.{refused_left, accepted_left}
use Rattle.depot_c.proofs.open_calls.open_within.Goals as goal

pub returns-in_err-open_with-clause-left : goal.returns-in_err-open_with-clause-left
returns-in_err-open_with-clause-left c =
    let a = c.args in
    let r = all_lists a.state.now a.key_room.now a.chute_room.now a.answer_room.now a.image.now in
    refused_left (open_on a.size a.workers a.capacity a.commands.now (source_of (option_copied a.source)) r) (all_lists a.state.now a.keys.now a.chutes.now a.answers.now a.image.now) r (opening_refused _).0 c.in_err-open_with.ensures.refusal c.in_err-open_with.ensures.left refl refl

pub returns-clause-left : goal.returns-clause-left
unfolding answer_of
returns-clause-left c =
    let a = c.args in
    let r = all_lists a.state.now a.key_room.now a.chute_room.now a.answer_room.now a.image.now in
    let is = opening_accepted a.size a.workers a.capacity a.commands.now (source_of (option_copied a.source)) r (ap packed (sym c.in_ok-open_with.ensures.refusal)) in
    accepted_left (open_on a.size a.workers a.capacity a.commands.now (source_of (option_copied a.source)) r) (all_lists a.state.now a.keys.now a.chutes.now a.answers.now a.image.now) r is.0 is.1 c.in_ok-open_with.ensures.left c.write_lists.ensures

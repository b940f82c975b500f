-- `depot_c::open_calls::depot_open` meets its contract: the outcome is answered in one number. Assumes nothing.
use mathlib.Core.Path.{ap, ◌∙◌}
use Rattle.depot_c.specs.Boundary.{packed, answer_of}
use Rattle.depot_c.proofs.open_calls.depot_open.Goals as goal

pub returns-clause-number : goal.returns-clause-number
unfolding answer_of
returns-clause-number c = c.answer.ensures ∙ ap packed c.open_bytes-outcome.ensures.refusal

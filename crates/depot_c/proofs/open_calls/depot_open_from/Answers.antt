-- `depot_c::open_calls::depot_open_from` meets its contract: the outcome is answered in one number. Assumes nothing.
use mathlib.Core.Path.{ap, ◌∙◌}
use Rattle.depot_c.specs.Boundary.{packed, answer_of}
use Rattle.depot_c.proofs.open_calls.depot_open_from.Goals as goal

pub returns-clause-number : goal.returns-clause-number
unfolding answer_of
returns-clause-number c = c.answer.ensures ∙ ap packed c.open_bytes-outcome.ensures.refusal

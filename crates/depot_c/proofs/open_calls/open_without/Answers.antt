-- `depot_c::open_calls::open_without` meets its contract: the call is made on empty lists. Assumes nothing.
use mathlib.Core.Path.{ap, ◌∙◌}
use Rattle.state_bytes.specs.Outcome.{refusal_in}
use Rattle.opening.specs.Calls.{nothing}
use Rattle.depot_c.proofs.Outcomes.{no_list_opened}
use Rattle.depot_c.proofs.open_calls.open_without.Goals as goal

pub returns : goal.returns
returns c source = c.open.ensures.refusal ∙ ap refusal_in (no_list_opened _ _ _ _ nothing source)

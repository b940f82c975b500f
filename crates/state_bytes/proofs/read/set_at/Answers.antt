-- `state_bytes::read::set_at` meets its contract. Assumes nothing.
use mathlib.Core.Path.{◌∙◌}
use Rattle.state_bytes.proofs.Placed.{set_placed}
use Rattle.state_bytes.proofs.read.set_at.Goals as goal

pub returns : goal.returns
returns c = c.read.ensures ∙ set_placed c.args.state.now c.args.n

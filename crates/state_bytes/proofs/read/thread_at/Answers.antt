-- `state_bytes::read::thread_at` meets its contract. Assumes nothing.
use mathlib.Core.Path.{◌∙◌}
use Rattle.state_bytes.proofs.Placed.{thread_placed}
use Rattle.state_bytes.proofs.read.thread_at.Goals as goal

pub returns : goal.returns
returns c = c.read.ensures ∙ thread_placed c.args.state.now c.args.t

-- `state_bytes::read::read_threads` meets its contract. Assumes nothing.
use mathlib.Core.Path.{refl}
use Rattle.byte_fields.proofs.Fill.{tabulate_as}
use Rattle.state_bytes.proofs.Placed.{thread_placed}
use Rattle.state_bytes.proofs.read.read_threads.Goals as goal

pub returns : goal.returns
returns c = tabulate_as c.read_fields.ensures refl (thread_placed c.args.state.now)

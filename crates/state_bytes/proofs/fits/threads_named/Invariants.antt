-- `state_bytes::fits::threads_named` meets its contract. The loop's invariant: all steps are within exactly if the largest of those so far is, and
-- those to come are. Assumes nothing.
use Prim.Native.Nat.{◌≤◌}
use mathlib.Core.Bool.{◌&&◌}
use mathlib.Core.Path.{◌≡◌}
use lib.Dec.{leb}
use lib.ListN.{length, drop}
use Rattle.model.specs.Statement.{all_within}
use Rattle.state_bytes.proofs.fits.threads_named.Given as goal

abbrev pub invariant-loop-t : goal.invariant-loop-t
invariant-loop-t l = (l.t-index ≤ length l.schedule) × (all_within l.workers l.schedule ≡ (leb l.largest l.workers && all_within l.workers (drop l.t-index l.schedule)))

-- `panel::status::write_entries` meets its contract. The loop's invariant: the bytes of the first i workers are put. Assumes nothing.
use Prim.Native.Nat.{ℕ}
use mathlib.Core.Path.{◌≡◌}
use lib.ListN.{length}
use Rattle.model.specs.Step.{State}
use Rattle.panel.specs.Reports.{worker_status}
use Rattle.panel.proofs.Showing.{BytesPut}
use Rattle.panel.proofs.status.write_entries.Given as goal

abbrev pub invariant-loop-i : goal.invariant-loop-i
invariant-loop-i l = (workers : ℕ) (s : State) → l.status ≡ worker_status workers s → BytesPut workers s l.initial.bytes l.bytes l.i

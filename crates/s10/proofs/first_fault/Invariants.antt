-- `s10::first_fault` meets its contract. The loop's invariant: the search from `i` on finds what the whole search finds. Assumes nothing.
use Prim.Native.Nat.{◌≤◌}
use mathlib.Core.Path.{◌≡◌}
use lib.ListN.{length, drop}
use Rattle.s10.specs.Text.{first_fault}
use Rattle.s10.proofs.first_fault.Given as goal

abbrev pub invariant-loop-i : goal.invariant-loop-i
invariant-loop-i l = (l.i ≤ length l.text) × (first_fault l.i (drop l.i l.text) ≡ first_fault 0 l.text)

-- `store::place` meets its contract. The loop's invariant: halvings lead from the first n places to those left. The measure is how many are
-- left. Assumes nothing.
use Prim.Native.Nat.{ℕ}
use Rattle.store.specs.declared.Left.{Left}
use Rattle.store.specs.Find.{Leads}
use Rattle.store.proofs.place.Given as goal

-- the first n places
abbrev pub first : ℕ → Left
first n = record { from = 0; size = n }

abbrev pub invariant-loop-left : goal.invariant-loop-left
invariant-loop-left l = Leads l.keys l.key (first l.n) l.left

abbrev pub decreases-loop-left : goal.decreases-loop-left
decreases-loop-left l = l.left.size

-- `choice::foremost_of` meets its contract. The loop's invariant: best is the foremost of the threads so far, and highest its rank. Assumes nothing.
use Prim.Native.Nat.{ℕ}
use mathlib.Core.Path.{◌≡◌}
use mathlib.Core.List.{List}
use lib.ListN.{get_or}
use Rattle.model.specs.declared.Thread.{Thread}
use Rattle.model.specs.declared.Thread.TheVariants.{Idle}
use Rattle.model.specs.Dispatch.{rank, foremost}
use Rattle.graph.specs.Arrays.{numbers}
use Rattle.choice.proofs.foremost_of.Given as goal

-- the rank of the thread at a place
abbrev pub rank_at : List ℕ → List Thread → ℕ → ℕ
rank_at seq threads t = rank (numbers seq) (get_or threads t Idle)

abbrev pub invariant-loop-before : goal.invariant-loop-before
invariant-loop-before l = record {
  best_is : l.best ≡ foremost (rank_at l.seq l.threads) l.before;
  highest_is : l.highest ≡ rank_at l.seq l.threads l.best;
}

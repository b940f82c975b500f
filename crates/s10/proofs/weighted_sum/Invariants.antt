-- `s10::weighted_sum` meets its contract. The loop's invariant: the sum so far and the sum of what is left are the whole sum. Assumes nothing.
use Prim.Native.Nat.{ℕ, ◌+◌}
use mathlib.Core.Path.{◌≡◌}
use mathlib.Core.List.{List}
use lib.ListN.{length, drop}
use Rattle.s10.specs.Text.{weights, weighted}
use Rattle.s10.specs.Parts.{values}
use Rattle.s10.proofs.weighted_sum.Given as goal

-- what is left of a text's weighted sum from place k on
abbrev pub rest : List ℕ → ℕ → ℕ
rest text k = weighted (drop k weights) (drop k (values text))

abbrev pub invariant-loop-weight : goal.invariant-loop-weight
invariant-loop-weight l = l.sum + rest l.digits (length l.yielded) ≡ weighted weights (values l.digits)

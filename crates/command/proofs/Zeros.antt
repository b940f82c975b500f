-- The first character that is not 0. Assumes nothing.
use Prim.Native.Nat.{ℕ, suc, ◌+◌, ◌≤◌}
use mathlib.Core.Path.{◌≡◌}
use mathlib.Core.Bool.{Bool, true, false, cond, not}
use mathlib.Core.List.{List, [], ◌∷◌}
use native.Mathlib.Omega.{arith}
use lib.Dec.{eqb}
use lib.ListN.{length}
use Rattle.std.specs.List.{position_or_len}
use Rattle.command.specs.Read.{first_not_zero}

-- it is as far on as there are zeros before it
pub zeros_counted : (i : ℕ) (text : List ℕ) → first_not_zero i text ≡ i + position_or_len (λ (c : ℕ). not (eqb c 48)) text
unfolding first_not_zero
zeros_counted i [] = omega arith
zeros_counted i (c ∷ text) = here (eqb c 48) (zeros_counted (i + 1) text)
  where
    here : (b : Bool) → first_not_zero (i + 1) text ≡ i + 1 + position_or_len (λ (c : ℕ). not (eqb c 48)) text →
        cond b (first_not_zero (i + 1) text) i ≡ i + cond (not (not b)) (1 + position_or_len (λ (c : ℕ). not (eqb c 48)) text) 0
    here true e = omega arith
    here false e = omega arith

-- it ends within the text or right after it
pub zeros_within : (i : ℕ) (text : List ℕ) → first_not_zero i text ≤ i + length text
unfolding first_not_zero
zeros_within i [] = omega arith
zeros_within i (c ∷ text) = here (eqb c 48) (zeros_within (i + 1) text)
  where
    here : (b : Bool) → first_not_zero (i + 1) text ≤ i + 1 + length text → cond b (first_not_zero (i + 1) text) i ≤ i + suc (length text)
    here true w = omega arith
    here false w = omega arith

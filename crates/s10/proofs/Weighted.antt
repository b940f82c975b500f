-- The weighted sum, term by term, its bound, and the bound of the check digit. Assumes nothing.
use Prim.Native.Nat.{ℕ, ◌+◌, ◌-◌, ◌*◌, ◌%◌, ◌≤◌, ◌<◌}
use mathlib.Core.Path.{◌≡◌, refl}
use mathlib.Core.Bool.{Bool, true, false, cond}
use mathlib.Core.List.{List, [], ◌∷◌}
use native.Mathlib.Nat.{mul-le-mul_left}
use native.Mathlib.Numerals.{add-one}
use native.Mathlib.Omega.{arith}
use borrow.Author.Tests.{eqb-false}
use lib.Dec.{eqb}
use lib.ListN.{length, get_or, drop, replicate}
use lib.Seq.{drop-cons}
use Rattle.s10.specs.Text.{weighted, weights, excepted, check_digit}
use Rattle.s10.specs.Parts.{Serial, values}
use Rattle.s10.proofs.Values.{length_values, values_below}
use Rattle.s10.proofs.Decimal.{AllBelow, tail_below}

-- the sum from place k on is the k-th product and the sum after it
pub weighted_step : (ws ds : List ℕ) (k : ℕ) → k < length ws → k < length ds →
    weighted (drop k ws) (drop k ds) ≡ get_or ws k 0 * get_or ds k 0 + weighted (drop (k + 1) ws) (drop (k + 1) ds)
unfolding weighted
weighted_step ws ds k hw hd = rw (add-one, drop-cons ws k 0 hw, drop-cons ds k 0 hd)

-- no digit passes 9
pub weighted_le : (ws ds : List ℕ) → AllBelow 10 ds → weighted ws ds ≤ weighted ws (replicate (length ds) 9)
unfolding weighted
weighted_le [] ds all = omega arith
weighted_le (w ∷ ws) [] all = omega arith
weighted_le (w ∷ ws) (d ∷ ds) all =
    let low : d < 10 = all 0 (omega arith) in
    let product = mul-le-mul_left {m = d} {n = 9} w (omega arith) in
    let rest = weighted_le ws ds (tail_below ds all) in
    omega arith

-- eight digits give at most 396, as eight nines do
pub weighted_bound : (text : List ℕ) → Serial text → weighted weights (values text) ≤ 396
unfolding weighted weights
weighted_bound text s = rw (length_values, s.long) at (weighted_le weights (values text) (values_below text s))

-- after the two exceptions a digit is left
excepted_below : (c : ℕ) → c ≤ 11 → excepted c < 10
unfolding excepted
excepted_below c h = cases (eqb c 10) (eqb c 11) refl refl
  where
    cases : (a b : Bool) → eqb c 10 ≡ a → eqb c 11 ≡ b → cond a 0 (cond b 5 c) < 10
    cases true b p q = omega arith
    cases false true p q = omega arith
    cases false false p q = omega (arith, eqb-false c 10 p, eqb-false c 11 q)

-- 11 less a remainder is at most 11
pub check_digit_below : (ds : List ℕ) → check_digit ds < 10
unfolding check_digit
check_digit_below ds = excepted_below (11 - weighted weights ds % 11) (omega arith)

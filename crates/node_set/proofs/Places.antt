-- The places of a word: shifted down by some of them it is 0 exactly if it is below their power of two. Assumes nothing.
use borrow.Author.Tests.{ltb-true, ltb-false, lt-ltb, eq-eqb, ne_eqb}
use mathlib.Core.Bool.{Bool, true, false}
use mathlib.Core.Path.{◌≡◌, refl}
use Prim.Native.Nat.{ℕ, ◌+◌, ◌*◌, ◌/◌, ◌%◌, ◌^◌, ◌≤◌, ◌<◌}
use native.Mathlib.Nat.{div-eq_of_lt, lt_of_lt_of_le, mod-lt}
use native.Mathlib.Omega.{arith}
use lib.Dec.{eqb, ltb}
use lib.Pow.{pow_mono, pow_pos, split}

-- a word below 2 ^ k has no more than k places
pub shifted_to_zero : (w k : ℕ) → eqb (w / 2 ^ k) 0 ≡ ltb w (2 ^ k)
shifted_to_zero w k = go (ltb w (2 ^ k)) refl
  where
    go : (t : Bool) → ltb w (2 ^ k) ≡ t → eqb (w / 2 ^ k) 0 ≡ t
    go true e = eq-eqb (w / 2 ^ k) 0 (div-eq_of_lt (ltb-true w (2 ^ k) e))
    go false e =
        ne_eqb (w / 2 ^ k) 0 (λ zero.
        let low : w % 2 ^ k < 2 ^ k = mod-lt w (pow_pos k) in
        let sum : 0 * 2 ^ k + w % 2 ^ k ≡ w = rw zero at (split w k) in
        omega (arith, ltb-false w (2 ^ k) e))

-- a word has no more than 64 places
pub all_places : (w k : ℕ) → w < 2 ^ 64 → 64 ≤ k → ltb w (2 ^ k) ≡ true
all_places w k fits h = lt-ltb w (2 ^ k) (lt_of_lt_of_le fits (pow_mono h))

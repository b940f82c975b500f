-- Tests one after the other: where all pass, each has passed. Assumes nothing.
use Prim.Native.Nat.{ℕ, zero, suc}
use mathlib.Core.Path.{◌≡◌, refl}
use mathlib.Core.Bool.{Bool, true, ◌&&◌, and-eq-true_iff}
use mathlib.Core.List.{List, [], ◌∷◌}
use lib.ListN.{get_or}

-- all of them, as `t && u && v` groups them
abbrev pub all_after : Bool → List Bool → Bool
all_after t [] = t
all_after t (u ∷ us) = all_after (t && u) us

abbrev pub all : List Bool → Bool
all [] = true
all (t ∷ ts) = all_after t ts

-- each of those that pass has passed
pub each_passed : (t : Bool) (ts : List Bool) → all_after t ts ≡ true → (i : ℕ) → get_or (t ∷ ts) i true ≡ true
each_passed t [] h zero = h
each_passed t [] h (suc i) = refl
each_passed t (u ∷ ts) h zero = ((and-eq-true_iff t u).0 (each_passed (t && u) ts h 0)).0
each_passed t (u ∷ ts) h (suc zero) = ((and-eq-true_iff t u).0 (each_passed (t && u) ts h 0)).1
each_passed t (u ∷ ts) h (suc (suc i)) = each_passed (t && u) ts h (suc i)

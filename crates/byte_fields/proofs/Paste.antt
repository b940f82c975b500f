-- Laws of writing: parts put one after the other are their concatenation. Assumes nothing.
use Prim.Native.Nat.{ℕ, zero, suc, ◌+◌, ◌*◌, ◌-◌, ◌/◌, ◌%◌, ◌^◌, ◌≤◌, ◌<◌}
use native.Mathlib.Nat.{add-zero, mul-zero, div-one, pow-suc, div-div-eq-div-mul}
use native.Mathlib.Numerals.{add-one}
use native.Mathlib.Omega.{arith}
use mathlib.Core.Path.{◌≡◌, refl, sym, ap, ap₂, ◌∙◌}
use mathlib.Core.List.{List, [], ◌∷◌, ◌++◌, append_assoc, append-nil}
use lib.ListN.{length, set, length-append, drop_of_length-le}
use lib.Seq.{length-sets, sets-eq, set_comm}
use Rattle.byte_fields.specs.Bytes.{bytes_of, fields, pasted}
use Rattle.byte_fields.proofs.Bytes.{one_byte, fields_length}

-- ---- one part

-- a store keeps the length
pub pasted_length : (at : ℕ) (part b : List ℕ) → length (pasted at part b) ≡ length b
unfolding pasted
pasted_length at part b = length-sets b at part

-- one element is one store
pub store_pastes : (at v : ℕ) (b : List ℕ) → set b at v ≡ pasted at (v ∷ []) b
unfolding pasted
store_pastes at v b = refl

-- and so is one byte of a number that fits it
pub byte_pastes : (at v : ℕ) (b : List ℕ) → v < 256 → set b at v ≡ pasted at (bytes_of 1 v) b
byte_pastes at v b h = store_pastes at v b ∙ rw (one_byte v h)

-- the stores of one part and then of the next are the stores of both
pub pasted_twice : (at : ℕ) (s t b : List ℕ) → pasted (at + length s) t (pasted at s b) ≡ pasted at (s ++ t) b
unfolding pasted
pasted_twice at [] t b = rw (add-zero at)
pasted_twice at (v ∷ s) t b =
    let e : at + suc (length s) ≡ suc at + length s = omega arith in
    rw e (pasted_twice (suc at) s t (set b at v))

-- a store before a part may come after it
pub store_before : (at v from : ℕ) (part b : List ℕ) → at < from → set (pasted from part b) at v ≡ pasted from part (set b at v)
unfolding pasted
store_before at v from [] b h = refl
store_before at v from (u ∷ part) b h =
    store_before at v (suc from) part (set b from u) (omega arith)
    ∙ ap (λ (l : List ℕ). pasted (suc from) part l) (set_comm b from at u v (λ e. omega arith))

-- a part as long as the list leaves nothing of it
pub pasted_whole : (part b : List ℕ) → length part ≡ length b → pasted 0 part b ≡ part
unfolding pasted
pasted_whole part b long =
    sets-eq part b 0 (omega arith) ∙ ap (λ (r : List ℕ). part ++ r) (drop_of_length-le b {i = 0 + length part} (omega arith)) ∙ append-nil part

-- three stores and a part after them
pub stores_before : (at x y z : ℕ) (part b : List ℕ) → pasted (at + 3) part (set (set (set b at x) (at + 1) y) (at + 2) z) ≡ pasted at (x ∷ y ∷ z ∷ part) b
unfolding pasted
stores_before at x y z part b =
    let third : at + 3 ≡ suc (suc (suc at)) = omega arith in
    let second : at + 2 ≡ suc (suc at) = omega arith in
    rw (third, second, add-one at)

-- ---- parts one after the other

-- b is a with a part of k elements put from an offset on.
pub record Put (at : ℕ) (part : List ℕ) (k : ℕ) (a b : List ℕ) : Type 0 where
  pub long : length part ≡ k
  pub is : b ≡ pasted at part a

-- at first there is no part
pub put_none : (at : ℕ) (a : List ℕ) → Put at [] 0 a a
unfolding pasted
put_none at a = record { long = refl; is = refl }

module _ {at : ℕ} {part : List ℕ} {k : ℕ} {a b : List ℕ} (p : Put at part k a b) where
  -- the list is as long as it was
  pub put_length : length b ≡ length a
  put_length = ap length p.is ∙ pasted_length at part a

  -- a part put right after it belongs to it
  pub put_more : {b' : List ℕ} (t : List ℕ) (q j : ℕ) → q ≡ at + k → length t ≡ j → b' ≡ pasted q t b → Put at (part ++ t) (k + j) a b'
  put_more t q j e long is = record {
    long = length-append part t ∙ ap₂ ◌+◌ p.long long;
    is = is ∙ rw (e, p.is, ← p.long, pasted_twice at part t a);
  }

  -- where nothing is left, the list is the part
  pub put_whole : at ≡ 0 → length a ≡ k → b ≡ part
  put_whole e long = p.is ∙ ap (λ (o : ℕ). pasted o part a) e ∙ pasted_whole part a (p.long ∙ sym long)

-- ---- fields

-- one field more is the last one
pub fields_more : (n : ℕ) (f : ℕ → List ℕ) → fields (suc n) f ≡ fields n f ++ f n
unfolding fields
fields_more zero f = append-nil (f 0)
fields_more (suc n) f = ap (λ (r : List ℕ). f 0 ++ r) (fields_more n (λ i. f (suc i))) ∙ sym (append_assoc (f 0) (fields n (λ i. f (suc i))) (f (suc n)))

-- fields with the same parts are the same
pub fields_same : (n : ℕ) (f g : ℕ → List ℕ) → ((i : ℕ) → f i ≡ g i) → fields n f ≡ fields n g
unfolding fields
fields_same zero f g same = refl
fields_same (suc n) f g same = ap₂ ◌++◌ (same 0) (fields_same n (λ i. f (suc i)) (λ i. g (suc i)) (λ i. same (suc i)))

-- The first i of n fields of one length, put from an offset on.
pub record PutFields (f : ℕ → List ℕ) (len n at : ℕ) (a b : List ℕ) (i : ℕ) : Type 0 where
  pub within : i ≤ n
  pub put : Put at (fields i f) (len * i) a b

-- before the first pass nothing is put
pub fields_none : (f : ℕ → List ℕ) (len n at : ℕ) (a : List ℕ) → PutFields f len n at a a 0
unfolding fields
fields_none f len n at a = record { within = omega arith; put = rw (mul-zero len) (put_none at a) }

module _ {f : ℕ → List ℕ} {len n at : ℕ} {a b : List ℕ} {i : ℕ} (p : PutFields f len n at a b i) where
  -- a pass puts one field more
  pub fields_put : {b' : List ℕ} (q : ℕ) → i < n → q ≡ at + len * i → length (f i) ≡ len → b' ≡ pasted q (f i) b → PutFields f len n at a b' (i + 1)
  fields_put q h e long is =
      let all : len * (i + 1) ≡ len * i + len = omega arith in
      record { within = omega arith; put = rw (all, add-one, fields_more i f) (put_more p.put (f i) q len e long is) }

  -- the list is as long as it was
  pub fields_put_length : length b ≡ length a
  fields_put_length = put_length p.put

  -- after the last pass all are put
  pub fields_all : n ≤ i → b ≡ pasted at (fields n f) a
  fields_all h =
      let e : i ≡ n = omega (arith, p.within) in
      p.put.is ∙ ap (λ (m : ℕ). pasted at (fields m f) a) e

-- all fields are put right after a part, and belong to it
pub put_fields : {at : ℕ} {part : List ℕ} {k : ℕ} {a b b' : List ℕ} → Put at part k a b → (len m : ℕ) {n : ℕ} (f : ℕ → List ℕ) → ((i : ℕ) → length (f i) ≡ len)
    → n ≡ m → b' ≡ pasted (at + k) (fields n f) b → Put at (part ++ fields m f) (k + len * m) a b'
put_fields {at} {k = k} {b = b} p len m {n} f long e is =
    put_more p (fields m f) (at + k) (len * m) refl (fields_length len m f long) (is ∙ ap (λ (j : ℕ). pasted (at + k) (fields j f) b) e)

-- ---- numbers

-- The last bytes of a number of `width` bytes, from byte k on, are put, and what is left of the number stands before them.
pub record PutBytes (at width n : ℕ) (a b : List ℕ) (rest k : ℕ) : Type 0 where
  pub done : ℕ
  pub left : k + done ≡ width
  pub rest_is : rest ≡ n / 256 ^ done
  pub is : b ≡ pasted (at + k) (bytes_of done n) a

-- before the first pass none is put
pub bytes_none : (at width n : ℕ) (a : List ℕ) → PutBytes at width n a a n width
unfolding pasted bytes_of
bytes_none at width n a = record { done = 0; left = add-zero width; rest_is = sym (div-one n); is = refl }

module _ {at width n : ℕ} {a b : List ℕ} {rest k : ℕ} (p : PutBytes at width n a b rest k) where
  -- a pass puts the byte before them
  pub bytes_more : 0 < k → PutBytes at width n a (set b (at + (k - 1)) (rest % 256)) (rest / 256) (k - 1)
  unfolding pasted bytes_of
  bytes_more h =
      let from : at + k ≡ suc (at + (k - 1)) = omega arith in
      record {
        done = suc p.done;
        left = omega (arith, p.left);
        rest_is = rw (p.rest_is, div-div-eq-div-mul, pow-suc 256 p.done);
        is = rw (p.is, p.rest_is) (store_before (at + (k - 1)) (n / 256 ^ p.done % 256) (at + k) (bytes_of p.done n) a (omega arith) ∙ rw from);
      }

  -- after the last pass all are put
  pub bytes_all : k ≡ 0 → b ≡ pasted at (bytes_of width n) a
  bytes_all e =
      let all : p.done ≡ width = omega (arith, p.left) in
      p.is ∙ rw (e, all, add-zero at)

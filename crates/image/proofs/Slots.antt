-- Laws of records: what each record of a store's image is, and how the last four bytes of a record are read. Assumes nothing.
use Prim.Native.Nat.{ℕ, zero, suc, ◌+◌, ◌-◌, ◌*◌, ◌≤◌, ◌<◌}
use native.Mathlib.Numerals.{add-one}
use native.Mathlib.Omega.{arith}
use mathlib.Core.Path.{◌≡◌, refl, sym, ap, ◌∙◌}
use mathlib.Core.List.{List, [], ◌++◌, append_assoc}
use borrow.Author.Tests.{lt-ltb, le-ltb, ne_eqb}
use borrow.Rule.Slice.PartMut.{put_mid}
use lib.ListN.{length, get_or, take, drop, drop_of_length-le, replicate, length-take, length-drop, length-replicate}
use lib.Seq.{sets, sets-eq}
use Rattle.std.proofs.lemmas.List.{replicate-append-replicate}
use lib.Dec.{eqb}
use Rattle.byte_fields.specs.Bytes.{bytes_of, number_at, fields, pasted}
use Rattle.byte_fields.proofs.Fill.{number_two, number_more}
use Rattle.byte_fields.proofs.Paste.{PutFields, put_none, put_more, put_fields, put_whole, fields_same, fields_put_length}
use Rattle.model.specs.Store.{Store, in_use}
use Rattle.model.specs.Image.{image_length, slot_bytes, next_index, slot_of, image_of, rest_in}
use Rattle.model.proofs.Image.{slot_length}

-- ---- written

module _ (place : ℕ) (st : Store) {n : ℕ} (used : n ≡ in_use st) where
  -- record 0 holds the first index and the place
  slot_head : {next : ℕ} → next ≡ next_index n 0 → slot_bytes next 0 place ≡ slot_of place st 0
  unfolding slot_of
  slot_head e = rw (e, used)

  -- a record of a place in use holds its entry
  pub slot_entry : (i : ℕ) {next : ℕ} → i < n → next ≡ next_index n (i + 1) → slot_bytes next (get_or st.chutes i 0) (get_or st.keys i 0) ≡ slot_of place st (suc i)
  unfolding slot_of
  slot_entry i h e = rw (e, ← used, lt-ltb i n h, add-one i)

  -- and any other zeros
  pub slot_zeros : (i : ℕ) → n ≤ i → slot_bytes 0 0 0 ≡ slot_of place st (suc i)
  unfolding slot_of
  slot_zeros i h = rw (← used, le-ltb i n h)

-- Records of zeros are zeros.
zero_slots : (m : ℕ) → fields m (λ i. slot_bytes 0 0 0) ≡ replicate (16 * m) 0
unfolding fields slot_bytes bytes_of
zero_slots zero = refl
zero_slots (suc m) =
    let one : slot_bytes 0 0 0 ++ replicate (16 * m) 0 ≡ replicate (16 + 16 * m) 0 = replicate-append-replicate 16 (16 * m) 0 in
    ap (λ (r : List ℕ). slot_bytes 0 0 0 ++ r) (zero_slots m) ∙ (one ∙ ap (λ (k : ℕ). replicate k 0) (omega arith))

-- fields behind fields
fields_join : (n m : ℕ) (f : ℕ → List ℕ) → fields n f ++ fields m (λ i. f (n + i)) ≡ fields (n + m) f
unfolding fields
fields_join zero m f =
    let none : 0 + m ≡ m = omega arith in
    rw none (fields_same m (λ i. f (0 + i)) f (λ i. ap f (omega arith)))
fields_join (suc n) m f =
    let g : ℕ → List ℕ = λ i. f (suc i) in
    let same : fields m (λ i. f (suc n + i)) ≡ fields m (λ i. g (n + i)) = fields_same m (λ i. f (suc n + i)) (λ i. g (n + i)) (λ i. ap f (omega arith)) in
    let count : suc n + m ≡ suc (n + m) = omega arith in
    rw (count, same) (append_assoc (f 0) (fields n g) (fields m (λ i. g (n + i))) ∙ ap (λ (r : List ℕ). f 0 ++ r) (fields_join n m g))

-- Where the first n records are put and the others are to be zeros, zeros that fill the rest of the list put them.
pub zeros_put : {f : ℕ → List ℕ} {capacity n : ℕ} {a b zeros : List ℕ} → PutFields f 16 capacity 16 a b n → ((i : ℕ) → n ≤ i → slot_bytes 0 0 0 ≡ f i)
    → length a ≡ image_length capacity → zeros ≡ replicate (length (take (length b - 16 * (n + 1)) (drop (16 * (n + 1)) b))) 0
    → put_mid (16 * (n + 1)) (length b - 16 * (n + 1)) b zeros ≡ pasted 16 (fields capacity f) a
unfolding image_length pasted
zeros_put {f} {capacity} {n} {a} {b} {zeros} p others long e =
    let same : length b ≡ length a = fields_put_length p in
    let count : length (take (length b - 16 * (n + 1)) (drop (16 * (n + 1)) b)) ≡ 16 * (capacity - n) = simp (length-take, length-drop) (omega (arith, p.within)) in
    let are_fields : zeros ≡ fields (capacity - n) (λ i. f (n + i))
    = e ∙ (ap (λ (k : ℕ). replicate k 0) count ∙ (sym (zero_slots (capacity - n)) ∙ fields_same (capacity - n) (λ i. slot_bytes 0 0 0) (λ i. f (n + i)) (λ i. others (n + i) (omega arith)))) in
    let many : length zeros ≡ 16 * (capacity - n) = ap length e ∙ (length-replicate _ 0 ∙ count) in
    let none : drop (length b - 16 * (n + 1)) (drop (16 * (n + 1)) b) ≡ [] = drop_of_length-le (drop (16 * (n + 1)) b) (simp length-drop (omega arith)) in
    let none_too : drop (16 * (n + 1) + length zeros) b ≡ [] = drop_of_length-le b (omega (arith, p.within)) in
    let is_pasted : put_mid (16 * (n + 1)) (length b - 16 * (n + 1)) b zeros ≡ sets b (16 * (n + 1)) zeros
    = rw (sets-eq zeros b (16 * (n + 1)) (omega (arith, p.within)), none, none_too) (simp append_assoc) in
    let put = put_more p.put zeros (16 * (n + 1)) (16 * (capacity - n)) (omega arith) many is_pasted in
    let whole : n + (capacity - n) ≡ capacity = omega (arith, p.within) in
    put.is ∙ ap (λ (part : List ℕ). sets a 16 part) (ap (λ (z : List ℕ). fields n f ++ z) are_fields ∙ (fields_join n (capacity - n) f ∙ ap (λ (k : ℕ). fields k f) whole))

-- an image is record 0 and then the others
image_of_lem : (capacity place : ℕ) (st : Store) → slot_of place st 0 ++ fields capacity (λ i. slot_of place st (suc i)) ≡ image_of capacity place st
unfolding image_of fields
image_of_lem capacity place st = rw (add-one capacity)

-- record 0 put, and then the others, leave the image
pub image_put : (capacity place : ℕ) (st : Store) (a : List ℕ) {b c : List ℕ} {n next : ℕ} → length a ≡ image_length capacity → n ≡ in_use st → next ≡ next_index n 0
    → b ≡ pasted 0 (slot_bytes next 0 place) a → c ≡ pasted 16 (fields capacity (λ i. slot_of place st (suc i))) b → c ≡ image_of capacity place st
unfolding image_length
image_put capacity place st a long used next first others =
    let head = put_more (put_none 0 a) (slot_of place st 0) 0 16 refl (slot_length place st 0) (first ∙ ap (λ (part : List ℕ). pasted 0 part a) (slot_head place st used next)) in
    let all = put_fields head 16 capacity (λ i. slot_of place st (suc i)) (λ i. slot_length place st (suc i)) refl others in
    put_whole all refl (long ∙ omega arith) ∙ image_of_lem capacity place st

-- ---- read

-- four bytes are two numbers of two
number_four : (at : ℕ) (bytes : List ℕ) → at + 4 ≤ length bytes → number_at 4 at bytes ≡ number_at 2 at bytes * 65536 + number_at 2 (at + 2) bytes
number_four at bytes h =
    let e : at + 2 + 1 ≡ at + 3 = omega arith in
    let low = number_two (at + 2) bytes (omega arith) in
    omega (arith, number_more 3 at bytes (omega arith), number_more 2 at bytes (omega arith), rw e at low)

module _ (image : List ℕ) (i : ℕ) (fits : 16 * i + 16 ≤ length image) (high low : ℕ) (h : high ≡ number_at 2 (16 * i + 12) image) (l : low ≡ number_at 2 (16 * i + 14) image) where
  -- the rest is both
  rest_is : rest_in image i ≡ high * 65536 + low
  unfolding rest_in
  rest_is =
      let e : 16 * i + 12 + 2 ≡ 16 * i + 14 = omega arith in
      number_four (16 * i + 12) image (omega arith) ∙ rw (e, h, l)

  -- where the high one is 0, the low one decides
  pub rest_passes : high ≡ 0 → eqb low 0 ≡ eqb (rest_in image i) 0
  rest_passes z =
      let e : low ≡ rest_in image i = omega (arith, rest_is) in
      ap (λ (n : ℕ). eqb n 0) e

-- where the high one is not 0, the rest is not
pub rest_fails : (image : List ℕ) (i : ℕ) → 16 * i + 16 ≤ length image → (high : ℕ) → high ≡ number_at 2 (16 * i + 12) image → (high ≡ 0 → ⊥) → eqb high 0 ≡ eqb (rest_in image i) 0
rest_fails image i fits high h ne =
    let is = rest_is image i fits high (number_at 2 (16 * i + 14) image) h refl in
    ne_eqb high 0 ne ∙ sym (ne_eqb (rest_in image i) 0 (λ e. ne (omega arith)))

-- What is read in a record of an image, by the bytes that lie there. Assumes nothing.
use Rattle.std.specs.Prelude.{ℕ, zero, suc, ◌+◌, ◌*◌, ◌^◌, ◌<◌, ◌≡◌, refl, List, ◌++◌, length, replicate}
use Rattle.std.proofs.Common.{zero-add, arith}
use Rattle.byte_fields.specs.Bytes.{bytes_of, number_after, number_at, fields}
use Rattle.byte_fields.proofs.Bytes.{Lies, lies_whole, lies_first, lies_rest, lies_number, lies_field, bytes_length}
use Rattle.model.specs.Image.{slot_bytes, next_in, chute_in, key_in, rest_in}

-- record i of an image holds the fields, and zeros in its rest
pub record SlotHolds (image : List ℕ) (i next chute key : ℕ) : Type 0 where
  pub next_is : next_in image i ≡ next
  pub chute_is : chute_in image i ≡ chute
  pub key_is : key_in image i ≡ key
  pub rest_is : rest_in image i ≡ 0

-- numbers that fit their fields are read where their bytes lie
pub slot_holds : (image : List ℕ) (i next chute key : ℕ) → next < 256 ^ 2 → chute < 256 ^ 2 → key < 256 ^ 8 → Lies (slot_bytes next chute key) (16 * i) image → SlotHolds image i next chute key
unfolding slot_bytes next_in chute_in key_in rest_in
slot_holds image i next chute key n c k l =
    let three : List ℕ = bytes_of 2 next ++ bytes_of 2 chute ++ bytes_of 8 key in
    let two : List ℕ = bytes_of 2 next ++ bytes_of 2 chute in
    let first = lies_first three (bytes_of 4 0) l in
    let front = lies_first two (bytes_of 8 key) first in
    record {
      next_is = lies_number 2 next n (lies_first (bytes_of 2 next) (bytes_of 2 chute) front);
      chute_is = lies_number 2 chute c (lies_rest (bytes_of 2 next) (bytes_of 2 chute) 2 (bytes_length 2 next) front);
      key_is = lies_number 8 key k (lies_rest two (bytes_of 8 key) 4 refl first);
      rest_is = lies_number 4 0 (omega arith) (lies_rest three (bytes_of 4 0) 12 refl l);
    }

-- so in an image laid out record by record, each of 16 bytes, a record is read as it was laid out
pub slot_laid : (n : ℕ) (slot : ℕ → List ℕ) → ((i : ℕ) → length (slot i) ≡ 16) → (i next chute key : ℕ) → i < n → slot i ≡ slot_bytes next chute key
    → next < 256 ^ 2 → chute < 256 ^ 2 → key < 256 ^ 8 → SlotHolds (fields n slot) i next chute key
slot_laid n slot long i next chute key h is a b c =
    slot_holds (fields n slot) i next chute key a b c (rw (← is, ← zero-add (16 * i)) (lies_field 16 n slot long (lies_whole (fields n slot)) i h))

-- ---- zeros

-- bytes that are 0 write 0
pub zeros_number : (k at n : ℕ) → number_at k at (replicate n 0) ≡ 0
unfolding number_at number_after
zeros_number zero at n = refl
zeros_number (suc k) zero zero = refl
zeros_number (suc k) zero (suc n) = zeros_number k zero n
zeros_number (suc k) (suc at) zero = refl
zeros_number (suc k) (suc at) (suc n) = zeros_number (suc k) at n

-- every record of zeros holds none but zeros
pub zeros_hold : (n i : ℕ) → SlotHolds (replicate n 0) i 0 0 0
unfolding next_in chute_in key_in rest_in
zeros_hold n i = record {
  next_is = zeros_number 2 (16 * i) n;
  chute_is = zeros_number 2 (16 * i + 2) n;
  key_is = zeros_number 8 (16 * i + 4) n;
  rest_is = zeros_number 4 (16 * i + 12) n;
}

-- How long an image is, and each of its records. Assumes nothing.
use Rattle.std.specs.Prelude.{ℕ, zero, suc, ◌+◌, ◌≡◌, refl, List, length, get_or, ltb}
use Rattle.std.proofs.lemmas.List.{length-replicate}
use Rattle.byte_fields.specs.Bytes.{bytes_of}
use Rattle.byte_fields.proofs.Bytes.{fields_length}
use Rattle.model.specs.Store.{Store, in_use}
use Rattle.model.specs.Image.{image_length, slot_bytes, next_index, slot_of, image_of, empty_image}
use Rattle.command.proofs.Tests.{cond_cases}

pub slot_bytes_length : (next chute key : ℕ) → length (slot_bytes next chute key) ≡ 16
unfolding slot_bytes bytes_of
slot_bytes_length next chute key = refl

pub slot_length : (place : ℕ) (st : Store) (i : ℕ) → length (slot_of place st i) ≡ 16
unfolding slot_of
slot_length place st zero = slot_bytes_length (next_index (in_use st) 0) 0 place
slot_length place st (suc i) = cond_cases (λ (l : List ℕ). length l ≡ 16) (ltb i (in_use st)) (λ _. slot_bytes_length (next_index (in_use st) (suc i)) (get_or st.chutes i 0) (get_or st.keys i 0))
    (λ _. slot_bytes_length 0 0 0)

pub image_length_lem : (capacity place : ℕ) (st : Store) → length (image_of capacity place st) ≡ image_length capacity
unfolding image_of image_length
image_length_lem capacity place st = fields_length 16 (capacity + 1) (slot_of place st) (slot_length place st)

pub empty_length : (capacity : ℕ) → length (empty_image capacity) ≡ image_length capacity
unfolding empty_image
empty_length capacity = length-replicate (image_length capacity) 0

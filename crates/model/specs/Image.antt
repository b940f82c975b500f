-- The image of the store that a checkpoint writes, and that a run can be opened from: document 02, A.3. Every definition is total: it says
-- what is read in any bytes. Assumes nothing.
use Prim.Native.Nat.{ℕ, zero, suc, ◌+◌, ◌*◌}
use Rattle.std.specs.Prelude.{Bool, true, ◌&&◌, get_or, replicate, eqb, leb, ltb}
use Rattle.std.proofs.Math.Bool.{cond}
use mathlib.Core.List.{List, [], ◌∷◌, ◌++◌, map}
use Rattle.s10.specs.Text.{largest_key}
use Rattle.byte_fields.specs.Bytes.{bytes_of, number_at, fields}
use Rattle.model.specs.Serial.{Entry}
use Rattle.model.specs.Store.{Store, in_use}

-- ---- written

-- "The image has room + 1 records of 16 bytes"
unfoldable pub image_length : ℕ → ℕ
image_length capacity = 16 * (capacity + 1)

-- "next index (2), chute (2), key (8), four zero bytes, high byte first"
unfoldable pub slot_bytes : ℕ → ℕ → ℕ → List ℕ
unfolding bytes_of
slot_bytes next chute key = bytes_of 2 next ++ bytes_of 2 chute ++ bytes_of 8 key ++ bytes_of 4 0

-- "The writer fills records 1, 2 and on": behind record i stands record i + 1 where there is an entry more; "index 0 ends the chain"
unfoldable pub next_index : ℕ → ℕ → ℕ
next_index used i = cond (ltb i used) (i + 1) 0

-- "Record 0 holds the first next index, chute 0 and, in its key field, the delivery place"; "and zeroes the rest"
unfoldable pub slot_of : ℕ → Store → ℕ → List ℕ
unfolding slot_bytes next_index
slot_of place st zero = slot_bytes (next_index (in_use st) 0) 0 place
slot_of place st (suc i) = cond (ltb i (in_use st)) (slot_bytes (next_index (in_use st) (suc i)) (get_or st.chutes i 0) (get_or st.keys i 0)) (slot_bytes 0 0 0)

unfoldable pub image_of : ℕ → ℕ → Store → List ℕ
unfolding fields slot_of
image_of capacity place st = fields (capacity + 1) (slot_of place st)

-- "Opening leaves this image all zeros"
unfoldable pub empty_image : ℕ → List ℕ
unfolding image_length
empty_image capacity = replicate (image_length capacity) 0

-- ---- read

module _ (image : List ℕ) where
  -- the fields of record i
  unfoldable pub next_in : ℕ → ℕ
  unfolding number_at
  next_in i = number_at 2 (16 * i) image

  unfoldable pub chute_in : ℕ → ℕ
  unfolding number_at
  chute_in i = number_at 2 (16 * i + 2) image

  unfoldable pub key_in : ℕ → ℕ
  unfolding number_at
  key_in i = number_at 8 (16 * i + 4) image

  unfoldable pub rest_in : ℕ → ℕ
  unfolding number_at
  rest_in i = number_at 4 (16 * i + 12) image

  -- "a reader follows the chain wherever it leads": the first n indexes of the chain that begins with index i
  unfoldable pub chain_from : ℕ → ℕ → List ℕ
  unfolding next_in
  chain_from zero i = []
  chain_from (suc n) i = cond (eqb i 0) [] (i ∷ chain_from n (next_in i))

-- The chain, one index further than an image of the capacity has room for: a chain of that many indexes has one that passes the room, or
-- one twice, and is none to read.
unfoldable pub chain_in : ℕ → List ℕ → List ℕ
unfolding chain_from next_in
chain_in capacity image = chain_from image (capacity + 1) (next_in image 0)

unfoldable pub all : (ℕ → Bool) → List ℕ → Bool
all test [] = true
all test (n ∷ ns) = test n && all test ns

unfoldable pub strictly_ascend : List ℕ → Bool
strictly_ascend [] = true
strictly_ascend (a ∷ []) = true
strictly_ascend (a ∷ b ∷ ns) = ltb a b && strictly_ascend (b ∷ ns)

-- refusal 15 where this fails: "when an index in record 0 or on the chain passes the room or the keys on the chain don't strictly ascend"
unfoldable pub chain_fits : ℕ → List ℕ → Bool
unfolding chain_in all strictly_ascend key_in
chain_fits capacity image =
    let chain : List ℕ = chain_in capacity image in
    all (λ i. leb i capacity) chain && strictly_ascend (map (key_in image) chain)

-- refusal 16 where this fails: "when record 0's chute, place or zero bytes, or a key, a chute (1 to 512) or a zero byte on the chain, is out
-- of range"; the place is "at most 4,096"
unfoldable pub head_fits : List ℕ → Bool
unfolding chute_in key_in rest_in
head_fits image = eqb (chute_in image 0) 0 && leb (key_in image 0) 4096 && eqb (rest_in image 0) 0

unfoldable pub slot_fits : List ℕ → ℕ → Bool
unfolding chute_in key_in rest_in
slot_fits image i = leb (key_in image i) largest_key && leb 1 (chute_in image i) && leb (chute_in image i) 512 && eqb (rest_in image i) 0

unfoldable pub slots_fit : ℕ → List ℕ → Bool
unfolding head_fits slot_fits chain_in all
slots_fit capacity image = head_fits image && all (slot_fits image) (chain_in capacity image)

-- what an image holds: the entries along its chain, and the place of its checkpoint, 0 for none
unfoldable pub entries_in : ℕ → List ℕ → List Entry
unfolding chain_in key_in chute_in
entries_in capacity image = map (λ (i : ℕ). record { key = key_in image i; chute = chute_in image i }) (chain_in capacity image)

unfoldable pub seq_in : List ℕ → ℕ
unfolding key_in
seq_in image = key_in image 0

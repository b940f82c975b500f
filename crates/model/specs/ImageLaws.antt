-- What holds of images. Statements only: proofs/ImageLaws proves them. Assumes nothing.
use Rattle.std.specs.Prelude.{ℕ, ◌+◌, ◌≤◌, ◌≡◌, true, List, [], length}
use Rattle.model.specs.Serial.{Entry, Stored}
use Rattle.model.specs.Store.{lay_out}
use Rattle.model.specs.Image.{image_length, image_of, empty_image, next_in, chain_from, chain_in, chain_fits, slots_fit, entries_in, seq_in}

-- an image of a store of the capacity is accepted, and holds the entries and the place
pub record ReadsAs (capacity : ℕ) (image : List ℕ) (place : ℕ) (es : List Entry) : Type 0 where
  pub long : length image ≡ image_length capacity
  pub chain : chain_fits capacity image ≡ true
  pub slots : slots_fit capacity image ≡ true
  pub entries : entries_in capacity image ≡ es
  pub seq : seq_in image ≡ place

-- Reading what was written gives the entries.
abbrev pub WrittenReadsBack : Type 0
WrittenReadsBack =
    (capacity place : ℕ) (es : List Entry) → capacity ≤ 4096 → place ≤ 4096 → Stored capacity es → ReadsAs capacity (image_of capacity place (lay_out capacity es)) place es

-- "all zeros, which reads as an empty store"
abbrev pub ZerosReadAsEmpty : Type 0
ZerosReadAsEmpty = (capacity : ℕ) → ReadsAs capacity (empty_image capacity) 0 []

-- What an accepted image holds, a store of the capacity can hold.
abbrev pub AcceptedIsStored : Type 0
AcceptedIsStored = (capacity : ℕ) (image : List ℕ) → chain_fits capacity image ≡ true → slots_fit capacity image ≡ true → Stored capacity (entries_in capacity image)

-- A chain that is accepted ends within the room: whoever follows it further meets no further index.
abbrev pub ChainEnds : Type 0
ChainEnds =
    (capacity : ℕ) (image : List ℕ) → chain_fits capacity image ≡ true
    → (length (chain_in capacity image) ≤ capacity) × ((n : ℕ) → capacity + 1 ≤ n → chain_from image n (next_in image 0) ≡ chain_in capacity image)

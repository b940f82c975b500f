-- What reading and writing identifiers are to each other, and what the character that a reading names tells, for every text and every key.
-- Statements only: `proofs/Laws.antt` proves them. Assumes nothing.
use Rattle.std.specs.Prelude.{ℕ, ◌+◌, ◌≤◌, ◌<◌, ◌≡◌, true, false, List, length, get_or}
use Rattle.s10.specs.Refusal.{Refusal}
use Rattle.s10.specs.Text.{is_allowed, largest_key, text_of, untested_key}
use Rattle.s10.specs.Outcome.{accepted, refused, read_text, refusal_read}

-- Reading what was written gives the key.
abbrev pub WrittenReadsBack : Type 0
WrittenReadsBack = (key : ℕ) → key ≤ largest_key → read_text (text_of key) ≡ accepted key

-- Writing what was read gives the text.
abbrev pub ReadWritesBack : Type 0
ReadWritesBack = (text : List ℕ) (key : ℕ) → read_text text ≡ accepted key → text_of key ≡ text

-- Every key up to the largest is some text's.
abbrev pub EveryKeyHasText : Type 0
EveryKeyHasText = (key : ℕ) → key ≤ largest_key → (text : List ℕ) × (read_text text ≡ accepted key)

-- Two accepted texts with one key are the same text.
abbrev pub KeyHasOneText : Type 0
KeyHasOneText = (text other : List ℕ) (key : ℕ) → read_text text ≡ accepted key → read_text other ≡ accepted key → text ≡ other

-- An accepted key is at most the largest.
abbrev pub AcceptedIsAtMostLargest : Type 0
AcceptedIsAtMostLargest = (text : List ℕ) (key : ℕ) → read_text text ≡ accepted key → key ≤ largest_key

-- An accepted text has its key also untested.
abbrev pub AcceptedAsUntested : Type 0
AcceptedAsUntested = (text : List ℕ) (key : ℕ) → read_text text ≡ accepted key → untested_key text ≡ key

-- ---- the first faulty character

-- the character that a reading names
abbrev pub character_of : List ℕ → ℕ
character_of text = (refusal_read (read_text text)).character

-- It is 0 exactly on an accepted text and on a wrong length.
abbrev pub CharacterZero : Type 0
CharacterZero =
    ((text : List ℕ) → character_of text ≡ 0 → length text ≡ 13 → (key : ℕ) × (read_text text ≡ accepted key))
    × ((text : List ℕ) (key : ℕ) → read_text text ≡ accepted key → character_of text ≡ 0)
    × ((text : List ℕ) → (length text ≡ 13 → ⊥) → character_of text ≡ 0)

-- All characters before it are in order; it counts from 1, positions from 0.
abbrev pub BeforeIsInOrder : Type 0
BeforeIsInOrder = (text : List ℕ) (i : ℕ) → i + 1 < character_of text → is_allowed i (get_or text i 0) ≡ true

-- It is one of the thirteen, and out of order where it does not name a wrong check digit.
abbrev pub NamedIsFaulty : Type 0
NamedIsFaulty =
    (text : List ℕ) (i : ℕ) → character_of text ≡ i + 1 → (i < 13) × (((refusal_read (read_text text)).number ≡ 9 → ⊥) → is_allowed i (get_or text i 0) ≡ false)

-- Under 8 and 13, changing only characters after it changes neither number nor character.
abbrev pub LaterChangesNothing : Type 0
LaterChangesNothing =
    (text other : List ℕ) (r : Refusal) → read_text text ≡ refused r → (r.number ≡ 9 → ⊥) → length other ≡ length text
    → ((i : ℕ) → i < r.character → get_or other i 0 ≡ get_or text i 0) → read_text other ≡ refused r

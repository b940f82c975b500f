-- The parts of a state's bytes, and where each of them lies: numbers, runs of fields, a set's three words, a thread's parts. Assumes nothing.
use Prim.Native.Nat.{ℕ, suc, ◌+◌, ◌-◌, ◌%◌, ◌≤◌, ◌<◌}
use native.Mathlib.Omega.{arith}
use mathlib.Core.Path.{◌≡◌, refl, sym, ap, ◌∙◌}
use mathlib.Core.Bool.{Bool, true, false}
use mathlib.Core.List.{List, [], ◌∷◌, ◌++◌, append_assoc, append-nil}
use lib.ListN.{length, get_or, take}
use Rattle.node_set.specs.Members.{member, word_of}
use Rattle.node_set.proofs.Bits.{bit_of_zero}
use Rattle.node_set.proofs.Words.{member_low, member_high}
use Rattle.node_set.proofs.Laws.{word_of_is_word_of}
use Rattle.model.specs.declared.Thread.{Thread}
use Rattle.model.specs.declared.Thread.TheVariants.{Idle, Loading, Searching, Holding, LookedUp, Written, Walking, Clearing}
use Rattle.model.specs.Setup.{Setup}
use Rattle.model.specs.Step.{State}
use Rattle.model.proofs.Formed.{ThreadFormed}
use Rattle.byte_fields.specs.Bytes.{bytes_of, fields}
use Rattle.state_bytes.specs.Layout.{lock_coupled, flag_byte, set_bytes, thread_bytes, head_bytes, state_bytes, thread_of}
use Rattle.byte_fields.proofs.Bytes.{◌▸◌, bytes_length, Lies, HaveLengths, joined, total, lies_part, lies_whole, joined_length, fields_length, below_or_past}

-- ---- a set as three words

-- the words of a set
abbrev pub words_of : (ℕ → Bool) → List ℕ
words_of set = word_of 64 set ∷ word_of 64 (λ b. set (64 + b)) ∷ word_of 64 (λ b. set (128 + b)) ∷ []

-- the first word has the first 64 members, and the others the rest
member_of_word : (set : ℕ → Bool) (words : List ℕ) → ((y : ℕ) → member words y ≡ set (64 + y)) → (y : ℕ) → member (word_of 64 set ∷ words) y ≡ set y
member_of_word set words rest y =
    below_or_past y 64
    (λ h. member_low (word_of 64 set) words y h ∙ (word_of_is_word_of 64 set).inside y h)
    (λ h. let split : y ≡ 64 + (y - 64) = omega arith in rw split (member_high (word_of 64 set) words (y - 64) ∙ rest (y - 64)))

-- no word has no member
pub no_member : (y : ℕ) → member [] y ≡ false
unfolding member
no_member y = bit_of_zero (y % 64)

-- a set with no member from 192 on has its words' members: word after word, and none past the third
pub members_of_words : (set : ℕ → Bool) → ((y : ℕ) → 192 ≤ y → set y ≡ false) → (y : ℕ) → member (words_of set) y ≡ set y
members_of_words set past =
    member_of_word set _ (member_of_word (λ b. set (64 + b)) _ (λ y. third y ∙ ap set (omega arith)))
  where
    third : (y : ℕ) → member (word_of 64 (λ b. set (128 + b)) ∷ []) y ≡ set (128 + y)
    third = member_of_word (λ b. set (128 + b)) [] (λ y. no_member y ∙ sym (past (128 + (64 + y)) (omega arith)))

-- ---- the parts of a thread

-- the number of its state, where it stands, its own node and what it found, 0 where it has none
abbrev pub tag_of : Thread → ℕ
tag_of Idle = 0
tag_of (Loading at own) = 1
tag_of (Searching at) = 2
tag_of (Holding own) = 3
tag_of (LookedUp own found) = 4
tag_of (Written own) = 5
tag_of (Walking at own) = 6
tag_of (Clearing at own) = 7

abbrev pub at_of : Thread → ℕ
at_of Idle = 0
at_of (Loading at own) = at.0
at_of (Searching at) = at.0
at_of (Holding own) = 0
at_of (LookedUp own found) = 0
at_of (Written own) = 0
at_of (Walking at own) = at.0
at_of (Clearing at own) = at.0

abbrev pub own_of : Thread → ℕ
own_of Idle = 0
own_of (Loading at own) = own.0
own_of (Searching at) = 0
own_of (Holding own) = own.0
own_of (LookedUp own found) = own.0
own_of (Written own) = own.0
own_of (Walking at own) = own.0
own_of (Clearing at own) = own.0

abbrev pub found_of : Thread → ℕ
found_of Idle = 0
found_of (Loading at own) = 0
found_of (Searching at) = 0
found_of (Holding own) = 0
found_of (LookedUp own found) = found
found_of (Written own) = 0
found_of (Walking at own) = 0
found_of (Clearing at own) = 0

-- the three of one byte
abbrev pub thread_head : Thread → List ℕ
thread_head thread = tag_of thread ∷ at_of thread ∷ own_of thread ∷ []

-- its bytes are these parts
pub thread_parts : (thread : Thread) → thread_bytes thread ≡ thread_head thread ++ bytes_of 2 (found_of thread)
unfolding thread_bytes
thread_parts Idle = refl
thread_parts (Loading at own) = refl
thread_parts (Searching at) = refl
thread_parts (Holding own) = refl
thread_parts (LookedUp own found) = refl
thread_parts (Written own) = refl
thread_parts (Walking at own) = refl
thread_parts (Clearing at own) = refl

-- and these parts make it again
pub thread_again : (thread : Thread) → thread_of (tag_of thread) (at_of thread) (own_of thread) (found_of thread) ≡ thread
unfolding thread_of
thread_again Idle = refl
thread_again (Loading at own) = refl
thread_again (Searching at) = refl
thread_again (Holding own) = refl
thread_again (LookedUp own found) = refl
thread_again (Written own) = refl
thread_again (Walking at own) = refl
thread_again (Clearing at own) = refl

-- a formed thread found a number of two bytes, or nothing
pub found_fits_lem : (size : ℕ) (thread : Thread) → ThreadFormed size thread → found_of thread < 65536
found_fits_lem size Idle h = omega arith
found_fits_lem size (Loading at own) h = omega arith
found_fits_lem size (Searching at) h = omega arith
found_fits_lem size (Holding own) h = omega arith
found_fits_lem size (LookedUp own found) h = h.1
found_fits_lem size (Written own) h = omega arith
found_fits_lem size (Walking at own) h = omega arith
found_fits_lem size (Clearing at own) h = omega arith

-- ---- lengths

-- one byte for a flag
pub flag_length : (b : Bool) → length (flag_byte b) ≡ 1
flag_length false = refl
flag_length true = refl

-- the bytes of a set are those of its words
set_joined : (set : ℕ → Bool) → set_bytes set ≡ bytes_of 8 (word_of 64 set) ++ bytes_of 8 (word_of 64 (λ b. set (64 + b))) ++ bytes_of 8 (word_of 64 (λ b. set (128 + b)))
unfolding set_bytes
set_joined set = refl

abbrev pub set_parts : (ℕ → Bool) → List (List ℕ)
set_parts set = bytes_of 8 (word_of 64 set) ∷ bytes_of 8 (word_of 64 (λ b. set (64 + b))) ∷ bytes_of 8 (word_of 64 (λ b. set (128 + b))) ∷ []

pub set_parts_lem : (set : ℕ → Bool) → set_bytes set ≡ joined (set_parts set)
set_parts_lem set = set_joined set ∙ simp (append_assoc, append-nil)

-- eight bytes for a word, 24 for a set, 5 for a thread
pub set_lengths : (set : ℕ → Bool) → HaveLengths (set_parts set) (8 ∷ 8 ∷ 8 ∷ [])
set_lengths set = bytes_length 8 _ ▸ bytes_length 8 _ ▸ bytes_length 8 _ ▸ tt

pub set_length : (set : ℕ → Bool) → length (set_bytes set) ≡ 24
set_length set = ap length (set_parts_lem set) ∙ joined_length (set_parts set) (8 ∷ 8 ∷ 8 ∷ []) (set_lengths set)

pub thread_length : (thread : Thread) → length (thread_bytes thread) ≡ 5
thread_length thread = ap length (thread_parts thread) ∙ ap (λ (n : ℕ). suc (suc (suc n))) (bytes_length 2 (found_of thread))

-- ---- where each field lies

-- the lengths of the parts: ten numbers, then next indexes, sequence numbers, node states, locks, sets and threads
abbrev pub part_lengths : List ℕ
part_lengths = 1 ∷ 1 ∷ 1 ∷ 1 ∷ 2 ∷ 2 ∷ 2 ∷ 2 ∷ 1 ∷ 1 ∷ 151 ∷ 302 ∷ 151 ∷ 151 ∷ 3624 ∷ 325 ∷ []

module _ (o : Setup) (s : State) where
  -- the parts of a state's bytes, in order
  abbrev pub parts_of : List (List ℕ)
  parts_of =
      bytes_of 1 lock_coupled ∷ bytes_of 1 o.size ∷ bytes_of 1 o.workers ∷ bytes_of 1 o.largest ∷ bytes_of 2 o.capacity ∷ bytes_of 2 (length o.commands) ∷ bytes_of 2 s.graph.loaded
      ∷ bytes_of 2 s.service.store.used ∷ bytes_of 1 s.graph.free ∷ bytes_of 1 s.service.limit ∷ fields 151 (λ n. bytes_of 1 (s.graph.next n)) ∷ fields 151 (λ n. bytes_of 2 (s.graph.seq n))
      ∷ fields 151 (λ n. flag_byte (s.graph.executing n)) ∷ fields 151 (λ n. flag_byte (s.graph.locked n)) ∷ fields 151 (λ n. set_bytes (s.graph.waits n))
      ∷ fields 65 (λ t. thread_bytes (s.threads t)) ∷ []

  -- the definitions, unfolded once
  pub head_joined : head_bytes o s ≡ bytes_of 1 lock_coupled ++ bytes_of 1 o.size ++ bytes_of 1 o.workers ++ bytes_of 1 o.largest ++ bytes_of 2 o.capacity ++ bytes_of 2 (length o.commands)
      ++ bytes_of 2 s.graph.loaded ++ bytes_of 2 s.service.store.used ++ bytes_of 1 s.graph.free ++ bytes_of 1 s.service.limit
  unfolding head_bytes
  head_joined = refl

  pub state_joined : state_bytes o s ≡ head_bytes o s ++ fields 151 (λ n. bytes_of 1 (s.graph.next n)) ++ fields 151 (λ n. bytes_of 2 (s.graph.seq n))
      ++ fields 151 (λ n. flag_byte (s.graph.executing n)) ++ fields 151 (λ n. flag_byte (s.graph.locked n))
      ++ fields 151 (λ n. set_bytes (s.graph.waits n)) ++ fields 65 (λ t. thread_bytes (s.threads t))
  unfolding state_bytes
  state_joined = refl

  -- the bytes are these parts, however they are bracketed
  pub parts_joined : state_bytes o s ≡ joined parts_of
  parts_joined = state_joined ∙ rw head_joined (simp (append_assoc, append-nil))

  -- each part is its elements' length times their count
  parts_lengths : HaveLengths parts_of part_lengths
  parts_lengths =
      bytes_length 1 lock_coupled ▸ bytes_length 1 o.size ▸ bytes_length 1 o.workers ▸ bytes_length 1 o.largest ▸ bytes_length 2 o.capacity ▸ bytes_length 2 (length o.commands)
      ▸ bytes_length 2 s.graph.loaded ▸ bytes_length 2 s.service.store.used ▸ bytes_length 1 s.graph.free ▸ bytes_length 1 s.service.limit
      ▸ fields_length 1 151 _ (λ n. bytes_length 1 (s.graph.next n)) ▸ fields_length 2 151 _ (λ n. bytes_length 2 (s.graph.seq n))
      ▸ fields_length 1 151 _ (λ n. flag_length (s.graph.executing n)) ▸ fields_length 1 151 _ (λ n. flag_length (s.graph.locked n))
      ▸ fields_length 24 151 _ (λ n. set_length (s.graph.waits n)) ▸ fields_length 5 65 _ (λ t. thread_length (s.threads t)) ▸ tt

  -- together they are all the bytes
  pub state_length_lem : length (state_bytes o s) ≡ 4718
  state_length_lem = ap length parts_joined ∙ joined_length parts_of part_lengths parts_lengths

  -- part i, counted from 0, lies after the lengths of those before it
  pub part_lies : (i : ℕ) → i < 16 → Lies (get_or parts_of i []) (0 + total (take i part_lengths)) (state_bytes o s)
  part_lies i h = rw parts_joined (lies_part parts_of part_lengths parts_lengths (lies_whole (joined parts_of)) i h)

-- The parts that a state's numbers and arrays make are its bytes. Assumes nothing.
use Prim.Native.Nat.{ℕ, ◌+◌, ◌*◌, ◌^◌, ◌<◌}
use native.Mathlib.Nat.{zero-add}
use mathlib.Core.Path.{◌≡◌, refl, sym, ap, ◌∙◌}
use mathlib.Core.Bool.{Bool}
use mathlib.Core.List.{List, ◌++◌}
use lib.ListN.{length, get_or}
use Rattle.node_set.specs.Members.{bit, member, word_of}
use Rattle.node_set.proofs.Bits.{same_bits_same_word}
use Rattle.node_set.proofs.Words.{member_of_word}
use Rattle.node_set.proofs.Laws.{word_of_is_word_of}
use Rattle.model.specs.declared.Thread.{Thread}
use Rattle.model.specs.declared.Thread.TheVariants.{Idle}
use Rattle.model.specs.Setup.{Setup}
use Rattle.model.specs.Step.{State}
use Rattle.model.specs.declared.Counters.{Counters}
use Rattle.graph.specs.Arrays.{numbers, flags, sets}
use Rattle.state_bytes.specs.declared.Settings.{Settings}
use Rattle.byte_fields.specs.Bytes.{bytes_of, fields}
use Rattle.state_bytes.specs.Layout.{flag_byte, set_bytes, thread_bytes, state_bytes}
use Rattle.state_bytes.specs.Head.{head_of}
use Rattle.state_bytes.specs.Written.{Sets, Shown}
use Rattle.state_bytes.proofs.StateParts.{head_joined, state_joined}
use Rattle.byte_fields.proofs.Paste.{fields_same}

-- ---- sets

-- a word is made of its bits
pub word_again : (w : ℕ) (test : ℕ → Bool) → w < 2 ^ 64 → ((b : ℕ) → b < 64 → test b ≡ bit w b) → word_of 64 test ≡ w
word_again w test h same =
    let is = word_of_is_word_of 64 test in
    same_bits_same_word 64 (word_of 64 test) w is.fits h (λ b below. is.inside b below ∙ same b below)

-- so a set's bytes are those of its words
pub set_bytes_lem : (ws : List ℕ) → ((i : ℕ) → get_or ws i 0 < 2 ^ 64)
    → set_bytes (member ws) ≡ bytes_of 8 (get_or ws 0 0) ++ bytes_of 8 (get_or ws 1 0) ++ bytes_of 8 (get_or ws 2 0)
unfolding set_bytes
set_bytes_lem ws fits =
    let word : (i : ℕ) (test : ℕ → Bool) → ((b : ℕ) → test b ≡ member ws (i * 64 + b)) → word_of 64 test ≡ get_or ws i 0 = λ i test is.
    word_again (get_or ws i 0) test (fits i) (λ b below. is b ∙ member_of_word ws i b below) in
    rw (word 0 (member ws) (λ b. ap (member ws) (sym (zero-add b))), word 1 (λ b. member ws (64 + b)) (λ b. refl), word 2 (λ b. member ws (128 + b)) (λ b. refl))

-- ---- a state

-- chain, settings and counters are 14 bytes
pub head_length : (c : Settings) (k : Counters) → length (head_of c k) ≡ 14
unfolding bytes_of
head_length c k = refl

module _ (o : Setup) (s : State) where
  -- the bytes of a state that numbers and arrays show are those of the numbers and the arrays
  pub shown_bytes : (c : Settings) (k : Counters) (next seq : List ℕ) (executing locked : List Bool) (waits : List (List ℕ)) (threads : List Thread)
      → Sets c o → Shown k next seq executing locked waits threads s
      → state_bytes o s ≡ head_of c k ++ fields 151 (λ n. bytes_of 1 (numbers next n)) ++ fields 151 (λ n. bytes_of 2 (numbers seq n))
      ++ fields 151 (λ n. flag_byte (flags executing n)) ++ fields 151 (λ n. flag_byte (flags locked n))
      ++ fields 151 (λ n. set_bytes (sets waits n)) ++ fields 65 (λ t. thread_bytes (get_or threads t Idle))
  shown_bytes c k next seq executing locked waits threads h i =
      let them = fields_same 65 (λ t. thread_bytes (s.threads t)) (λ t. thread_bytes (get_or threads t Idle)) (λ t. ap thread_bytes (i.threads_are t)) in
      state_joined o s ∙ rw (
        head_joined o s,
        h.size,
        h.workers,
        h.largest,
        h.capacity,
        h.count,
        i.loaded_is,
        i.used_is,
        i.free_is,
        i.limit_is,
        i.graph_is.next_is,
        i.graph_is.seq_is,
        i.graph_is.executing_is,
        i.graph_is.locked_is,
        i.graph_is.waits_is,
        them,
      )

-- What a call reads from handed-back lists that pass its tests lays out as these lists, so that an empty schedule changes nothing.
-- Assumes nothing.
use Prim.Native.Nat.{ℕ, zero, suc, ◌+◌, ◌*◌, ◌≤◌, ◌<◌}
use native.Mathlib.Omega.{arith}
use mathlib.Core.Path.{◌≡◌, refl, sym, ap, ◌∙◌}
use mathlib.Core.Bool.{Bool, true, false, cond, not, ◌||◌}
use mathlib.Core.List.{List, [], ◌∷◌}
use lib.ListN.{length, get_or, take, drop}
use lib.Dec.{eqb, leb, ltb}
use lib.Seq.{take_all}
use borrow.Author.Tests.{leb-true, eqb-true, lt-ltb}
use Rattle.node_set.specs.Members.{bit, member, word_of}
use Rattle.node_set.proofs.Words.{member_low, member_high}
use Rattle.model.specs.declared.Thread.{Thread}
use Rattle.model.specs.Step.{steps}
use Rattle.model.specs.Statement.{all_within}
use Rattle.command.specs.Read.{commands_in}
use Rattle.byte_fields.specs.Bytes.{bytes_of, number_at, tabulate, fields}
use Rattle.state_bytes.specs.Layout.{Lists, flag_byte, set_bytes, thread_bytes, state_bytes, lists_of, thread_of, thread_at, set_at, setup_in, count_in, state_in, state_length, thread_fits, thread_fits_at, state_fits, handed_back_fit, image_fits}
use Rattle.state_bytes.specs.Outcome.{accepted}
use Rattle.controller.specs.Calls.{advance_on}
use Rattle.byte_fields.proofs.Bytes.{◌▸◌, Bytes, number_read_below, number_stands, one_byte, next_stands, parts_of_lem, StandAt, fields_of, tabulate_elements}
use Rattle.state_bytes.proofs.StateParts.{tag_of, at_of, own_of, found_of, thread_parts, set_parts, set_parts_lem, part_lengths, parts_of, parts_joined}
use Rattle.state_bytes.proofs.RoundTrip.{lists_state, lists_answers, lists_keys, lists_chutes, lists_image}
use Rattle.graph.proofs.Commands.{commands_length}
use Rattle.state_bytes.proofs.Tests.{each_passed}
use Rattle.state_bytes.proofs.Shown.{word_again}
use Rattle.state_bytes.proofs.Passed.{Long, InRange, lengths_passed, state_passed}
use Rattle.runner.proofs.Performing.{same_lists}

-- ---- a thread's parts

-- a thread has these parts
record HasParts (thread : Thread) (tag at own found : ℕ) : Type 0 where
  tag_is : tag_of thread ≡ tag
  at_is : at_of thread ≡ at
  own_is : own_of thread ≡ own
  found_is : found_of thread ≡ found

-- state by state: what a state has none of is 0
parts_kept : (tag at own found : ℕ) → tag ≤ 7 → (eqb tag 1 || eqb tag 2 || eqb tag 6 || eqb tag 7 || eqb at 0) ≡ true
    → (eqb tag 1 || eqb tag 3 || eqb tag 4 || eqb tag 5 || eqb tag 6 || eqb tag 7 || eqb own 0) ≡ true → (eqb tag 4 || eqb found 0) ≡ true
    → HasParts (thread_of tag at own found) tag at own found
unfolding thread_of
parts_kept zero at own found known a b c = record { tag_is = refl; at_is = sym (eqb-true at 0 a); own_is = sym (eqb-true own 0 b); found_is = sym (eqb-true found 0 c) }
parts_kept (suc zero) at own found known a b c = record { tag_is = refl; at_is = refl; own_is = refl; found_is = sym (eqb-true found 0 c) }
parts_kept (suc (suc zero)) at own found known a b c = record { tag_is = refl; at_is = refl; own_is = sym (eqb-true own 0 b); found_is = sym (eqb-true found 0 c) }
parts_kept (suc (suc (suc zero))) at own found known a b c = record { tag_is = refl; at_is = sym (eqb-true at 0 a); own_is = refl; found_is = sym (eqb-true found 0 c) }
parts_kept (suc (suc (suc (suc zero)))) at own found known a b c = record { tag_is = refl; at_is = sym (eqb-true at 0 a); own_is = refl; found_is = refl }
parts_kept (suc (suc (suc (suc (suc zero))))) at own found known a b c = record { tag_is = refl; at_is = sym (eqb-true at 0 a); own_is = refl; found_is = sym (eqb-true found 0 c) }
parts_kept (suc (suc (suc (suc (suc (suc zero)))))) at own found known a b c = record { tag_is = refl; at_is = refl; own_is = refl; found_is = sym (eqb-true found 0 c) }
parts_kept (suc (suc (suc (suc (suc (suc (suc zero))))))) at own found known a b c = record { tag_is = refl; at_is = refl; own_is = refl; found_is = sym (eqb-true found 0 c) }
parts_kept (suc (suc (suc (suc (suc (suc (suc (suc tag)))))))) at own found known a b c = absurd (omega arith)

-- the thread made of parts that fit has these parts
thread_kept : (size t tag at own found : ℕ) → thread_fits size t tag at own found ≡ true → HasParts (thread_of tag at own found) tag at own found
unfolding thread_fits
thread_kept size t tag at own found fit =
    let each = each_passed (leb tag 7) (leb at size ∷ leb own size ∷ cond (eqb t 0) (leb tag 1) (not (eqb tag 1))
    ∷ (eqb tag 1 || eqb tag 2 || eqb tag 6 || eqb tag 7 || eqb at 0)
    ∷ (eqb tag 1 || eqb tag 3 || eqb tag 4 || eqb tag 5 || eqb tag 6 || eqb tag 7 || eqb own 0) ∷ (eqb tag 4 || eqb found 0) ∷ []) fit in
    parts_kept tag at own found (leb-true tag 7 (each 0)) (each 4) (each 5) (each 6)

-- so its bytes are theirs
kept_bytes : (thread : Thread) (tag at own found : ℕ) → HasParts thread tag at own found → thread_bytes thread ≡ tag ∷ at ∷ own ∷ bytes_of 2 found
kept_bytes thread tag at own found kept = thread_parts thread ∙ rw (kept.tag_is, kept.at_is, kept.own_is, kept.found_is)

-- ---- a flag

-- a byte up to 1 is a flag
flag_again : (n : ℕ) → n ≤ 1 → flag_byte (eqb n 1) ≡ n ∷ []
flag_again zero h = refl
flag_again (suc zero) h = refl
flag_again (suc (suc n)) h = absurd (omega arith)

-- ---- what stands in the bytes

module _ (b : List ℕ) (long : length b ≡ 4718) (bytes : Bytes b) where
  -- a number, a byte and a flag that are read are written again
  number_here : (k at : ℕ) → at + k ≤ 4718 → bytes_of k (number_at k at b) ≡ take k (drop at b)
  number_here k at h = number_stands k at b bytes (omega arith)

  byte_here : (at : ℕ) → at < 4718 → bytes_of 1 (get_or b at 0) ≡ take 1 (drop at b)
  byte_here at h = one_byte (get_or b at 0) (bytes at) ∙ sym (next_stands 0 at (suc at) b refl (omega arith))

  flag_here : (at : ℕ) → at < 4718 → get_or b at 0 ≤ 1 → flag_byte (eqb (get_or b at 0) 1) ≡ take 1 (drop at b)
  flag_here at h small = flag_again (get_or b at 0) small ∙ sym (next_stands 0 at (suc at) b refl (omega arith))

  -- a word whose bits a set has
  word_here : (set : ℕ → Bool) (at place : ℕ) → at ≡ place → at + 8 ≤ 4718 → ((y : ℕ) → y < 64 → set y ≡ bit (number_at 8 at b) y)
      → bytes_of 8 (word_of 64 set) ≡ take 8 (drop place b)
  word_here set at place e h same =
      ap (bytes_of 8) (word_again (number_at 8 at b) set (number_read_below 8 at b bytes (omega arith)) same) ∙ number_here 8 at h ∙ ap (λ (p : ℕ). take 8 (drop p b)) e

  -- so are a set's three words
  set_here : (n : ℕ) → n < 151 → set_bytes (member (set_at b n)) ≡ take 24 (drop (769 + 24 * n) b)
  unfolding set_at
  set_here n h =
      let first = number_at 8 (769 + 24 * n) b in
      let second = number_at 8 (777 + 24 * n) b in
      let third = number_at 8 (785 + 24 * n) b in
      let later : (y : ℕ) → 128 + y ≡ 64 + (64 + y) = λ y. omega arith in
      set_parts_lem (member (set_at b n)) ∙ parts_of_lem (set_parts (member (set_at b n))) (8 ∷ 8 ∷ 8 ∷ []) (769 + 24 * n) b
      (word_here (member (set_at b n)) (769 + 24 * n) (769 + 24 * n) refl (omega arith) (member_low first (second ∷ third ∷ []))
      ▸ word_here (λ y. member (set_at b n) (64 + y)) (777 + 24 * n) (769 + 24 * n + 8) (omega arith) (omega arith)
      (λ y l. member_high first (second ∷ third ∷ []) y ∙ member_low second (third ∷ []) y l)
      ▸ word_here (λ y. member (set_at b n) (128 + y)) (785 + 24 * n) (769 + 24 * n + 8 + 8) (omega arith) (omega arith)
      (λ y l. ap (member (set_at b n)) (later y) ∙ member_high first (second ∷ third ∷ []) (64 + y) ∙ member_high second (third ∷ []) y ∙ member_low third [] y l)
      ▸ tt)

  -- three elements and two bytes
  five_here : (p q r u : ℕ) → q ≡ suc p → r ≡ suc q → u ≡ suc r → u + 2 ≤ 4718
      → take 5 (drop p b) ≡ get_or b p 0 ∷ get_or b q 0 ∷ get_or b r 0 ∷ bytes_of 2 (number_at 2 u b)
  five_here p q r u eq er eu h =
      next_stands 4 p q b eq (omega arith) ∙ ap (λ (x : List ℕ). get_or b p 0 ∷ x)
      (next_stands 3 q r b er (omega arith) ∙ ap (λ (x : List ℕ). get_or b q 0 ∷ x)
      (next_stands 2 r u b eu (omega arith) ∙ ap (λ (x : List ℕ). get_or b r 0 ∷ x) (sym (number_here 2 u h))))

  -- and a thread's five bytes
  thread_here : (size t : ℕ) → t < 65 → thread_fits_at b size t ≡ true → thread_bytes (thread_at b t) ≡ take 5 (drop (4393 + 5 * t) b)
  unfolding thread_fits_at thread_at
  thread_here size t h fit =
      kept_bytes (thread_at b t) _ _ _ _ (thread_kept size t (get_or b (4393 + 5 * t) 0) (get_or b (4394 + 5 * t) 0) (get_or b (4395 + 5 * t) 0) (number_at 2 (4396 + 5 * t) b) fit)
      ∙ sym (five_here (4393 + 5 * t) (4394 + 5 * t) (4395 + 5 * t) (4396 + 5 * t) (omega arith) (omega arith) (omega arith) (omega arith))

  -- a run of single bytes
  run_here : (f : ℕ → List ℕ) (at : ℕ) → ((n : ℕ) → n < 151 → f n ≡ take 1 (drop (at + n) b)) → fields 151 f ≡ take 151 (drop at b)
  run_here f at each = fields_of 1 151 f at b (λ n h. let e : at + 1 * n ≡ at + n = omega arith in rw e (each n h))

-- ---- handed-back lists

-- what is read below k is what stands there
at_first {ℓ} : {A : Type ℓ} (f : A → List ℕ) (x d : A) (n k : ℕ) → n < k → f (cond (ltb n k) x d) ≡ f x
at_first f x d n k h = ap (λ (t : Bool). f (cond t x d)) (lt-ltb n k h)

module _ (l : Lists) (commands : List ℕ) (bytes : Bytes l.state) (lengths : Long l commands) (range : InRange l) where
  long : length l.state ≡ 4718
  unfolding state_length
  long = lengths.state

  -- as many commands as the state says
  count : length (commands_in commands) ≡ count_in l.state
  count = commands_length commands (count_in l.state) lengths.commands_are

  -- the laws above, for these bytes
  numbers_again : (k at : ℕ) → at + k ≤ 4718 → bytes_of k (number_at k at l.state) ≡ take k (drop at l.state)
  numbers_again = number_here l.state long bytes

  run_again : (f : ℕ → List ℕ) (at : ℕ) → ((n : ℕ) → n < 151 → f n ≡ take 1 (drop (at + n) l.state)) → fields 151 f ≡ take 151 (drop at l.state)
  run_again = run_here l.state long bytes

  -- each part of the bytes is what the parts read make again
  parts_again : StandAt (parts_of (setup_in l.state commands) (state_in l)) part_lengths 0 l.state
  unfolding setup_in count_in state_in
  parts_again =
      let b = l.state in
      (ap (bytes_of 1) (sym range.chain) ∙ numbers_again 1 0 (omega arith)) ▸ numbers_again 1 1 (omega arith) ▸ numbers_again 1 2 (omega arith) ▸ numbers_again 1 3 (omega arith)
      ▸ numbers_again 2 4 (omega arith) ▸ (ap (bytes_of 2) (count) ∙ numbers_again 2 6 (omega arith))
      ▸ numbers_again 2 8 (omega arith) ▸ numbers_again 2 10 (omega arith) ▸ numbers_again 1 12 (omega arith) ▸ numbers_again 1 13 (omega arith)
      ▸ run_again (λ n. bytes_of 1 ((state_in l).graph.next n)) 14 (λ n h. at_first (bytes_of 1) _ _ n 151 h ∙ byte_here b long bytes (14 + n) (omega arith))
      ▸ fields_of 2 151 (λ n. bytes_of 2 ((state_in l).graph.seq n)) 165 b (λ n h. at_first (bytes_of 2) _ _ n 151 h ∙ numbers_again 2 (165 + 2 * n) (omega arith))
      ▸ run_again (λ n. flag_byte ((state_in l).graph.executing n)) 467
      (λ n h. at_first flag_byte _ _ n 151 h ∙ flag_here b long bytes (467 + n) (omega arith) (range.executing n h))
      ▸ run_again (λ n. flag_byte ((state_in l).graph.locked n)) 618
      (λ n h. at_first flag_byte _ _ n 151 h ∙ flag_here b long bytes (618 + n) (omega arith) (range.locked n h))
      ▸ fields_of 24 151 (λ n. set_bytes ((state_in l).graph.waits n)) 769 b
      (λ n h. ap (λ (t : Bool). set_bytes (λ y. cond t (member (set_at b n) y) false)) (lt-ltb n 151 h) ∙ set_here b long bytes n h)
      ▸ fields_of 5 65 (λ t. thread_bytes ((state_in l).threads t)) 4393 b
      (λ t h. at_first thread_bytes _ _ t 65 h ∙ thread_here b long bytes (number_at 1 1 b) t h (range.threads t h)) ▸ tt

  -- all of them are all the bytes
  state_again : state_bytes (setup_in l.state commands) (state_in l) ≡ l.state
  state_again =
      let parts = parts_of (setup_in l.state commands) (state_in l) in
      parts_joined (setup_in l.state commands) (state_in l) ∙ parts_of_lem parts part_lengths 0 l.state parts_again ∙ take_all 4718 l.state (omega (arith, long))

  -- there are as many answers as commands
  answers_again : tabulate (length (setup_in l.state commands).commands) (λ i. (state_in l).service.answers (suc i)) ≡ l.answers
  unfolding setup_in state_in
  answers_again = tabulate_elements (length (commands_in commands)) l.answers 0 (lengths.answers ∙ sym (count))

-- the store's lists and the image are the caller's
store_in : (l : Lists) → ((state_in l).service.store.keys ≡ l.keys) × ((state_in l).service.store.chutes ≡ l.chutes) × ((state_in l).service.image ≡ l.image)
unfolding state_in
store_in l = (refl, refl, refl)

module _ (l : Lists) (commands : List ℕ) (bytes : Bytes l.state) (fit : handed_back_fit l commands ≡ true) (imaged : image_fits (setup_in l.state commands).capacity l ≡ true) (whole : state_fits l ≡ true) where
  -- what is read lays out as the lists
  pub lists_again : lists_of (setup_in l.state commands) (state_in l) ≡ l
  lists_again =
      let o = setup_in l.state commands in
      let s = state_in l in
      let lengths = lengths_passed l commands fit in
      let range = state_passed l whole in
      same_lists (lists_of o s) l (lists_state o s ∙ state_again l commands bytes lengths range) (lists_answers o s ∙ answers_again l commands bytes lengths range)
      (lists_keys o s ∙ (store_in l).0) (lists_chutes o s ∙ (store_in l).1) (lists_image o s ∙ (store_in l).2)

  -- so no step changes nothing
  pub empty_schedule : advance_on l commands [] ≡ accepted l
  unfolding advance_on all_within steps
  empty_schedule = rw (fit, imaged, whole) (ap accepted lists_again)

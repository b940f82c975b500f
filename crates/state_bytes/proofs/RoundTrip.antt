-- A state laid out as bytes is read as itself, and a call accepts it. Assumes nothing.
use Prim.Native.Nat.{ℕ, zero, suc, ◌+◌, ◌*◌, ◌≤◌, ◌<◌}
use native.Mathlib.Omega.{arith}
use mathlib.Core.Path.{◌≡◌, refl, sym, ap, ◌∙◌, fun_ext}
use mathlib.Core.Bool.{Bool, true, false, cond, not, ◌&&◌, ◌||◌, and-eq-true_iff}
use mathlib.Core.List.{List, [], ◌∷◌, ◌++◌}
use lib.ListN.{length, get_or, take}
use lib.Dec.{eqb, leb, ltb, leb-zero, eqb-suc-zero}
use borrow.Author.Tests.{lt-ltb, le-ltb, le-leb, eq-eqb}
use Rattle.node_set.specs.Members.{member, word_of}
use Rattle.node_set.proofs.Laws.{word_of_is_word_of}
use Rattle.command.proofs.Tests.{fails}
use Rattle.model.specs.declared.Thread.{Thread}
use Rattle.model.specs.declared.Thread.TheVariants.{Idle, Loading, Searching, Holding, LookedUp, Written, Walking, Clearing}
use Rattle.model.specs.Setup.{Setup, without_entries}
use Rattle.model.specs.Step.{State}
use Rattle.model.proofs.Chain.Invariant.{is_loader, is_worker}
use Rattle.model.proofs.Formed.{ThreadFormed, SetupFormed, Formed}
use Rattle.command.specs.Read.{commands_in}
use Rattle.byte_fields.specs.Bytes.{bytes_of, number_at, tabulate, fields, all_below}
use Rattle.state_bytes.specs.Layout.{lock_coupled, head_fits, Lists, flag_byte, set_bytes, thread_bytes, state_bytes, lists_of, thread_at, set_at, setup_in, count_in, state_in, state_length, settings_fit, thread_fits, thread_fits_at, set_fits, node_fits_at, ascends, state_fits, lengths_fit, handed_back_fit, image_fits}
use Rattle.byte_fields.proofs.Bytes.{bytes_length, one_byte, Lies, total, lies_part, lies_first, lies_rest, lies_field, lies_number, lies_element, tabulate_at, tabulate_past, tabulate_length, below_or_past, each_all_below}
use Rattle.state_bytes.proofs.StateParts.{words_of, members_of_words, tag_of, at_of, own_of, found_of, thread_head, thread_parts, thread_again, found_fits_lem, flag_length, set_parts, set_parts_lem, set_lengths, set_length, thread_length, state_length_lem, part_lies}

-- What is read of a state's bytes and lists, field by field.
pub record Laid (o : Setup) (s : State) (l : Lists) : Type 0 where
  pub long : length l.state ≡ 4718
  pub size : number_at 1 1 l.state ≡ o.size
  pub workers : number_at 1 2 l.state ≡ o.workers
  pub chain : number_at 1 0 l.state ≡ lock_coupled
  pub largest : number_at 1 3 l.state ≡ o.largest
  pub limit : number_at 1 13 l.state ≡ s.service.limit
  pub capacity : number_at 2 4 l.state ≡ o.capacity
  pub count : number_at 2 6 l.state ≡ length o.commands
  pub loaded : number_at 2 8 l.state ≡ s.graph.loaded
  pub used : number_at 2 10 l.state ≡ s.service.store.used
  pub free : number_at 1 12 l.state ≡ s.graph.free
  pub next : (n : ℕ) → n < 151 → get_or l.state (14 + n) 0 ≡ s.graph.next n
  pub seq : (n : ℕ) → n < 151 → number_at 2 (165 + 2 * n) l.state ≡ s.graph.seq n
  pub executing : (n : ℕ) → n < 151 → get_or l.state (467 + n) 0 ≡ cond (s.graph.executing n) 1 0
  pub locked : (n : ℕ) → n < 151 → get_or l.state (618 + n) 0 ≡ cond (s.graph.locked n) 1 0
  pub waits : (n : ℕ) → n < 151 → set_at l.state n ≡ words_of (s.graph.waits n)
  pub tag : (t : ℕ) → t < 65 → get_or l.state (4393 + 5 * t) 0 ≡ tag_of (s.threads t)
  pub at : (t : ℕ) → t < 65 → get_or l.state (4394 + 5 * t) 0 ≡ at_of (s.threads t)
  pub own : (t : ℕ) → t < 65 → get_or l.state (4395 + 5 * t) 0 ≡ own_of (s.threads t)
  pub found : (t : ℕ) → t < 65 → number_at 2 (4396 + 5 * t) l.state ≡ found_of (s.threads t)
  pub answers : l.answers ≡ tabulate (length o.commands) (λ i. s.service.answers (suc i))
  pub keys : l.keys ≡ s.service.store.keys
  pub chutes : l.chutes ≡ s.service.store.chutes
  pub image : l.image ≡ s.service.image

-- a flag is 1 or 0
flag_read : (b : Bool) → get_or (flag_byte b) 0 0 ≡ cond b 1 0
flag_read false = refl
flag_read true = refl

-- the chain's number is one of a byte
one_small : lock_coupled < 256
unfolding lock_coupled
one_small = omega arith

module _ (o : Setup) (s : State) where
  -- one byte of a run of single bytes
  byte_read : (f : ℕ → List ℕ) → ((n : ℕ) → length (f n) ≡ 1) → (at : ℕ) → Lies (fields 151 f) at (state_bytes o s)
      → (n : ℕ) → n < 151 → get_or (state_bytes o s) (at + n) 0 ≡ get_or (f n) 0 0
  byte_read f one at l n h =
      let e : at + n ≡ at + 1 * n + 0 = omega arith in
      rw e (lies_element (lies_field 1 151 f one l n h) 0 (omega (arith, one n)))

  -- one word of a set
  word_read : (n : ℕ) → n < 151 → (i : ℕ) (set : ℕ → Bool) → i < 3 → get_or (set_parts (s.graph.waits n)) i [] ≡ bytes_of 8 (word_of 64 set)
      → (at : ℕ) → at ≡ 769 + 24 * n + total (take i (8 ∷ 8 ∷ 8 ∷ [])) → number_at 8 at (state_bytes o s) ≡ word_of 64 set
  word_read n h i set k part at place =
      let set_lies = lies_field 24 151 (λ m. set_bytes (s.graph.waits m)) (λ m. set_length (s.graph.waits m)) (part_lies o s 14 (omega arith)) n h in
      let word_lies = lies_part (set_parts (s.graph.waits n)) (8 ∷ 8 ∷ 8 ∷ []) (set_lengths (s.graph.waits n)) (rw set_parts_lem at set_lies) i k in
      lies_number 8 (word_of 64 set) (word_of_is_word_of 64 set).fits (rw (place, ← part) word_lies)

  -- its three words are the set's
  set_read : (n : ℕ) → n < 151 → set_at (state_bytes o s) n ≡ words_of (s.graph.waits n)
  unfolding set_at
  set_read n h =
      let first = word_read n h 0 (s.graph.waits n) (omega arith) refl (769 + 24 * n) (omega arith) in
      let second = word_read n h 1 (λ b. s.graph.waits n (64 + b)) (omega arith) refl (777 + 24 * n) (omega arith) in
      let third = word_read n h 2 (λ b. s.graph.waits n (128 + b)) (omega arith) refl (785 + 24 * n) (omega arith) in
      rw (first, second, third)

  -- a thread's parts
  thread_lies : (t : ℕ) → t < 65 → Lies (thread_head (s.threads t) ++ bytes_of 2 (found_of (s.threads t))) (4393 + 5 * t) (state_bytes o s)
  thread_lies t h =
      rw thread_parts at (lies_field 5 65 (λ i. thread_bytes (s.threads i)) (λ i. thread_length (s.threads i)) (part_lies o s 15 (omega arith)) t h)

  thread_read : (t : ℕ) → t < 65 → (i : ℕ) → i < 3 → (at : ℕ) → at ≡ 4393 + 5 * t + i → get_or (state_bytes o s) at 0 ≡ get_or (thread_head (s.threads t)) i 0
  thread_read t h i k at place =
      rw place (lies_element (lies_first (thread_head (s.threads t)) (bytes_of 2 (found_of (s.threads t))) (thread_lies t h)) i k)

  found_read : (t : ℕ) → t < 65 → found_of (s.threads t) < 65536 → number_at 2 (4396 + 5 * t) (state_bytes o s) ≡ found_of (s.threads t)
  found_read t h fits =
      let place : 4396 + 5 * t ≡ 4393 + 5 * t + 3 = omega arith in
      rw place
      (lies_number 2 (found_of (s.threads t)) fits (lies_rest (thread_head (s.threads t)) (bytes_of 2 (found_of (s.threads t))) 3 refl (thread_lies t h)))

  -- the bytes of a formed state are read field by field, since each number fits its bytes
  state_laid : SetupFormed o → Formed o s → (l : Lists) → l.state ≡ state_bytes o s
      → l.answers ≡ tabulate (length o.commands) (λ i. s.service.answers (suc i)) → l.keys ≡ s.service.store.keys → l.chutes ≡ s.service.store.chutes → l.image ≡ s.service.image → Laid o s l
  state_laid fo fs l state answers keys chutes image = record {
    long = rw state (state_length_lem o s);
    size = rw state (lies_number 1 o.size (omega (arith, fo.size)) (part_lies o s 1 (omega arith)));
    workers = rw state (lies_number 1 o.workers (omega (arith, fo.workers)) (part_lies o s 2 (omega arith)));
    chain = rw state (lies_number 1 lock_coupled one_small (part_lies o s 0 (omega arith)));
    largest = rw state (lies_number 1 o.largest (omega (arith, fo.largest)) (part_lies o s 3 (omega arith)));
    limit = rw state (lies_number 1 s.service.limit (omega (arith, fs.service.limit.1)) (part_lies o s 9 (omega arith)));
    capacity = rw state (lies_number 2 o.capacity (omega (arith, fo.capacity)) (part_lies o s 4 (omega arith)));
    count = rw state (lies_number 2 (length o.commands) (omega (arith, fo.count)) (part_lies o s 5 (omega arith)));
    loaded = rw state (lies_number 2 s.graph.loaded (omega (arith, fo.count, fs.graph.loaded)) (part_lies o s 6 (omega arith)));
    used = rw state (lies_number 2 s.service.store.used (omega (arith, fo.capacity, fs.service.store.used_fits)) (part_lies o s 7 (omega arith)));
    free = rw state (lies_number 1 s.graph.free (omega (arith, fo.size, fs.graph.free)) (part_lies o s 8 (omega arith)));
    next = λ n h. rw state (byte_read _ (λ m. bytes_length 1 (s.graph.next m)) 14 (part_lies o s 10 (omega arith)) n h ∙ ap (λ (r : List ℕ). get_or r 0 0) (one_byte (s.graph.next n) (omega (arith, fo.size, (fs.graph.next n).0))));
    seq = λ n h. rw state (lies_number 2 (s.graph.seq n) (omega (arith, fo.count, (fs.graph.seq n).0)) (lies_field 2 151 _ (λ m. bytes_length 2 (s.graph.seq m)) (part_lies o s 11 (omega arith)) n h));
    executing = λ n h. rw state (byte_read _ (λ m. flag_length (s.graph.executing m)) 467 (part_lies o s 12 (omega arith)) n h ∙ flag_read (s.graph.executing n));
    locked = λ n h. rw state (byte_read _ (λ m. flag_length (s.graph.locked m)) 618 (part_lies o s 13 (omega arith)) n h ∙ flag_read (s.graph.locked n));
    waits = λ n h. rw state (set_read n h);
    tag = λ t h. rw state (thread_read t h 0 (omega arith) (4393 + 5 * t) (omega arith));
    at = λ t h. rw state (thread_read t h 1 (omega arith) (4394 + 5 * t) (omega arith));
    own = λ t h. rw state (thread_read t h 2 (omega arith) (4395 + 5 * t) (omega arith));
    found = λ t h. rw state (found_read t h (found_fits_lem o.size (s.threads t) (fs.threads t).0));
    answers = answers;
    keys = keys;
    chutes = chutes;
    image = image;
  }

  -- the definition of the lists, unfolded once
  pub lists_state : (lists_of o s).state ≡ state_bytes o s
  unfolding lists_of
  lists_state = refl

  pub lists_answers : (lists_of o s).answers ≡ tabulate (length o.commands) (λ i. s.service.answers (suc i))
  unfolding lists_of
  lists_answers = refl

  pub lists_keys : (lists_of o s).keys ≡ s.service.store.keys
  unfolding lists_of
  lists_keys = refl

  pub lists_chutes : (lists_of o s).chutes ≡ s.service.store.chutes
  unfolding lists_of
  lists_chutes = refl

  pub lists_image : (lists_of o s).image ≡ s.service.image
  unfolding lists_of
  lists_image = refl

  -- so a formed state's lists are
  pub lists_laid : SetupFormed o → Formed o s → Laid o s (lists_of o s)
  lists_laid fo fs = state_laid fo fs (lists_of o s) lists_state lists_answers lists_keys lists_chutes lists_image

-- ---- what is read is the state

-- What is kept for the first k, and is the same past them, is the same everywhere.
first_and_past {ℓ} : {A : Type ℓ} (k n : ℕ) (x d v : A) → (n < k → x ≡ v) → (k ≤ n → v ≡ d) → cond (ltb n k) x d ≡ v
first_and_past k n x d v first past =
    below_or_past n k
    (λ h. ap (λ (t : Bool). cond t x d) (lt-ltb n k h) ∙ first h)
    (λ h. ap (λ (t : Bool). cond t x d) (le-ltb n k h) ∙ sym (past h))

-- a flag read is the flag
flag_again : (b : Bool) (n : ℕ) → n ≡ cond b 1 0 → eqb n 1 ≡ b
flag_again true n e = rw e
flag_again false n e = rw e

-- two tests that pass pass together
both : {a b : Bool} → a ≡ true → b ≡ true → (a && b) ≡ true
both {a} {b} p q = (and-eq-true_iff a b).1 (p, q)

-- a test that follows from another
implied : (a b : Bool) → (a ≡ true → b ≡ true) → (not a || b) ≡ true
implied true b follows = follows refl
implied false b follows = refl

-- the tests of a handed-back state, each named
pub state_tests : (l : Lists) → state_fits l ≡ (head_fits (number_at 1 0 l.state) (number_at 1 13 l.state) (number_at 1 3 l.state)
    && settings_fit (number_at 1 1 l.state) (number_at 1 2 l.state) (number_at 1 3 l.state) (number_at 2 4 l.state) (count_in l.state)
    && leb (number_at 2 8 l.state) (count_in l.state) && leb (number_at 1 12 l.state) (number_at 1 1 l.state)
    && all_below 151 (node_fits_at l.state (number_at 1 1 l.state) (count_in l.state)) && all_below 65 (thread_fits_at l.state (number_at 1 1 l.state))
    && leb (number_at 2 10 l.state) (number_at 2 4 l.state) && ascends (number_at 2 10 l.state) l.keys)
unfolding state_fits
state_tests l = refl

pub node_tests : (b : List ℕ) (size count n : ℕ) → node_fits_at b size count n ≡ (leb (get_or b (14 + n) 0) size && leb (number_at 2 (165 + 2 * n) b) count
    && leb (get_or b (467 + n) 0) 1 && leb (get_or b (618 + n) 0) 1 && set_fits (set_at b n) size)
unfolding node_fits_at
node_tests b size count n = refl

set_tests : (set : List ℕ) (size : ℕ) → set_fits set size ≡ all_below 192 (λ y. not (member set y) || leb y size)
unfolding set_fits
set_tests set size = refl

-- settings in their ranges
settings_fit_lem : (size workers largest capacity count : ℕ) → (1 ≤ size) × (size ≤ 150) → (1 ≤ workers) × (workers ≤ 64) → (1 ≤ largest) × (largest ≤ 64)
    → (1 ≤ capacity) × (capacity ≤ 4096) → count ≤ 4096 → settings_fit size workers largest capacity count ≡ true
unfolding settings_fit
settings_fit_lem size workers largest capacity count a b e c d =
    both (both (both (both (both (both (both (both (le-leb _ _ a.0) (le-leb _ _ a.1)) (le-leb _ _ b.0)) (le-leb _ _ b.1)) (le-leb _ _ e.0)) (le-leb _ _ e.1))
    (le-leb _ _ c.0)) (le-leb _ _ c.1)) (le-leb _ _ d)

-- the chain named, and a count in force
head_fits_lem : (limit largest : ℕ) → 1 ≤ limit → limit ≤ largest → head_fits lock_coupled limit largest ≡ true
unfolding head_fits
head_fits_lem limit largest a b = both (both (eq-eqb lock_coupled lock_coupled refl) (le-leb _ _ a)) (le-leb _ _ b)

-- a loader's state is one of the first two, a worker's any but the second
loader_tag : (thread : Thread) → is_loader thread ≡ leb (tag_of thread) 1
loader_tag Idle = refl
loader_tag (Loading at own) = refl
loader_tag (Searching at) = refl
loader_tag (Holding own) = refl
loader_tag (LookedUp own found) = refl
loader_tag (Written own) = refl
loader_tag (Walking at own) = refl
loader_tag (Clearing at own) = refl

worker_tag : (thread : Thread) → is_worker thread ≡ not (eqb (tag_of thread) 1)
worker_tag Idle = refl
worker_tag (Loading at own) = refl
worker_tag (Searching at) = refl
worker_tag (Holding own) = refl
worker_tag (LookedUp own found) = refl
worker_tag (Written own) = refl
worker_tag (Walking at own) = refl
worker_tag (Clearing at own) = refl

-- thread 0 is a loader and the others are workers
role_fits : (t : ℕ) (thread : Thread) → (t ≡ 0 → is_loader thread ≡ true) → (1 ≤ t → is_worker thread ≡ true)
    → cond (eqb t 0) (leb (tag_of thread) 1) (not (eqb (tag_of thread) 1)) ≡ true
role_fits zero thread loader worker = sym (loader_tag thread) ∙ loader refl
role_fits (suc t) thread loader worker = rw (eqb-suc-zero t) (sym (worker_tag thread) ∙ worker (omega arith))

-- a flag is at most 1
flag_small : (b : Bool) → leb (cond b 1 0) 1 ≡ true
flag_small false = refl
flag_small true = refl

-- a formed thread's parts are those of one of the states named
thread_fits_lem : (size t : ℕ) (thread : Thread) → ThreadFormed size thread → cond (eqb t 0) (leb (tag_of thread) 1) (not (eqb (tag_of thread) 1)) ≡ true
    → thread_fits size t (tag_of thread) (at_of thread) (own_of thread) (found_of thread) ≡ true
unfolding thread_fits
thread_fits_lem size t Idle h r = both (both (both (both (both (both refl (leb-zero size)) (leb-zero size)) r) refl) refl) refl
thread_fits_lem size t (Loading at own) h r = both (both (both (both (both (both refl (le-leb _ _ h.0)) (le-leb _ _ h.1)) r) refl) refl) refl
thread_fits_lem size t (Searching at) h r = both (both (both (both (both (both refl (le-leb _ _ h)) (leb-zero size)) r) refl) refl) refl
thread_fits_lem size t (Holding own) h r = both (both (both (both (both (both refl (leb-zero size)) (le-leb _ _ h)) r) refl) refl) refl
thread_fits_lem size t (LookedUp own found) h r = both (both (both (both (both (both refl (leb-zero size)) (le-leb _ _ h.0)) r) refl) refl) refl
thread_fits_lem size t (Written own) h r = both (both (both (both (both (both refl (leb-zero size)) (le-leb _ _ h)) r) refl) refl) refl
thread_fits_lem size t (Walking at own) h r = both (both (both (both (both (both refl (le-leb _ _ h.0)) (le-leb _ _ h.1)) r) refl) refl) refl
thread_fits_lem size t (Clearing at own) h r = both (both (both (both (both (both refl (le-leb _ _ h.0)) (le-leb _ _ h.1)) r) refl) refl) refl

module _ (o : Setup) (s : State) (fo : SetupFormed o) (fs : Formed o s) (l : Lists) (laid : Laid o s l) where
  -- the answers are kept from the first command on, and are 0 before and past them
  read_answer : (c : ℕ) → get_or (0 ∷ l.answers) c 0 ≡ s.service.answers c
  read_answer zero = sym ((fs.service.answers 0).0 refl)
  read_answer (suc i) =
      let given : ℕ → ℕ = λ j. s.service.answers (suc j) in
      rw laid.answers
      (below_or_past i (length o.commands) (tabulate_at (length o.commands) given 0 i)
      (λ h. tabulate_past (length o.commands) given 0 i h ∙ sym ((fs.service.answers (suc i)).1 (omega arith))))

  -- a set has no member past the graph size, so its words are all of it
  read_member : (n y : ℕ) → n < 151 → member (set_at l.state n) y ≡ s.graph.waits n y
  read_member n y h = rw (laid.waits n h) (members_of_words (s.graph.waits n) (λ z past. fails (s.graph.waits n z) (λ e. omega (arith, fo.size, (fs.graph.waits n).0 z e))) y)

  -- a thread is made of its parts
  read_thread : (t : ℕ) → t < 65 → thread_at l.state t ≡ s.threads t
  unfolding thread_at
  read_thread t h = rw (laid.tag t h, laid.at t h, laid.own t h, laid.found t h) (thread_again (s.threads t))

  -- what is read is the state, field by field, and the setup and its count
  pub read_state : state_in l ≡ s
  unfolding state_in
  read_state = λ i. record {
    graph = record {
      next = fun_ext (λ n. first_and_past 151 n _ 0 (s.graph.next n) (laid.next n) (fs.graph.next n).1) i;
      seq = fun_ext (λ n. first_and_past 151 n _ 0 (s.graph.seq n) (laid.seq n) (fs.graph.seq n).1) i;
      executing = fun_ext (λ n. first_and_past 151 n _ false (s.graph.executing n) (λ h. flag_again _ _ (laid.executing n h)) (fs.graph.executing n)) i;
      locked = fun_ext (λ n. first_and_past 151 n _ false (s.graph.locked n) (λ h. flag_again _ _ (laid.locked n h)) (fs.graph.locked n)) i;
      waits = fun_ext (λ n. fun_ext (λ y. first_and_past 151 n _ false (s.graph.waits n y) (read_member n y) ((fs.graph.waits n).1 y))) i;
      free = laid.free i;
      loaded = laid.loaded i;
    };
    threads = fun_ext (λ t. first_and_past 65 t _ Idle (s.threads t) (read_thread t) (fs.threads t).1) i;
    service = record { store = record { keys = laid.keys i; chutes = laid.chutes i; used = laid.used i }; answers = fun_ext read_answer i; limit = laid.limit i; image = laid.image i };
  }

  pub read_setup : (commands : List ℕ) → o.commands ≡ commands_in commands → setup_in l.state commands ≡ without_entries o
  unfolding setup_in
  read_setup commands e = λ i. record { size = laid.size i; workers = laid.workers i; largest = laid.largest i; capacity = laid.capacity i; entries = []; commands = sym e i }

  pub read_count : count_in l.state ≡ length o.commands
  unfolding count_in
  read_count = laid.count

  -- ---- a call accepts it

  -- its lists are as long as its settings ask
  pub fit_handed_back : (commands : List ℕ) → length commands ≡ 16 * length o.commands → handed_back_fit l commands ≡ true
  unfolding handed_back_fit lengths_fit setup_in count_in state_length
  fit_handed_back commands long =
      rw (laid.capacity, laid.count)
      (both (both (both (both (eq-eqb _ _ laid.long) (eq-eqb _ _ (ap length laid.answers ∙ tabulate_length _ _))) (eq-eqb _ _ (ap length laid.keys ∙ fs.service.store.keys_length)))
      (eq-eqb _ _ (ap length laid.chutes ∙ fs.service.store.chutes_length))) (eq-eqb _ _ long))

  -- the image too
  pub fit_image : (commands : List ℕ) → image_fits (setup_in l.state commands).capacity l ≡ true
  unfolding image_fits setup_in
  fit_image commands = rw laid.capacity (eq-eqb _ _ (ap length laid.image ∙ fs.service.image))

  -- its nodes and threads are within the graph size
  member_fits : (n : ℕ) → n < 151 → (y : ℕ) → y < 192 → (not (member (set_at l.state n) y) || leb y o.size) ≡ true
  member_fits n h y _ = rw (read_member n y h) (implied (s.graph.waits n y) (leb y o.size) (λ e. le-leb y o.size ((fs.graph.waits n).0 y e)))

  node_fits_lem : (n : ℕ) → n < 151 → node_fits_at l.state o.size (length o.commands) n ≡ true
  node_fits_lem n h =
      rw (node_tests l.state o.size (length o.commands) n, laid.next n h, laid.seq n h, laid.executing n h, laid.locked n h)
      (both (both (both (both (le-leb _ _ (fs.graph.next n).0) (le-leb _ _ (fs.graph.seq n).0)) (flag_small (s.graph.executing n))) (flag_small (s.graph.locked n)))
      (set_tests (set_at l.state n) o.size ∙ each_all_below 192 _ (member_fits n h)))

  thread_fits_at_lem : (t : ℕ) → t < 65 → thread_fits_at l.state o.size t ≡ true
  unfolding thread_fits_at
  thread_fits_at_lem t h =
      rw (laid.tag t h, laid.at t h, laid.own t h, laid.found t h)
      (thread_fits_lem o.size t (s.threads t) (fs.threads t).0 (role_fits t (s.threads t) (fs.threads t).2 (fs.threads t).3))

  -- and every test of the state passes
  pub fit_state : 1 ≤ o.size → 1 ≤ o.workers → s.service.limit ≤ o.largest → 1 ≤ o.capacity → ascends s.service.store.used s.service.store.keys ≡ true → state_fits l ≡ true
  fit_state some_size some_workers within some_capacity ascending =
      rw (state_tests l, read_count, laid.chain, laid.limit, laid.size, laid.workers, laid.largest, laid.capacity, laid.loaded, laid.free, laid.used, laid.keys)
      (both (both (both (both (both (both (both (head_fits_lem s.service.limit o.largest fs.service.limit.0 within) settings) (le-leb _ _ fs.graph.loaded)) (le-leb _ _ fs.graph.free))
      (each_all_below 151 _ node_fits_lem)) (each_all_below 65 _ thread_fits_at_lem)) (le-leb _ _ fs.service.store.used_fits)) ascending)
    where
      settings : settings_fit o.size o.workers o.largest o.capacity (length o.commands) ≡ true
      settings =
          settings_fit_lem o.size o.workers o.largest o.capacity (length o.commands) (some_size, fo.size) (some_workers, fo.workers)
          (let low = fs.service.limit.0 in omega arith, fo.largest) (some_capacity, fo.capacity) fo.count

-- ---- a formed state's own lists

module _ (o : Setup) (s : State) (fo : SetupFormed o) (fs : Formed o s) where
  -- they are read as the state, the setup and its count of commands
  pub state_read_back : state_in (lists_of o s) ≡ s
  state_read_back = read_state o s fo fs (lists_of o s) (lists_laid o s fo fs)

  pub setup_read_back : (commands : List ℕ) → o.commands ≡ commands_in commands → setup_in (state_bytes o s) commands ≡ without_entries o
  setup_read_back commands same = rw (← lists_state o s) (read_setup o s fo fs (lists_of o s) (lists_laid o s fo fs) commands same)

  pub count_read_back : count_in (state_bytes o s) ≡ length o.commands
  count_read_back = rw (← lists_state o s) (read_count o s fo fs (lists_of o s) (lists_laid o s fo fs))

  -- and pass the tests of a call
  pub lists_fit : (commands : List ℕ) → length commands ≡ 16 * length o.commands → handed_back_fit (lists_of o s) commands ≡ true
  lists_fit = fit_handed_back o s fo fs (lists_of o s) (lists_laid o s fo fs)

  pub image_fits_lem : (commands : List ℕ) → image_fits (setup_in (state_bytes o s) commands).capacity (lists_of o s) ≡ true
  image_fits_lem commands = rw (← lists_state o s) (fit_image o s fo fs (lists_of o s) (lists_laid o s fo fs) commands)

  pub state_fits_lem : 1 ≤ o.size → 1 ≤ o.workers → s.service.limit ≤ o.largest → 1 ≤ o.capacity → ascends s.service.store.used s.service.store.keys ≡ true → state_fits (lists_of o s) ≡ true
  state_fits_lem = fit_state o s fo fs (lists_of o s) (lists_laid o s fo fs)

-- What lists that pass the tests of a call show: the facts behind the tests, and memory ready for a step. Assumes nothing.
use Prim.Native.Nat.{ℕ, ◌+◌, ◌*◌, ◌≤◌, ◌<◌}
use native.Mathlib.Omega.{arith}
use mathlib.Core.Path.{◌≡◌, refl, sym, ap, ◌∙◌, fun_ext, subst}
use mathlib.Core.Bool.{Bool, true, false, cond, not, ◌||◌}
use mathlib.Core.List.{List, [], ◌∷◌}
use lib.ListN.{length, get_or}
use lib.Dec.{eqb, leb, ltb}
use borrow.Author.Tests.{leb-true, eqb-true, lt-ltb, le-ltb}
use Rattle.node_set.specs.Members.{member}
use Rattle.model.specs.declared.Thread.{Thread}
use Rattle.model.specs.declared.Thread.TheVariants.{Idle}
use Rattle.model.specs.Image.{image_length}
use Rattle.model.specs.Statement.{all_within}
use Rattle.model.specs.declared.Counters.{Counters}
use Rattle.graph.specs.declared.Graph.{Graph}
use Rattle.graph.specs.Arrays.{NodesWithin}
use Rattle.command.specs.Read.{commands_in}
use Rattle.graph.specs.Items.{Kept}
use Rattle.graph.specs.Memory.{Ready, memory, shown}
use Rattle.graph.proofs.Commands.{commands_length}
use Rattle.byte_fields.specs.Bytes.{number_at, tabulate}
use Rattle.state_bytes.specs.Layout.{Lists, thread_of, thread_at, set_at, setup_in, count_in, state_in, state_length, thread_fits, thread_fits_at, image_fits}
use Rattle.runner.specs.Performed.{CountersIn, Order, given, chosen, Named}
use Rattle.byte_fields.proofs.Bytes.{below_or_past, tabulate_at, tabulate_past}
use Rattle.byte_fields.proofs.Fill.{number_one}
use Rattle.state_bytes.proofs.StateParts.{no_member}
use Rattle.state_bytes.proofs.Tests.{each_passed}
use Rattle.state_bytes.proofs.Passed.{Long, InRange}
use Rattle.runner.proofs.Performing.{threads_of, within_higher}

-- ---- what is read

-- a tabulated element, or the default past the end
tabulate_cond {ℓ} : {A : Type ℓ} (k : ℕ) (f : ℕ → A) (d : A) (n : ℕ) → get_or (tabulate k f) n d ≡ cond (ltb n k) (f n) d
tabulate_cond k f d n =
    below_or_past n k (λ h. rw (lt-ltb n k h) (tabulate_at k f d n h)) (λ h. rw (le-ltb n k h) (tabulate_past k f d n h))

-- what holds of all tabulated elements and of the default holds everywhere
tabulate_all {ℓ} : {A : Type ℓ} (P : A → Type 0) (k : ℕ) (f : ℕ → A) (d : A) → ((n : ℕ) → n < k → P (f n)) → P d → (n : ℕ) → P (get_or (tabulate k f) n d)
tabulate_all P k f d each last n =
    below_or_past n k (λ h. subst P (sym (tabulate_at k f d n h)) (each n h)) (λ h. subst P (sym (tabulate_past k f d n h)) last)

-- a tabulated set's members
set_cond : (f : ℕ → List ℕ) (n y : ℕ) → member (get_or (tabulate 151 f) n []) y ≡ cond (ltb n 151) (member (f n) y) false
set_cond f n y =
    below_or_past n 151
    (λ h. rw (lt-ltb n 151 h, tabulate_at 151 f [] n h))
    (λ h. rw (le-ltb n 151 h, tabulate_past 151 f [] n h) (no_member y))

-- either way a property holds
either : (P : Thread → Type 0) (t : Bool) {a b : Thread} → P a → P b → P (cond t a b)
either P true p q = p
either P false p q = q

-- a thread made of nodes is within the graph
thread_within : (tag at own found : ℕ) → at ≤ 150 → own ≤ 150 → NodesWithin (thread_of tag at own found)
unfolding thread_of
thread_within tag at own found h j =
    either NodesWithin (eqb tag 1) (h, j) (either NodesWithin (eqb tag 2) h (either NodesWithin (eqb tag 3) j (either NodesWithin (eqb tag 4) j
    (either NodesWithin (eqb tag 5) j (either NodesWithin (eqb tag 6) (h, j) (either NodesWithin (eqb tag 7) (h, j) tt))))))

-- ---- the facts behind the tests

module _ (l : Lists) (commands : List ℕ) where
  thread_passed : (size t : ℕ) → size ≤ 150 → thread_fits_at l.state size t ≡ true → NodesWithin (thread_at l.state t)
  unfolding thread_fits_at thread_fits thread_at
  thread_passed size t small fit =
      let b = l.state in
      let tag = get_or b (4393 + 5 * t) 0 in
      let at = get_or b (4394 + 5 * t) 0 in
      let own = get_or b (4395 + 5 * t) 0 in
      let found = number_at 2 (4396 + 5 * t) b in
      let each = each_passed (leb tag 7) (leb at size ∷ leb own size ∷ cond (eqb t 0) (leb tag 1) (not (eqb tag 1))
      ∷ (eqb tag 1 || eqb tag 2 || eqb tag 6 || eqb tag 7 || eqb at 0)
      ∷ (eqb tag 1 || eqb tag 3 || eqb tag 4 || eqb tag 5 || eqb tag 6 || eqb tag 7 || eqb own 0) ∷ (eqb tag 4 || eqb found 0) ∷ []) fit in
      thread_within tag at own found (omega (arith, leb-true at size (each 1))) (omega (arith, leb-true own size (each 2)))

  -- all of them
  pub threads_within : InRange l → (t : ℕ) → t < 65 → NodesWithin (thread_at l.state t)
  threads_within range t h = thread_passed (number_at 1 1 l.state) t range.size (range.threads t h)

  -- there are as many commands as the state says
  pub fit_count : Long l commands → length (commands_in commands) ≡ count_in l.state
  fit_count long = commands_length commands (count_in l.state) long.commands_are

  -- the schedule's threads are among the 65, and the setup is that of the lists
  fit_named : InRange l → (schedule : List ℕ) → all_within (setup_in l.state commands).largest schedule ≡ true → all_within 64 schedule ≡ true
  unfolding setup_in
  fit_named range schedule = within_higher (number_at 1 3 l.state) 64 range.largest schedule

  pub fit_order : InRange l → (order : Order) (lent : List ℕ) → Named (setup_in l.state commands).largest order lent → Named 64 order lent
  fit_order range (given schedule) lent named = fit_named range schedule named
  fit_order range (chosen limit) lent named = named

  pub fit_largest : InRange l → (setup_in l.state commands).largest ≤ 64
  unfolding setup_in
  fit_largest range = range.largest

  pub fit_capacity : Long l commands → (setup_in l.state commands).capacity ≡ length l.keys
  unfolding setup_in
  fit_capacity long = sym long.keys

  pub fit_image : Long l commands → image_fits (setup_in l.state commands).capacity l ≡ true → length l.image ≡ image_length (length l.keys)
  unfolding image_fits
  fit_image long fit = eqb-true _ _ fit ∙ ap image_length (fit_capacity long)

  pub fit_commands : (setup_in l.state commands).commands ≡ commands_in commands
  unfolding setup_in
  fit_commands = refl

-- the largest worker count is byte 3
pub largest_in_lem : (b commands : List ℕ) → length b ≡ state_length → (setup_in b commands).largest ≡ get_or b 3 0
unfolding setup_in state_length
largest_in_lem b commands long = number_one 3 b (omega arith)

-- ---- the arrays of handed-back lists

-- what is read into the graph and the threads
pub record ReadOut (l : Lists) (k : Counters) (graph : Graph) (threads : List Thread) : Type 0 where
  pub counters : CountersIn l.state k
  pub next_is : graph.next ≡ tabulate 151 (λ (n : ℕ). get_or l.state (14 + n) 0)
  pub seq_is : graph.seq ≡ tabulate 151 (λ (n : ℕ). number_at 2 (165 + 2 * n) l.state)
  pub executing_is : graph.executing ≡ tabulate 151 (λ (n : ℕ). eqb (get_or l.state (467 + n) 0) 1)
  pub locked_is : graph.locked ≡ tabulate 151 (λ (n : ℕ). eqb (get_or l.state (618 + n) 0) 1)
  pub waits_is : graph.waits ≡ tabulate 151 (set_at l.state)
  pub threads_are : threads ≡ tabulate 65 (thread_at l.state)

module _ (l : Lists) where
  -- each sequence number is that of a command
  pub read_placed : (seq commands : List ℕ) → seq ≡ tabulate 151 (λ (n : ℕ). number_at 2 (165 + 2 * n) l.state) → Long l commands → InRange l → (n : ℕ) → 16 * get_or seq n 0 ≤ length commands
  read_placed seq commands is long range n =
      let h = tabulate_all (λ (x : ℕ). x ≤ count_in l.state) 151 (λ (n : ℕ). number_at 2 (165 + 2 * n) l.state) 0 range.seq (omega arith) n in
      let e = ap (λ (a : List ℕ). get_or a n 0) is in
      omega (arith, long.commands_are, h, e)

module _ (l : Lists) {k : Counters} {graph : Graph} {threads : List Thread} (r : ReadOut l k graph threads) where
  -- they show the state that stands in the lists
  pub read_shows : shown (memory graph l.keys l.chutes l.answers l.image k) (threads_of threads) ≡ state_in l
  unfolding state_in
  read_shows = λ i. record {
    graph = record {
      next = fun_ext (λ n. ap (λ (a : List ℕ). get_or a n 0) r.next_is ∙ tabulate_cond 151 _ 0 n) i;
      seq = fun_ext (λ n. ap (λ (a : List ℕ). get_or a n 0) r.seq_is ∙ tabulate_cond 151 _ 0 n) i;
      executing = fun_ext (λ n. ap (λ (a : List Bool). get_or a n false) r.executing_is ∙ tabulate_cond 151 _ false n) i;
      locked = fun_ext (λ n. ap (λ (a : List Bool). get_or a n false) r.locked_is ∙ tabulate_cond 151 _ false n) i;
      waits = fun_ext (λ n. fun_ext (λ y. ap (λ (a : List (List ℕ)). member (get_or a n []) y) r.waits_is ∙ set_cond (set_at l.state) n y)) i;
      free = r.counters.free_is i;
      loaded = r.counters.loaded_is i;
    };
    threads = fun_ext (λ t. ap (λ (a : List Thread). get_or a t Idle) r.threads_are ∙ tabulate_cond 65 _ Idle t) i;
    service = record { store = record { keys = l.keys; chutes = l.chutes; used = r.counters.used_is i }; answers = λ c. get_or (0 ∷ l.answers) c 0; limit = r.counters.limit_is i; image = l.image };
  }

  module _ (commands : List ℕ) (long : Long l commands) (range : InRange l) where
    -- and they are ready for a step of any thread
    pub read_ready : Kept (commands_in commands) graph → Ready commands (memory graph l.keys l.chutes l.answers l.image k) Idle
    read_ready kept = record {
      nodes = subst (λ (a : List ℕ). (n : ℕ) → get_or a n 0 ≤ 150) (sym r.next_is) (tabulate_all (λ (x : ℕ). x ≤ 150) 151 _ 0 range.next (omega arith));
      free = omega (arith, r.counters.free_is, range.free);
      within = tt;
      kept = kept;
      whole = omega (arith, long.commands_are, long.answers);
      few = omega (arith, range.count, long.answers);
    }

    pub read_within : (t : ℕ) → NodesWithin (threads_of threads t)
    read_within = subst (λ (a : List Thread). (t : ℕ) → NodesWithin (threads_of a t)) (sym r.threads_are) (tabulate_all NodesWithin 65 (thread_at l.state) Idle (threads_within l commands range) tt)

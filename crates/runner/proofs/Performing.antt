-- Making steps on the arrays: after i steps they show the state after i steps. Assumes nothing.
use Prim.Native.Nat.{ℕ, zero, suc, ◌+◌, ◌-◌, ◌≤◌, ◌<◌}
use native.Mathlib.Omega.{arith}
use native.Mathlib.Numerals.{add-one}
use mathlib.Core.Path.{◌≡◌, refl, sym, ap, ◌∙◌, fun_ext, subst}
use mathlib.Core.Bool.{true, false, and-eq-true_iff}
use mathlib.Core.List.{List, [], ◌∷◌, ◌++◌, append_assoc, append-nil}
use mathlib.Core.Logic.{⊎_elim}
use lib.ListN.{length, get_or, take, drop, set, length-set, length-append, length-drop, drop_of_length-le}
use lib.Dec.{leb}
use lib.Seq.{take-suc, length-take-le, drop-cons, set-append_seam, get_or-set_same, get_or-set_other}
use borrow.Author.Rules.{rules}
use Rattle.std.specs.Prelude.{Some, None}
use borrow.Author.Tests.{leb-true, le-leb, ne_eqb}
use Rattle.model.specs.declared.Thread.{Thread}
use Rattle.model.specs.declared.Thread.TheVariants.{Idle}
use Rattle.model.specs.Upd.{upd}
use Rattle.model.specs.Setup.{Setup}
use Rattle.model.specs.Step.{State, step, steps}
use Rattle.model.specs.Dispatch.{Next, fresh, steps_from}
use Rattle.model.specs.Statement.{all_within}
use Rattle.command.proofs.Tests.{eqb_cases}
use Rattle.model.proofs.Upd.{upd_at, upd_other}
use Rattle.model.proofs.Finish.Schedule.{steps_append}
use Rattle.model.proofs.Finish.Ends.{steps_none}
use Rattle.model.specs.declared.Counters.{Counters}
use Rattle.graph.specs.declared.Graph.{Graph}
use Rattle.graph.specs.Arrays.{NodesWithin}
use Rattle.command.specs.Read.{commands_in}
use Rattle.graph.specs.Memory.{Memory, Ready, Steps, memory, shown}
use Rattle.graph.proofs.Commands.{commands_length}
use Rattle.state_bytes.specs.declared.Settings.{Settings}
use Rattle.state_bytes.specs.Layout.{Lists, all_lists, lists_of}
use Rattle.state_bytes.specs.Written.{Sets, Shown, Lays}
use Rattle.choice.specs.declared.Plan.{Plan}
use Rattle.choice.specs.Chosen.{next_of, NamesThread, Seen, after}
use Rattle.runner.specs.Performed.{Order, given, chosen, schedule_of, Named, written_in, most, PlannedBy, Over, Ahead, noted_in, Performed}
use Rattle.byte_fields.proofs.Bytes.{tabulate_elements}

-- the threads of an array, idle past its end
abbrev pub threads_of : List Thread → ℕ → Thread
threads_of threads t = get_or threads t Idle

-- ---- schedules

-- a step more
steps_more : (o : Setup) (ts : List ℕ) (t : ℕ) (s : State) → steps o (ts ++ (t ∷ [])) s ≡ step o t (steps o ts s)
unfolding steps
steps_more o ts t s = steps_append o ts (t ∷ []) s

no_steps : (o : Setup) (s : State) → steps o [] s ≡ s
unfolding steps
no_steps o s = refl

-- each thread that a schedule names is within the limit
pub each_within : (limit : ℕ) (ts : List ℕ) → all_within limit ts ≡ true → (i : ℕ) → get_or ts i 0 ≤ limit
unfolding all_within
each_within limit [] h i = omega arith
each_within limit (t ∷ ts) h zero = leb-true t limit ((and-eq-true_iff (leb t limit) (all_within limit ts)).0 h).0
each_within limit (t ∷ ts) h (suc i) = each_within limit ts ((and-eq-true_iff (leb t limit) (all_within limit ts)).0 h).1 i

-- and within a higher one
pub within_higher : (low high : ℕ) → low ≤ high → (ts : List ℕ) → all_within low ts ≡ true → all_within high ts ≡ true
unfolding all_within
within_higher low high le [] h = refl
within_higher low high le (t ∷ ts) h =
    let both = (and-eq-true_iff (leb t low) (all_within low ts)).0 h in
    (and-eq-true_iff (leb t high) (all_within high ts)).1 (le-leb t high (omega (arith, leb-true t low both.0)), within_higher low high le ts both.1)

-- ---- a thread's new state

module _ (threads : List Thread) (t : ℕ) (thread : Thread) (h : t < length threads) where
  -- it is that thread's, and no other's
  set_thread : threads_of (set threads t thread) ≡ upd (threads_of threads) t thread
  set_thread = fun_ext (λ u. ⊎_elim
      (λ w. rw (w.0, get_or-set_same threads t thread Idle h) (sym (upd_at (threads_of threads) t thread t refl)))
      (λ w. get_or-set_other threads t u thread Idle w.0 ∙ sym (upd_other (threads_of threads) t thread u w.0))
      (eqb_cases u t))

  -- so every thread's nodes stay nodes
  set_within : NodesWithin thread → ((u : ℕ) → NodesWithin (threads_of threads u)) → (u : ℕ) → NodesWithin (threads_of (set threads t thread) u)
  set_within here others u = ⊎_elim
      (λ w. rw w.0 (subst NodesWithin (sym (get_or-set_same threads t thread Idle h)) here))
      (λ w. subst NodesWithin (sym (get_or-set_other threads t u thread Idle w.0)) (others u))
      (eqb_cases u t)

-- ---- along the steps

-- what is left of the steps: the rest of the schedule, or what the dispatcher still chooses
abbrev rest : Setup → Order → ℕ → (State → Next) → State → List ℕ
rest o (given ts) i coming s = drop i ts
rest o (chosen limit) i coming s = steps_from o (limit - i) (coming s) s

-- the lent list so far: chosen steps stand in it
abbrev Filled : Order → List ℕ → List ℕ → List ℕ → Type 0
Filled (given ts) made lent₀ lent = lent ≡ lent₀
Filled (chosen limit) made lent₀ lent = lent ≡ made ++ drop (length made) lent₀

-- the arrays are ready for a step of any thread, and as long as before
pub record Kept (commands : List ℕ) (m₀ : Memory) (m : Memory) (threads : List Thread) : Type 0 where
  pub ready : Ready commands m Idle
  pub within : (t : ℕ) → NodesWithin (threads_of threads t)
  pub all : length threads ≡ 65
  pub keys_long : length m.keys ≡ length m₀.keys
  pub chutes_long : length m.chutes ≡ length m₀.chutes
  pub answers_long : length m.answers ≡ length m₀.answers
  pub image_long : length m.image ≡ length m₀.image

-- of a setup: the arrays show the state after the steps made, and these with what is left are all
pub record Reaches (o : Setup) (order : Order) (s₀ s : State) (made : List ℕ) (i : ℕ) (coming : State → Next) : Type 0 where
  pub state_is : s ≡ steps o made s₀
  pub all_are : schedule_of o order s₀ ≡ made ++ rest o order i coming s

-- after i steps, those of the plan among them
pub record Along (c : Settings) (commands : List ℕ) (order : Order) (lent₀ : List ℕ) (m₀ : Memory) (threads₀ : List Thread) (m : Memory) (threads : List Thread) (lent : List ℕ) (plan : Plan) (i : ℕ) : Type 0 where
  pub made : List ℕ
  pub made_long : length made ≡ i
  pub few : i ≤ most order
  pub kept : Kept commands m₀ m threads
  pub steady : NamesThread plan
  pub filled : Filled order made lent₀ lent
  pub reaches : (o : Setup) → Sets c o → o.commands ≡ commands_in commands → o.capacity ≡ length m₀.keys
      → Reaches o order (shown m₀ (threads_of threads₀)) (shown m (threads_of threads)) made i (after o plan)

-- after the steps of the first j threads kept ahead
pub record Block (commands ahead : List ℕ) (m₁ : Memory) (threads₁ : List Thread) (m : Memory) (threads : List Thread) (j : ℕ) : Type 0 where
  pub kept : Kept commands m₁ m threads
  pub shows : (o : Setup) → o.commands ≡ commands_in commands → o.capacity ≡ length m₁.keys
      → shown m (threads_of threads) ≡ steps o (take j ahead) (shown m₁ (threads_of threads₁))

-- ready, with another thread to step
pub ready_for : {list : List ℕ} {m : Memory} {thread : Thread} (other : Thread) → NodesWithin other
    → Ready list m thread → Ready list m other
ready_for other w r = record { nodes = r.nodes; free = r.free; within = w; kept = r.kept; whole = r.whole; few = r.few }

-- ---- what is kept ahead

-- the thread kept is one of the 65
pub ahead_named : {plan : Plan} {done n : ℕ} {ahead : List ℕ} (order : Order) (j : ℕ) (lent : List ℕ) → Ahead order plan done ahead n → j < n → Named 64 order lent → NamesThread plan → get_or ahead j 0 < 65
ahead_named {done} (given ts) j lent a more named steady = omega (arith, a.are j more, each_within 64 ts named (done + j))
ahead_named {ahead} (chosen limit) j lent a more named steady =
    let few = a.are.0 in
    let first : j ≡ 0 = omega arith in
    let low : get_or ahead 0 0 ≤ 64 = steady _ (a.are.1 (omega arith)) in
    rw first (omega (arith, low))

-- ---- before the first step

-- no more steps after the most
steps_over : (o : Setup) (n : Next) (s : State) → steps_from o 0 n s ≡ []
unfolding steps_from
steps_over o n s = refl

-- the arrays as they are found
kept_none : {commands : List ℕ} {m : Memory} {threads : List Thread} → Ready commands m Idle → ((t : ℕ) → NodesWithin (threads_of threads t)) → length threads ≡ 65
    → Kept commands m m threads
kept_none r w h = record { ready = r; within = w; all = h; keys_long = refl; chutes_long = refl; answers_long = refl; image_long = refl }

-- all steps, by what they come from
pub given_are : (o : Setup) (ts : List ℕ) (s : State) → schedule_of o (given ts) s ≡ ts
unfolding schedule_of
given_are o ts s = refl

pub chosen_are : (o : Setup) (limit : ℕ) (s : State) → schedule_of o (chosen limit) s ≡ steps_from o limit (fresh o false s) s
unfolding schedule_of
chosen_are o limit s = refl

-- before the first step, with a plan that has no thread
pub along_none : {c : Settings} {commands lent : List ℕ} {m : Memory} {threads : List Thread} (order : Order) → Ready commands m Idle → ((t : ℕ) → NodesWithin (threads_of threads t)) → length threads ≡ 65
    → Along c commands order lent m threads m threads lent (record { next = None; settled = false }) 0
along_none {lent} {m} {threads} order r w h = record {
  made = [];
  made_long = refl;
  few = omega arith;
  kept = kept_none r w h;
  steady = λ t is. search rules;
  filled = nothing order;
  reaches = λ o _ _ _. record { state_is = sym (no_steps o (shown m (threads_of threads))); all_are = all order o (shown m (threads_of threads)) };
}
  where
    nothing : (order : Order) → Filled order [] lent lent
    nothing (given ts) = refl
    nothing (chosen limit) = refl

    all : (order : Order) (o : Setup) (s : State) → schedule_of o order s ≡ [] ++ rest o order 0 (after o (record { next = None; settled = false })) s
    all (given ts) o s = given_are o ts s
    all (chosen limit) o s = let e : limit ≡ limit - 0 = omega arith in chosen_are o limit s ∙ ap (λ k. steps_from o k (fresh o false s) s) e

-- ---- a step

-- the arrays after it, and the state that they show
module _ {commands : List ℕ} {m₀ : Memory} {m m' : Memory} {threads : List Thread} (t : ℕ) (thread : Thread)
    (high : t < 65) (k : Kept commands m₀ m threads) (stepped : Steps commands t (threads_of threads t) m thread m')
    (keys : length m'.keys ≡ length m.keys) (chutes : length m'.chutes ≡ length m.chutes)
    (answers : length m'.answers ≡ length m.answers) (image : length m'.image ≡ length m.image) where
  inside : t < length threads
  inside = omega (arith, k.all)

  pub kept_more : Kept commands m₀ m' (set threads t thread)
  kept_more = record {
    ready = ready_for Idle tt stepped.ready;
    within = set_within threads t thread inside stepped.ready.within k.within;
    all = length-set threads t thread ∙ k.all;
    keys_long = keys ∙ k.keys_long;
    chutes_long = chutes ∙ k.chutes_long;
    answers_long = answers ∙ k.answers_long;
    image_long = image ∙ k.image_long;
  }

  state_more : (o : Setup) → o.commands ≡ commands_in commands → o.capacity ≡ length m₀.keys → shown m' (threads_of (set threads t thread)) ≡ step o t (shown m (threads_of threads))
  state_more o cs cap = ap (shown m') (set_thread threads t thread inside) ∙ stepped.step_is o (threads_of threads) cs (cap ∙ sym k.keys_long) refl

-- the arrays before the first thread kept ahead
pub block_none : {commands : List ℕ} {m₀ m : Memory} {threads : List Thread} (ahead : List ℕ) → Kept commands m₀ m threads → Block commands ahead m threads m threads 0
block_none {m} {threads} ahead k = record { kept = kept_none k.ready k.within k.all; shows = λ o _ _. sym (no_steps o (shown m (threads_of threads))) }

-- a step of the next of them is the model's
pub block_more : {commands : List ℕ} {m₁ m m' : Memory} {threads₁ threads : List Thread} (ahead : List ℕ) (j : ℕ) (thread : Thread)
    → j < length ahead → get_or ahead j 0 < 65 → Steps commands (get_or ahead j 0) (threads_of threads (get_or ahead j 0)) m thread m'
    → length m'.keys ≡ length m.keys → length m'.chutes ≡ length m.chutes → length m'.answers ≡ length m.answers
    → length m'.image ≡ length m.image → Block commands ahead m₁ threads₁ m threads j
    → Block commands ahead m₁ threads₁ m' (set threads (get_or ahead j 0) thread) (j + 1)
block_more {m₁} {m'} {threads₁} {threads} ahead j thread h high stepped keys chutes answers image b = record {
  kept = kept_more (get_or ahead j 0) thread high b.kept stepped keys chutes answers image;
  shows = λ o cs cap.
      state_more (get_or ahead j 0) thread high b.kept stepped keys chutes answers image o cs cap ∙ ap (step o (get_or ahead j 0)) (b.shows o cs cap)
      ∙ sym (steps_more o (take j ahead) (get_or ahead j 0) (shown m₁ (threads_of threads₁))) ∙ ap (λ (ts : List ℕ). steps o ts (shown m₁ (threads_of threads₁))) (rw add-one (sym (take-suc ahead j 0 h)));
}

-- ---- the invariant when another thread is planned

-- a plan made of the memory
abbrev pub Planned : Order → Settings → Plan → Memory → List Thread → Plan → Type 0
Planned order c plan m threads plan' = PlannedBy order plan m.graph threads m.counters.loaded.0 c.count c.largest plan'

-- memory and threads show the state that the choice goes by
pub seen : {c : Settings} (m : Memory) (threads : List Thread) {o : Setup} → Sets c o → Seen m.graph threads m.counters.loaded.0 c.count c.largest o (shown m (threads_of threads))
seen m threads sets = record { first_is = refl; seq_is = refl; threads_are = λ t. refl; loaded_is = refl; count_is = sets.count; largest_is = sets.largest }

-- so what is left is what the new plan begins with
replanned : (c : Settings) (plan : Plan) (m : Memory) (threads : List Thread) (plan' : Plan) (order : Order) (i : ℕ) (s₀ : State) (made : List ℕ) → Planned order c plan m threads plan' → (o : Setup) → Sets c o
    → Reaches o order s₀ (shown m (threads_of threads)) made i (after o plan) → Reaches o order s₀ (shown m (threads_of threads)) made i (λ s. next_of plan')
replanned c plan m threads plan' (given ts) i s₀ made p o sets r = record { state_is = r.state_is; all_are = r.all_are }
replanned c plan m threads plan' (chosen limit) i s₀ made p o sets r = record {
  state_is = r.state_is;
  all_are = r.all_are ∙ ap (λ (x : Next). made ++ steps_from o (limit - i) x (shown m (threads_of threads))) (sym (p.1 o (shown m (threads_of threads)) (seen m threads sets)));
}

-- its thread is one of the 65, as the last one's
pub still_named : (order : Order) (c : Settings) (plan : Plan) (m : Memory) (threads : List Thread) (plan' : Plan) → Planned order c plan m threads plan' → NamesThread plan → NamesThread plan'
still_named (given ts) c plan m threads plan' p steady = rw p steady
still_named (chosen limit) c plan m threads plan' p steady = p.0

-- a number that is not 0
pub positive : (n : ℕ) → (n ≡ 0 → ⊥) → 0 < n
positive zero h = absurd (h refl)
positive (suc n) h = omega arith

-- the lent list with one more
filled_more : (made lent₀ lent : List ℕ) (t i : ℕ) → length made ≡ i → i < length lent₀ → lent ≡ made ++ drop (length made) lent₀
    → set lent i t ≡ (made ++ (t ∷ [])) ++ drop (length (made ++ (t ∷ []))) lent₀
filled_more made lent₀ lent t i long more e =
    let more' : length made < length lent₀ = rw long more in
    let next : length (made ++ (t ∷ [])) ≡ suc (length made) = length-append made (t ∷ []) ∙ rw add-one in
    rw (e, ← long, next, drop-cons lent₀ (length made) 0 more') (set-append_seam made (get_or lent₀ (length made) 0) (drop (suc (length made)) lent₀) t ∙ sym (append_assoc made (t ∷ []) (drop (suc (length made)) lent₀)))

-- ---- the steps of those kept ahead

-- of a schedule they are its next ones
next_ones : (ts ahead : List ℕ) (done n : ℕ) → done + n ≤ length ts → n ≤ length ahead → ((k : ℕ) → k < n → get_or ahead k 0 ≡ get_or ts (done + k) 0) → drop done ts ≡ take n ahead ++ drop (done + n) ts
next_ones ts ahead done zero in_ts in_ahead are = let e : done ≡ done + 0 = omega arith in ap (λ k. drop k ts) e
next_ones ts ahead done (suc n) in_ts in_ahead are =
    let e : done + suc n ≡ suc (done + n) = omega arith in
    next_ones ts ahead done n (omega arith) (omega arith) (λ k less. are k (omega arith))
    ∙ ap (λ (l : List ℕ). take n ahead ++ l) (drop-cons ts (done + n) 0 (omega arith) ∙ ap (λ x. x ∷ drop (suc (done + n)) ts) (sym (are n (omega arith))))
    ∙ sym (append_assoc (take n ahead) (get_or ahead n 0 ∷ []) (drop (suc (done + n)) ts))
    ∙ ap (λ (l : List ℕ). l ++ drop (suc (done + n)) ts) (sym (take-suc ahead n 0 (omega arith))) ∙ ap (λ k. take (suc n) ahead ++ drop k ts) (sym e)

-- one that is chosen is the plan's, and what follows it comes after the plan
steps_from_more : (o : Setup) (plan : Plan) (t limit i : ℕ) (s : State) → i < limit → plan.next ≡ Some t
    → steps_from o (limit - i) (next_of plan) s ≡ t ∷ steps_from o (limit - (i + 1)) (after o plan (step o t s)) (step o t s)
unfolding steps_from
steps_from_more o plan t limit i s more next = let e : limit - i ≡ suc (limit - (i + 1)) = omega arith in rw (e, next)

one_of : (ahead : List ℕ) → 0 < length ahead → take 1 ahead ≡ get_or ahead 0 0 ∷ []
one_of ahead h = take-suc ahead 0 0 h

one_step : (o : Setup) (t : ℕ) (s : State) → steps o (t ∷ []) s ≡ step o t s
unfolding steps
one_step o t s = refl

-- what is left before them is they and what is left after them
left_more : (o : Setup) (order : Order) (plan : Plan) (done n : ℕ) (ahead : List ℕ) (s s' : State) → Ahead order plan done ahead n → (n ≡ 0 → ⊥) → n ≤ length ahead
    → s' ≡ steps o (take n ahead) s → rest o order done (λ z. next_of plan) s ≡ take n ahead ++ rest o order (done + n) (after o plan) s'
left_more o (given ts) plan done n ahead s s' w some h e = next_ones ts ahead done n w.left h w.are
left_more o (chosen limit) plan done n ahead s s' w some h e =
    let less = positive n some in
    let few = w.are.0 in
    let t = get_or ahead 0 0 in
    let one : n ≡ 1 = omega arith in
    let here : done + n ≡ done + 1 = omega arith in
    let first : take n ahead ≡ t ∷ [] = ap (λ k. take k ahead) one ∙ one_of ahead (omega arith) in
    let next : s' ≡ step o t s = e ∙ ap (λ (ts : List ℕ). steps o ts s) first ∙ one_step o t s in
    rw (first, here, next) (steps_from_more o plan t limit done s (omega (arith, w.left)) (w.are.1 less))

-- and in the lent list they are noted
noted_more : (order : Order) (plan : Plan) (done n : ℕ) (ahead made lent₀ lent lent' : List ℕ) → Named 64 order lent₀ → Ahead order plan done ahead n → (n ≡ 0 → ⊥) → n ≤ length ahead
    → length made ≡ done → lent' ≡ noted_in order ahead done n lent → Filled order made lent₀ lent → Filled order (made ++ take n ahead) lent₀ lent'
noted_more (given ts) plan done n ahead made lent₀ lent lent' named w some h long e f = e ∙ f
noted_more (chosen limit) plan done n ahead made lent₀ lent lent' named w some h long e f =
    let less = positive n some in
    let few = w.are.0 in
    let one : n ≡ 1 = omega arith in
    let first : take n ahead ≡ get_or ahead 0 0 ∷ [] = ap (λ k. take k ahead) one ∙ one_of ahead (omega arith) in
    e ∙ rw (ne_eqb n 0 some, first) (filled_more made lent₀ lent (get_or ahead 0 0) done long (omega (arith, w.left)) f)

module _ {commands : List ℕ} {m₀ : Memory} {threads₀ : List Thread} {c : Settings} {lent₀ lent : List ℕ} {m : Memory} {threads : List Thread} {plan : Plan} where
  -- the lent list stays as long
  pub lent_long : {i : ℕ} (order : Order) → Named 64 order lent₀ → Along c commands order lent₀ m₀ threads₀ m threads lent plan i → length lent ≡ length lent₀
  lent_long (given ts) named a = ap length a.filled
  lent_long (chosen limit) named a =
      let long = a.made_long in let few = a.few in
      ap length a.filled ∙ length-append a.made (drop (length a.made) lent₀) ∙ omega (arith, length-drop (length a.made) lent₀)

  -- after a plan, the threads that it keeps ahead and their steps
  pub along_block : {done n : ℕ} {plan' : Plan} {m' : Memory} {threads' : List Thread} (ahead lent' : List ℕ) (order : Order) → Named 64 order lent₀
      → Planned order c plan m threads plan' → Ahead order plan' done ahead n → (n ≡ 0 → ⊥) → n ≤ length ahead → lent' ≡ noted_in order ahead done n lent
      → Block commands ahead m threads m' threads' n → Along c commands order lent₀ m₀ threads₀ m threads lent plan done
      → Along c commands order lent₀ m₀ threads₀ m' threads' lent' plan' (done + n)
  along_block {done} {n} {plan'} {m'} {threads'} ahead lent' order named p w some h noted_is k a = record {
    made = a.made ++ take n ahead;
    made_long = length-append a.made (take n ahead) ∙ rw (a.made_long, length-take-le n ahead h);
    few = w.left;
    kept = record {
      ready = k.kept.ready;
      within = k.kept.within;
      all = k.kept.all;
      keys_long = k.kept.keys_long ∙ a.kept.keys_long;
      chutes_long = k.kept.chutes_long ∙ a.kept.chutes_long;
      answers_long = k.kept.answers_long ∙ a.kept.answers_long;
      image_long = k.kept.image_long ∙ a.kept.image_long;
    };
    steady = still_named order c plan m threads plan' p a.steady;
    filled = noted_more order plan' done n ahead a.made lent₀ lent lent' named w some h a.made_long noted_is a.filled;
    reaches = λ o sets cs cap.
        let s₀ = shown m₀ (threads_of threads₀) in
        let s = shown m (threads_of threads) in
        let s' = shown m' (threads_of threads') in
        let r = replanned c plan m threads plan' order done s₀ a.made p o sets (a.reaches o sets cs cap) in
        let e = k.shows o cs (cap ∙ sym a.kept.keys_long) in
        record {
          state_is = e ∙ ap (steps o (take n ahead)) r.state_is ∙ sym (steps_append o a.made (take n ahead) s₀);
          all_are =
              r.all_are ∙ ap (λ (l : List ℕ). a.made ++ l) (left_more o order plan' done n ahead s s' w some h e)
              ∙ sym (append_assoc a.made (take n ahead) (rest o order (done + n) (after o plan') s'));
        };
  }

-- a list as long is lent as well
pub named_still : (order : Order) (lent lent' : List ℕ) → Named 64 order lent → length lent' ≡ length lent → Named 64 order lent'
named_still (given ts) lent lent' named e = named
named_still (chosen limit) lent lent' named e = omega arith

-- ---- after the last step

-- all steps are made
made_all : (o : Setup) (order : Order) (s₀ s : State) (made : List ℕ) (i : ℕ) (plan : Plan) → Reaches o order s₀ s made i (λ z. next_of plan) → Over order plan i → schedule_of o order s₀ ≡ made
made_all o (given ts) s₀ s made i plan r over = r.all_are ∙ ap (λ (x : List ℕ). made ++ x) (drop_of_length-le ts {i = i} over) ∙ append-nil made
made_all o (chosen limit) s₀ s made i plan r over = r.all_are ∙ ap (λ (x : List ℕ). made ++ x) none ∙ append-nil made
  where
    none : steps_from o (limit - i) (next_of plan) s ≡ []
    none = ⊎_elim
        (λ g. rw g (steps_none o (limit - i) s))
        (λ le. let z : limit - i ≡ 0 = omega arith in rw z (steps_over o (next_of plan) s))
        over

-- and stand in the lent list, into which none is written any more
filled_all : (order : Order) (ahead made all lent₀ lent lent' : List ℕ) (i n : ℕ) → n ≡ 0 → all ≡ made → lent' ≡ noted_in order ahead i n lent
    → Filled order made lent₀ lent → lent' ≡ written_in order all lent₀
filled_all (given ts) ahead made all lent₀ lent lent' i n z e same f = same ∙ f
filled_all (chosen limit) ahead made all lent₀ lent lent' i n z e same f = rw e (rw z at same ∙ f)

-- lists are known by their parts
pub same_lists : (l m : Lists) → l.state ≡ m.state → l.answers ≡ m.answers → l.keys ≡ m.keys → l.chutes ≡ m.chutes → l.image ≡ m.image → l ≡ m
same_lists l m state answers keys chutes image = λ i. record { state = state i; answers = answers i; keys = keys i; chutes = chutes i; image = image i }

-- the bytes written and the lists are those of the state that the arrays show
pub performed : {commands lent₀ lent : List ℕ} {m₀ : Memory} {threads₀ : List Thread} {threads : List Thread} {plan : Plan} {done n : ℕ} (order : Order) (plan' : Plan) (ahead : List ℕ) (c : Settings) (k : Counters)
    (graph : Graph) (keys chutes answers image bytes lent' : List ℕ)
    → Along c commands order lent₀ m₀ threads₀ (memory graph keys chutes answers image k) threads lent plan done
    → Planned order c plan (memory graph keys chutes answers image k) threads plan' → Ahead order plan' done ahead n → n ≡ 0
    → lent' ≡ noted_in order ahead done n lent
    → Lays c k graph.next graph.seq graph.executing graph.locked graph.waits threads bytes → Performed c commands order lent₀ m₀ threads₀ (all_lists bytes keys chutes answers image) lent' done
unfolding lists_of
performed {commands} {lent₀} {lent} {m₀} {threads₀} {threads} {plan} {done} {n} order plan' ahead c k graph keys chutes answers image bytes lent' a p w none same lays o sets cs room =
    let now = shown (memory graph keys chutes answers image k) (threads_of threads) in
    let sh : Shown k graph.next graph.seq graph.executing graph.locked graph.waits threads now = record {
      graph_is = record { next_is = refl; seq_is = refl; executing_is = refl; locked_is = refl; waits_is = refl };
      threads_are = λ t. refl;
      free_is = refl;
      loaded_is = refl;
      used_is = refl;
      limit_is = refl;
    } in
    let r = replanned c plan (memory graph keys chutes answers image k) threads plan' order done (shown m₀ (threads_of threads₀)) a.made p o sets (a.reaches o sets cs room) in
    let all = made_all o order (shown m₀ (threads_of threads₀)) now a.made done plan' r (w.none none) in
    let count : length answers ≡ length o.commands = sym (commands_length commands (length answers) a.kept.ready.whole) ∙ ap length (sym cs) in (
      same_lists (all_lists bytes keys chutes answers image) (lists_of o now) (lays o now sets sh) (sym (tabulate_elements (length o.commands) answers 0 count)) refl refl refl
          ∙ ap (lists_of o) (r.state_is ∙ ap (λ (ts : List ℕ). steps o ts (shown m₀ (threads_of threads₀))) (sym all)),
      filled_all order ahead a.made (schedule_of o order (shown m₀ (threads_of threads₀))) lent₀ lent lent' done n none all same a.filled,
      sym a.made_long ∙ ap length (sym all),
    )

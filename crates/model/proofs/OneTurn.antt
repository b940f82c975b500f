-- Reads in one turn, proved: a worker's node keeps its command while it is linked, so what a worker has looked up for is what it held, and
-- that was no read. Assumes nothing.
use Rattle.std.specs.Prelude.{ℕ, ◌+◌, ◌≤◌, ◌≡◌, Bool, ◌||◌, ◌&&◌, List, [], ◌∷◌, length, leb}
use Rattle.std.proofs.Common.{arith, sym, ◌∙◌, ne_eqb, leb-true, leb-false}
use Rattle.std.proofs.Math.Path.{refl, ap}
use Rattle.std.proofs.Math.Bool.{true, false, cond, and-eq-true_iff}
use Rattle.std.proofs.Math.Option.{none, some}
use Rattle.std.proofs.Math.Logic.{⊎_elim}
use Rattle.std.proofs.Math.Dec.{eqb}
use Rattle.std.proofs.lemmas.Bool.{eqb-false}
use Rattle.command.specs.declared.Kind.{Kind}
use Rattle.command.specs.declared.Kind.TheVariants.{Insert, Delete, Read, Update, Workers, Checkpoint}
use Rattle.command.specs.Dependent.{is_read}
use Rattle.node_set.specs.declared.Node.{Node}
use Rattle.model.specs.declared.Thread.{Thread}
use Rattle.model.specs.declared.Thread.TheVariants.{Idle, Loading, Searching, Holding, LookedUp, Written, Walking, Clearing}
use Rattle.model.specs.Upd.{upd}
use Rattle.model.specs.Setup.{Setup, command_at, both_dependent}
use Rattle.model.specs.Graph.{Graph, set_next, set_seq, set_executing, set_locked, set_waits, set_free, set_loaded}
use Rattle.model.specs.Service.{found_for, in_one_step}
use Rattle.model.proofs.Searches.{searches}
use Rattle.model.specs.Step.{State, node, opened, move_to, serve_to, command_of, step_on, load, loader_idle, link, add_dependence, loader_walk, loader_step, is_allowed, idle}
use Rattle.model.specs.Step.{enter, ready, examine, leave, searching, holding, looked_up, bypass, walking, return, clearing, worker_step, step, steps}
use Rattle.model.specs.Statement.{Accepted, all_within, serial_answer}
use Rattle.model.specs.OneTurn.{ReadsInOneTurn}
use Rattle.command.proofs.Tests.{true_false, none_some, neither, cond_cases}
use Rattle.model.proofs.Upd.{upd_same, upd_other, upd_cases}
use Rattle.model.proofs.Chain.Invariant.{Ghost, Inv, looked, clears}
use Rattle.model.proofs.Chain.Facts.{looked_own}
use Rattle.model.proofs.Places.{command_place}
use Rattle.model.proofs.Chain.Load.{f_out}
use Rattle.model.proofs.Chain.Ghost.{ghost_step, worker_ghost}
use Rattle.model.proofs.Chain.Keep.{keeps, steps_keep}
use Rattle.model.proofs.Chain.Opening.{opened_ghost, opened_meets}

-- every worker that has looked up has a command that is written in two steps
abbrev InTwo : Setup → (ℕ → Thread) → (ℕ → ℕ) → Type 0
InTwo o threads seq = (u n : ℕ) → looked (threads u) ≡ some n → in_one_step (command_at o.commands (seq n)) ≡ false

abbrev InTwoAt : Setup → State → Type 0
InTwoAt o s = InTwo o s.threads s.graph.seq

module _ (o : Setup) (s : State) (g : Ghost) (i : Inv o s g) (p : InTwoAt o s) where
  -- a step that leaves thread t in a state without a lookup, and each linked node its sequence number
  moved : (t : ℕ) (v : Thread) → looked v ≡ none → (seq' : ℕ → ℕ) → ((n : ℕ) → g.linked n ≡ true → seq' n ≡ s.graph.seq n) → InTwo o (upd s.threads t v) seq'
  moved t v out seq' same u n e =
      ⊎_elim (λ h. absurd (none_some (looked v) out (ap looked (sym h.1) ∙ e))) (λ h. old (ap looked (sym h.1) ∙ e)) (upd_cases s.threads t v u)
    where
      old : looked (s.threads u) ≡ some n → in_one_step (command_at o.commands (seq' n)) ≡ false
      old k = rw (same n (i.executing.own_linked u n (looked_own (s.threads u) n k))) (p u n k)

  -- the sequence numbers stay
  stays : (t : ℕ) (v : Thread) → looked v ≡ none → InTwo o (upd s.threads t v) s.graph.seq
  stays t v out = moved t v out s.graph.seq (λ n l. refl)

  -- one node that is not linked gets another
  changes : (t : ℕ) (v : Thread) → looked v ≡ none → (x q : ℕ) → g.linked x ≡ false → InTwo o (upd s.threads t v) (upd s.graph.seq x q)
  changes t v out x q off = moved t v out (upd s.graph.seq x q) (λ n l. upd_other s.graph.seq x q n (λ e. true_false (g.linked n) l (ap g.linked e ∙ off)))

  loader_two : (th : Thread) → s.threads 0 ≡ th → InTwoAt o (loader_step o th s)
  unfolding loader_step loader_idle load loader_walk link add_dependence step_on move_to set_next set_seq set_executing set_locked set_waits set_free set_loaded
  loader_two Idle e =
      cond_cases (InTwoAt o) (leb (length o.commands) s.graph.loaded || eqb s.graph.free 0 || s.graph.locked 0) (λ _. p) (λ b.
      let k = neither (leb (length o.commands) s.graph.loaded || eqb s.graph.free 0) (s.graph.locked 0) b in
      let j = neither (leb (length o.commands) s.graph.loaded) (eqb s.graph.free 0) k.0 in
      changes 0 (Loading (node 0) (node s.graph.free)) refl s.graph.free (s.graph.loaded + 1)
      (f_out o s g i e (leb-false (length o.commands) s.graph.loaded j.0) (eqb-false s.graph.free 0 j.1) k.1))
  loader_two (Loading a x) e =
      let y = s.graph.next a.0 in
      let v = Loading (node y) (node x.0) in
      cond_cases (InTwoAt o) (eqb y 0) (λ _. stays 0 Idle refl) (λ _. cond_cases (InTwoAt o) (s.graph.locked y) (λ _. p)
      (λ _. cond_cases (λ (h : Graph). InTwo o (upd s.threads 0 v) h.seq) (both_dependent (command_of o (step_on a.0 y s.graph) y) (command_of o (step_on a.0 y s.graph) x.0)) (λ _. stays 0 v refl) (λ _. stays 0 v refl)))
  loader_two (Searching a) e = p
  loader_two (Holding x) e = p
  loader_two (LookedUp x f) e = p
  loader_two (Written x) e = p
  loader_two (Walking a x) e = p
  loader_two (Clearing a x) e = p

  module _ (t : ℕ) where
    -- a worker looks up for a command that is not written in the same step
    looks : (x f : ℕ) → in_one_step (command_of o s.graph x) ≡ false → InTwo o (upd s.threads t (LookedUp (node x) f)) s.graph.seq
    unfolding command_of
    looks x f two u n e = ⊎_elim (λ h. mine (ap looked (sym h.1) ∙ e)) (λ h. p u n (ap looked (sym h.1) ∙ e)) (upd_cases s.threads t (LookedUp (node x) f) u)
      where
        mine : looked (LookedUp (node x) f) ≡ some n → in_one_step (command_at o.commands (s.graph.seq n)) ≡ false
        mine h = let q : n ≡ x = cc in rw q two

    worker_two : (th : Thread) → s.threads t ≡ th → InTwoAt o (worker_step o t th s)
    unfolding worker_step idle enter searching leave examine holding looked_up walking bypass clearing return command_of step_on move_to serve_to set_next set_seq set_executing set_locked set_waits set_free
    worker_two Idle e = cond_cases (InTwoAt o) (is_allowed t s) (λ _. cond_cases (InTwoAt o) (s.graph.locked 0) (λ _. p) (λ _. stays t (Searching (node 0)) refl)) (λ _. p)
    worker_two (Loading a x) e = p
    worker_two (Searching a) e =
        let looks = searches o t a s in
        let y = s.graph.next a.0 in
        cond_cases (InTwoAt o) (eqb y 0) (λ _. stays t Idle refl) (λ _. cond_cases (InTwoAt o) (s.graph.locked y) (λ _. p)
        (λ _. cond_cases (InTwoAt o) (is_allowed t s && ready s.graph y) (λ _. stays t (Holding (node y)) refl) (λ _. stays t (Searching (node y)) refl)))
    worker_two (Holding x) e =
        cond_cases (InTwoAt o) (in_one_step (command_of o s.graph x.0)) (λ _. stays t (Written (node x.0)) refl) (looks x.0 (found_for (command_of o s.graph x.0) s.service.store))
    worker_two (LookedUp x f) e = stays t (Written (node x.0)) refl
    worker_two (Written x) e = cond_cases (InTwoAt o) (s.graph.locked 0) (λ _. p) (λ _. stays t (Walking (node 0) x) refl)
    worker_two (Walking a x) e =
        let y = s.graph.next a.0 in
        cond_cases (InTwoAt o) (eqb y 0 || s.graph.locked y) (λ _. p)
        (λ _. cond_cases (InTwoAt o) (eqb y x.0) (λ _. stays t (Clearing (node a.0) (node x.0)) refl) (λ _. stays t (Walking (node y) (node x.0)) refl))
    worker_two (Clearing a x) e =
        let y = s.graph.next a.0 in
        cond_cases (InTwoAt o) (eqb y 0) (λ _. changes t Idle refl x.0 0 (i.clearing.out t x.0 (ap clears e)))
        (λ _. cond_cases (InTwoAt o) (s.graph.locked y) (λ _. p) (λ _. stays t (Clearing (node y) (node x.0)) refl))

-- every step, and every schedule, keeps it
step_two : (o : Setup) (s : State) (g : Ghost) → Inv o s g → InTwoAt o s → (t : ℕ) → InTwoAt o (step o t s)
unfolding step
step_two o s g i p t = cond_cases (InTwoAt o) (eqb t 0) (λ _. loader_two o s g i p (s.threads 0) refl) (λ _. worker_two o s g i p t (s.threads t) refl)

steps_two : (o : Setup) → Accepted o → (ts : List ℕ) → all_within o.largest ts ≡ true → (s : State) (g : Ghost) → Inv o s g → InTwoAt o s → InTwoAt o (steps o ts s)
unfolding steps all_within
steps_two o acc [] w s g i p = p
steps_two o acc (t ∷ ts) w s g i p =
    let k = (and-eq-true_iff (leb t o.largest) (all_within o.largest ts)).0 w in
    steps_two o acc ts k.1 (step o t s) (ghost_step o t s g) (keeps o acc t (leb-true t o.largest k.0) s g i) (step_two o s g i p t)

-- from the opening, where nobody has looked up
reached_two : (o : Setup) → Accepted o → (ts : List ℕ) → all_within o.largest ts ≡ true → InTwoAt o (steps o ts (opened o))
unfolding opened
reached_two o acc ts w = steps_two o acc ts w (opened o) (opened_ghost o) (opened_meets o acc) (λ u n e. absurd (none_some none refl e))

-- what is written in one step is a read, and nothing else
read_is : (k : Kind) → k ≡ Read → is_read k ≡ true
unfolding is_read
read_is k e = rw e

other_is : (k : Kind) → (k ≡ Read → ⊥) → is_read k ≡ false
unfolding is_read
other_is Insert n = refl
other_is Delete n = refl
other_is Read n = absurd (n refl)
other_is Update n = refl
other_is Workers n = refl
other_is Checkpoint n = refl

-- a holding worker's step, by that test
module _ (o : Setup) (s : State) (t : ℕ) (low : 1 ≤ t) (own : Node) (here : s.threads t ≡ Holding own) where
  abbrev tried : Bool
  tried = in_one_step (command_of o s.graph own.0)

  abbrev found : ℕ
  found = found_for (command_of o s.graph own.0) s.service.store

  writes_now : tried ≡ true → (step o t s).threads t ≡ Written own
  unfolding step worker_step holding looked_up serve_to
  writes_now e = rw (ne_eqb t 0 (λ (z : t ≡ 0). omega arith), here, e) (upd_same s.threads t (Written own))

  looks_first : tried ≡ false → ((step o t s).threads t ≡ LookedUp own found) × ((step o t s).service ≡ s.service)
  unfolding step worker_step holding serve_to
  looks_first e = rw (ne_eqb t 0 (λ (z : t ≡ 0). omega arith), here, e) (upd_same s.threads t (LookedUp own found), refl)

  -- the command counts as answered from that step on, so its answer is the serial run's
  answered_now : Accepted o → t ≤ o.largest → (g : Ghost) → Inv o s g → 1 ≤ s.graph.seq own.0 → tried ≡ true
      → (step o t s).service.answers (s.graph.seq own.0) ≡ serial_answer o (s.graph.seq own.0)
  unfolding ghost_step worker_ghost
  answered_now acc high g i used e =
      let b = i.order.below own.0 in
      let l = i.order.loaded_count in
      let w : (ghost_step o t s g).written (s.graph.seq own.0) ≡ true = rw (ne_eqb t 0 (λ (z : t ≡ 0). omega arith), here, e) (upd_same g.written (s.graph.seq own.0) true) in
      (keeps o acc t high s g i).service.answered (s.graph.seq own.0) used (omega arith) ∙ ap (λ (d : Bool). cond d (serial_answer o (s.graph.seq own.0)) 0) w

pub reads_in_one_turn : ReadsInOneTurn
unfolding in_one_step command_of
reads_in_one_turn o acc ts w t low high own c command =
    let s = steps o ts (opened o) in
    let i = steps_keep o acc ts w (opened o) (opened_ghost o) (opened_meets o acc) in
    let used = command_place o.commands (s.graph.seq own.0) c command in
    let is : c.kind ≡ Read → in_one_step (command_of o s.graph own.0) ≡ true = λ read. ap in_one_step command ∙ read_is c.kind read in
    record {
      one = λ read here. (writes_now o s t low own here (is read), answered_now o s t low own here acc high _ i used (is read));
      never = λ read found here. true_false _ (is read) (reached_two o acc ts w t own.0 (ap looked here));
      two = λ other here. let k = looks_first o s t low own here (ap in_one_step command ∙ other_is c.kind other) in ((found o s t low own here, k.0), k.1);
    }

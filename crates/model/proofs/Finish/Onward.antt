-- A step moves its own thread alone, and the foremost thread stays the foremost as long as it stands. Assumes nothing.
use Rattle.std.specs.Prelude.{ℕ, ◌≤◌, ◌≡◌, Bool, cond, ◌&&◌, ◌||◌, length, leb}
use Rattle.std.proofs.Common.{arith, sym, ap, ◌∙◌}
use Rattle.std.proofs.Math.Path.{refl}
use Rattle.std.proofs.Math.Bool.{true, false}
use Rattle.std.proofs.Math.Option.{some}
use Rattle.std.proofs.Math.Logic.{⊎_elim}
use Rattle.std.proofs.Math.Dec.{eqb}
use Rattle.std.proofs.lemmas.Bool.{eqb-false}
use Rattle.model.specs.declared.Thread.{Thread}
use Rattle.model.specs.declared.Thread.TheVariants.{Idle, Loading, Searching, Holding, LookedUp, Written, Walking, Clearing}
use Rattle.model.specs.Setup.{Setup, both_dependent}
use Rattle.model.specs.Upd.{upd}
use Rattle.model.specs.Graph.{Graph, set_next, set_executing, set_locked, set_waits}
use Rattle.model.specs.Service.{Service, found_for, in_one_step, write_for}
use Rattle.model.proofs.Searches.{searches}
use Rattle.model.specs.Step.{State, node, step, worker_step, loader_step, idle, enter, searching, leave, step_on, examine, ready, is_allowed, move_to, serve_to, walking, bypass, clearing, return, holding, looked_up, loader_idle, load, loader_walk, link, add_dependence, command_of}
use Rattle.model.specs.Dispatch.{rank, stands}
use Rattle.command.proofs.Tests.{true_false, eqb_cases, cond_cases, neither}
use Rattle.model.proofs.Upd.{upd_same, upd_other}
use Rattle.model.proofs.Chain.Invariant.{Ghost, Inv, at}
use Rattle.model.proofs.Finish.Foremost.{rank_at_lem, Foremost}

-- ---- the other threads

-- every thread but t is in the state that it was in
abbrev pub Others : State → ℕ → State → Type 0
Others s t s' = (u : ℕ) → (u ≡ t → ⊥) → s'.threads u ≡ s.threads u

module _ (o : Setup) (s : State) (t : ℕ) where
  stays : Others s t s
  stays u d = refl

  moves : (v : Thread) (u : ℕ) → (u ≡ t → ⊥) → upd s.threads t v u ≡ s.threads u
  moves v u d = upd_other s.threads t v u d

  waits_or : (b : Bool) (s' : State) → Others s t s' → Others s t (cond b s s')
  waits_or b s' h = cond_cases (Others s t) b (λ _. stays) (λ _. h)

  worker_others : (thread : Thread) → Others s t (worker_step o t thread s)
  unfolding worker_step idle enter searching leave examine holding looked_up walking bypass clearing move_to serve_to
  worker_others Idle = cond_cases (Others s t) (is_allowed t s) (λ _. waits_or (s.graph.locked 0) _ (moves _)) (λ _. stays)
  worker_others (Loading a x) = stays
  worker_others (Searching a) =
      let looks = searches o t a s in
      let y = s.graph.next a.0 in
      cond_cases (Others s t) (eqb y 0) (λ _. moves _)
      (λ _. waits_or (s.graph.locked y) _ (cond_cases (Others s t) (is_allowed t s && ready s.graph y) (λ _. moves _) (λ _. moves _)))
  worker_others (Holding x) = cond_cases (Others s t) (in_one_step (command_of o s.graph x.0)) (λ _. moves _) (λ _. moves _)
  worker_others (LookedUp x f) = moves _
  worker_others (Written x) = waits_or (s.graph.locked 0) _ (moves _)
  worker_others (Walking a x) =
      let y = s.graph.next a.0 in
      waits_or (eqb y 0 || s.graph.locked y) _ (cond_cases (Others s t) (eqb y x.0) (λ _. moves _) (λ _. moves _))
  worker_others (Clearing a x) =
      let y = s.graph.next a.0 in
      cond_cases (Others s t) (eqb y 0) (λ _. moves _) (λ _. waits_or (s.graph.locked y) _ (moves _))

module _ (o : Setup) (s : State) where
  loader_others : (thread : Thread) → Others s 0 (loader_step o thread s)
  unfolding loader_step loader_idle load loader_walk link move_to
  loader_others Idle = waits_or o s 0 (leb (length o.commands) s.graph.loaded || eqb s.graph.free 0 || s.graph.locked 0) _ (moves o s 0 _)
  loader_others (Loading a x) =
      let y = s.graph.next a.0 in
      cond_cases (Others s 0) (eqb y 0) (λ _. moves o s 0 _) (λ _. waits_or o s 0 (s.graph.locked y) _ (moves o s 0 _))
  loader_others (Searching a) = stays o s 0
  loader_others (Holding x) = stays o s 0
  loader_others (LookedUp x f) = stays o s 0
  loader_others (Written x) = stays o s 0
  loader_others (Walking a x) = stays o s 0
  loader_others (Clearing a x) = stays o s 0

  pub step_others : (t : ℕ) → Others s t (step o t s)
  unfolding step
  step_others t = ⊎_elim (λ e. rw e.0 (loader_others (s.threads 0))) (λ e. rw e.1 (worker_others o s t (s.threads t))) (eqb_cases t 0)

-- ---- the foremost thread

-- where thread t stands after its step, no command has another node, and the thread stands no less far along
record Onward (s : State) (t : ℕ) (s' : State) : Type 0 where
  onward : stands (s'.threads t) ≡ true → (s'.graph.seq ≡ s.graph.seq) × (rank s.graph.seq (s.threads t) ≤ rank s.graph.seq (s'.threads t))

module _ (o : Setup) (s : State) (g : Ghost) (i : Inv o s g) (t : ℕ) where
  waits : Onward s t s
  waits = record { onward = λ h. (refl, omega arith) }

  -- it stands no more
  leaves : (v : Thread) (h : Graph) → stands v ≡ false → Onward s t (move_to t v h s)
  unfolding move_to
  leaves v h e = record { onward = λ k. absurd (true_false _ (ap stands (sym (upd_same s.threads t v)) ∙ k) e) }

  serves : (v : Thread) (w : Service) → stands v ≡ false → Onward s t (serve_to t v w s)
  unfolding serve_to
  serves v w e = record { onward = λ k. absurd (true_false _ (ap stands (sym (upd_same s.threads t v)) ∙ k) e) }

  -- it stands as far, or further
  lands : (v : Thread) (h : Graph) → h.seq ≡ s.graph.seq → rank s.graph.seq (s.threads t) ≤ rank s.graph.seq v → Onward s t (move_to t v h s)
  unfolding move_to
  lands v h same le = record { onward = λ k. (same, rw (upd_same s.threads t v) le) }

  -- on the next node
  steps_on : (v : Thread) (h : Graph) (a : ℕ) → h.seq ≡ s.graph.seq → at (s.threads t) ≡ some a → at v ≡ some (s.graph.next a) → (s.graph.next a ≡ 0 → ⊥) → Onward s t (move_to t v h s)
  steps_on v h a same here there more =
      let p = rank_at_lem s.graph.seq (s.threads t) a here in
      let q = rank_at_lem s.graph.seq v (s.graph.next a) there in
      let l = i.order.next_later a (i.standing.on t a here) more in
      lands v h same (omega arith)

  worker_onward : (thread : Thread) → s.threads t ≡ thread → 1 ≤ rank s.graph.seq thread → Onward s t (worker_step o t thread s)
  unfolding worker_step enter searching leave examine holding looked_up walking bypass clearing rank stands
  worker_onward Idle here r = absurd (omega arith)
  worker_onward (Loading a x) here r = waits
  worker_onward (Searching a) here r =
      let looks = searches o t a s in
      let y = s.graph.next a.0 in
      cond_cases (Onward s t) (eqb y 0) (λ _. leaves Idle (set_locked a.0 false s.graph) refl)
      (λ n. cond_cases (Onward s t) (s.graph.locked y) (λ _. waits) (λ _. cond_cases (Onward s t) (is_allowed t s && ready s.graph y)
      (λ _. leaves (Holding (node y)) (set_locked y false (set_executing y true (step_on a.0 y s.graph))) refl)
      (λ _. steps_on (Searching (node y)) (step_on a.0 y s.graph) a.0 refl (ap at here) refl (eqb-false y 0 n))))
  worker_onward (Holding x) here r =
      cond_cases (Onward s t) (in_one_step (command_of o s.graph x.0))
      (λ _. serves (Written (node x.0)) (write_for o (command_of o s.graph x.0) (s.graph.seq x.0) (found_for (command_of o s.graph x.0) s.service.store) s.service) refl)
      (λ _. serves (LookedUp (node x.0) (found_for (command_of o s.graph x.0) s.service.store)) s.service refl)
  worker_onward (LookedUp x f) here r = serves (Written (node x.0)) (write_for o (command_of o s.graph x.0) (s.graph.seq x.0) f s.service) refl
  worker_onward (Written x) here r =
      cond_cases (Onward s t) (s.graph.locked 0) (λ _. waits) (λ _. lands (Walking (node 0) x) (set_locked 0 true s.graph) refl (rw here (omega arith)))
  worker_onward (Walking a x) here r =
      let y = s.graph.next a.0 in
      cond_cases (Onward s t) (eqb y 0 || s.graph.locked y) (λ _. waits) (λ n. cond_cases (Onward s t) (eqb y x.0)
      (λ _. lands (Clearing (node a.0) (node x.0)) (set_next a.0 (s.graph.next x.0) s.graph) refl (rw here (omega arith)))
      (λ _. steps_on (Walking (node y) (node x.0)) (step_on a.0 y s.graph) a.0 refl (ap at here) refl (eqb-false y 0 (neither (eqb y 0) (s.graph.locked y) n).0)))
  worker_onward (Clearing a x) here r =
      let y = s.graph.next a.0 in
      cond_cases (Onward s t) (eqb y 0) (λ _. leaves Idle (return x.0 (set_locked a.0 false s.graph)) refl)
      (λ n. cond_cases (Onward s t) (s.graph.locked y) (λ _. waits)
      (λ _. steps_on (Clearing (node y) (node x.0)) (set_waits y (upd (s.graph.waits y) x.0 false) (step_on a.0 y s.graph)) a.0 refl (ap at here) refl (eqb-false y 0 n)))

module _ (o : Setup) (s : State) (g : Ghost) (i : Inv o s g) where
  -- a node added to a set moves no command
  depends_seq : (x y : ℕ) (h : Graph) → (add_dependence o x y h).seq ≡ h.seq
  unfolding add_dependence
  depends_seq x y h = cond_cases (λ (k : Graph). k.seq ≡ h.seq) (both_dependent (command_of o h y) (command_of o h x)) (λ _. refl) (λ _. refl)

  loader_onward : (thread : Thread) → s.threads 0 ≡ thread → 1 ≤ rank s.graph.seq thread → Onward s 0 (loader_step o thread s)
  unfolding loader_step loader_walk link rank stands
  loader_onward Idle here r = absurd (omega arith)
  loader_onward (Loading a x) here r =
      let y = s.graph.next a.0 in
      cond_cases (Onward s 0) (eqb y 0) (λ _. leaves o s g i 0 Idle (set_locked a.0 false (set_executing x.0 false (set_next a.0 x.0 s.graph))) refl)
      (λ n. cond_cases (Onward s 0) (s.graph.locked y) (λ _. waits o s g i 0)
      (λ _. steps_on o s g i 0 (Loading (node y) (node x.0)) (add_dependence o x.0 y (step_on a.0 y s.graph)) a.0 (depends_seq x.0 y (step_on a.0 y s.graph)) (ap at here) refl (eqb-false y 0 n)))
  loader_onward (Searching a) here r = waits o s g i 0
  loader_onward (Holding x) here r = waits o s g i 0
  loader_onward (LookedUp x f) here r = waits o s g i 0
  loader_onward (Written x) here r = waits o s g i 0
  loader_onward (Walking a x) here r = waits o s g i 0
  loader_onward (Clearing a x) here r = waits o s g i 0

  step_onward : (t : ℕ) → 1 ≤ rank s.graph.seq (s.threads t) → Onward s t (step o t s)
  unfolding step
  step_onward t r =
      ⊎_elim (λ e. rw e.0 (loader_onward (s.threads 0) refl (rw e.0 at r))) (λ e. rw e.1 (worker_onward o s g i t (s.threads t) refl r)) (eqb_cases t 0)

  -- so the foremost thread that stands after its step is the foremost again
  pub foremost_kept : (t : ℕ) → Foremost o s t → 1 ≤ rank s.graph.seq (s.threads t) → stands ((step o t s).threads t) ≡ true → Foremost o (step o t s) t
  foremost_kept t foremost r standing u h =
      let k = (step_onward t r).onward standing in
      ⊎_elim (λ e. rw e.0 (omega arith))
      (λ e. let f = foremost u h in let l = k.1 in rw (k.0, step_others o s t u e.0) (omega arith)) (eqb_cases u t)

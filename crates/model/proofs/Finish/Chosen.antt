-- A step of the foremost thread is never blocked and lowers the measure. Assumes nothing.
use Prim.Native.Nat.{ℕ, suc, ◌+◌, ◌-◌, ◌≤◌, ◌<◌}
use native.Mathlib.Omega.{arith}
use Rattle.std.specs.Prelude.{◌≡◌, Bool, cond, not, ◌&&◌, length, leb}
use Rattle.std.proofs.Math.Path.{refl, sym, ap}
use Rattle.std.proofs.Common.{◌∙◌, le-ltb, ne_eqb, leb-true, leb-false}
use Rattle.std.proofs.Math.Bool.{true, false, and-false, and-eq-true_iff}
use Rattle.std.proofs.Math.Option.{Option, none, some}
use Rattle.std.proofs.Math.Logic.{⊎_elim}
use Rattle.std.proofs.lemmas.Bool.{not-true}
use Rattle.command.specs.declared.Command.{Command}
use Rattle.node_set.specs.declared.Node.{Node}
use Rattle.node_set.specs.Members.{none_below}
use Rattle.model.specs.declared.Thread.{Thread}
use Rattle.model.specs.declared.Thread.TheVariants.{Idle, Loading, Searching, Holding, LookedUp, Written, Walking, Clearing}
use Rattle.model.specs.Upd.{upd}
use Rattle.model.specs.Setup.{Setup, both_dependent}
use Rattle.model.specs.Graph.{set_locked, set_executing, set_waits, set_next, set_free, set_seq}
use Rattle.model.specs.Service.{found_for, in_one_step, write_for}
use Rattle.model.proofs.Searches.{searches}
use Rattle.model.specs.Step.{State, node, step, worker_step, loader_step, searching, leave, step_on, examine, ready, move_to, serve_to, walking, bypass, clearing, return, enter, holding, looked_up, loader_walk, link, add_dependence, command_of, is_allowed}
use Rattle.model.specs.Dispatch.{rank}
use Rattle.command.proofs.Tests.{fails, true_false, none_some, eqb_cases}
use Rattle.model.proofs.Upd.{upd_same, upd_other, upd_id}
use Rattle.model.proofs.Chain.Invariant.{Ghost, Inv, at, loads, executes, walks, clears, is_loader, is_worker}
use Rattle.model.proofs.Chain.Ghost.{ghost_step, worker_ghost, loader_ghost, writing, returning, linking}
use Rattle.model.proofs.Finish.Foremost.{rank_at_lem, Foremost}
use Rattle.model.proofs.Finish.Present.{present, is_loaded, linked_present, linking_same, loading_present, present_cases, unlinked_gone, unlinked_present}
use Rattle.model.proofs.Finish.Measure.{Φ, measure, ahead, cost, ahead_less, ahead_size, lowered, taken_lowered}

-- what the measure reads after a move of thread t to v that leaves sequence numbers and taken nodes as they were
Moved : Setup → State → ℕ → Thread → (ℕ → Bool) → ℕ
Moved o s t v linked = measure o.size o.largest s.graph.seq (present (upd s.threads t v 0) linked) s.graph.executing (upd s.threads t v) (length o.commands - s.graph.loaded)

-- how many nodes are ahead of a node
far : Setup → State → Ghost → ℕ → ℕ
far o s g = ahead o.size s.graph.seq (present (s.threads 0) g.linked)

module _ (o : Setup) (s : State) (g : Ghost) (i : Inv o s g) where
  -- a thread that stands somewhere is one up to the largest worker count
  stands_within : (u b : ℕ) → at (s.threads u) ≡ some b → u ≤ o.largest
  stands_within u b e = go (leb u o.largest) refl
    where
      go : (c : Bool) → leb u o.largest ≡ c → u ≤ o.largest
      go true h = leb-true u o.largest h
      go false h = absurd (none_some (at (s.threads u)) (ap at (i.roles.rest u (leb-false u o.largest h))) e)

  -- worker t takes a waiting node of the chain
  pub takes_lowered : (t y : ℕ) (threads : ℕ → Thread) → 1 ≤ t → t ≤ o.largest → g.linked y ≡ true → s.graph.executing y ≡ false → threads t ≡ Holding (node y) →
      ((u : ℕ) → (u ≡ t → ⊥) → threads u ≡ s.threads u) →
      measure o.size o.largest s.graph.seq (present (threads 0) g.linked) (upd s.graph.executing y true) threads (length o.commands - s.graph.loaded) + 2 ≤ Φ o s g
  unfolding Φ cost
  takes_lowered t y threads low within on wait mine others =
      let here = present (s.threads 0) g.linked in
      rw (others 0 (λ e. absurd (omega arith))) (taken_lowered o.size o.largest s.graph.seq s.graph.seq here here s.graph.executing (upd s.graph.executing y true) s.threads threads t within
      others (λ u b d q z h m. (h, m)) (length o.commands - s.graph.loaded) y (λ z d h m. (h, sym (upd_other s.graph.executing y true z d) ∙ m))
      (i.order.used_size y (i.order.linked_used y on)) (linked_present (s.threads 0) g.linked y on) wait (upd_same s.graph.executing y true) (rw mine (omega arith)))

  module _ (t : ℕ) (within : t ≤ o.largest) (foremost : Foremost o s t) where
    -- no locked node is further along: whoever stands there would be
    locked_behind : (x : ℕ) → s.graph.locked x ≡ true → suc (suc (s.graph.seq x)) ≤ rank s.graph.seq (s.threads t)
    locked_behind x h =
        let w = i.standing.held x h in
        let r = foremost w.0 (stands_within w.0 x w.1) in
        let p = rank_at_lem s.graph.seq (s.threads w.0) x w.1 in
        omega arith

    -- so the next node of the foremost thread is not locked
    next_open : (a : ℕ) → at (s.threads t) ≡ some a → (s.graph.next a ≡ 0 → ⊥) → s.graph.locked (s.graph.next a) ≡ false
    next_open a e more =
        fails (s.graph.locked (s.graph.next a))
        (λ h.
        let b = locked_behind (s.graph.next a) h in
        let q = rank_at_lem s.graph.seq (s.threads t) a e in
        let l = i.order.next_later a (i.standing.on t a e) more in
        absurd (omega arith))

    -- and where the foremost thread stands nowhere, no node is locked
    all_open : rank s.graph.seq (s.threads t) ≤ 1 → (x : ℕ) → s.graph.locked x ≡ false
    all_open nowhere x = fails (s.graph.locked x) (λ h. let b = locked_behind x h in absurd (omega arith))

    -- thread t comes nearer to idle, and no node comes or goes
    thread_lowered : (v : Thread) (linked : ℕ → Bool) → present (upd s.threads t v 0) linked ≡ present (s.threads 0) g.linked →
        cost o.size (far o s g) v + 1 ≤ cost o.size (far o s g) (s.threads t) → Moved o s t v linked + 1 ≤ Φ o s g
    unfolding Φ Moved far
    thread_lowered v linked same mine =
        rw same (lowered o.size o.largest s.graph.seq s.graph.seq (present (s.threads 0) g.linked) (present (s.threads 0) g.linked) s.graph.executing s.graph.executing s.threads (upd s.threads t v) t within
        (λ u d. upd_other s.threads t v u d) (λ u b d q z h m. (h, m)) (length o.commands - s.graph.loaded) (λ z h m. (h, m)) (rw (upd_same s.threads t v) mine))

    -- fewer nodes are ahead of the next node
    far_next : (a : ℕ) → at (s.threads t) ≡ some a → (s.graph.next a ≡ 0 → ⊥) → far o s g (s.graph.next a) + 1 ≤ far o s g a
    unfolding far
    far_next a e more =
        let y = s.graph.next a in
        let on = i.order.next_linked a (i.standing.on t a e) more in
        let l = i.order.next_later a (i.standing.on t a e) more in
        ahead_less o.size s.graph.seq s.graph.seq (present (s.threads 0) g.linked) (present (s.threads 0) g.linked) a y (λ z h m. (h, omega arith)) y
        (i.order.used_size y (i.order.linked_used y on)) (linked_present (s.threads 0) g.linked y on) l (rw (le-ltb (s.graph.seq y) (s.graph.seq y) (omega arith), and-false (present (s.threads 0) g.linked y)))

    -- the loader, and what it loads, stay as they are when a worker moves
    worker_same : 1 ≤ t → (v : Thread) → present (upd s.threads t v 0) g.linked ≡ present (s.threads 0) g.linked
    worker_same low v = rw (upd_other s.threads t v 0 (λ e. absurd (omega arith)))

    -- the foremost searcher leaves, takes the next node, or steps on
    module _ (low : 1 ≤ t) (a : Node) (here : s.threads t ≡ Searching a) where
      search_leaves : Φ o (leave t a.0 s) g + 1 ≤ Φ o s g
      unfolding Φ Moved leave cost
      search_leaves = thread_lowered Idle g.linked (worker_same low Idle) (rw here (omega arith))

      search_on : (s.graph.next a.0 ≡ 0 → ⊥) → Φ o (move_to t (Searching (node (s.graph.next a.0))) (step_on a.0 (s.graph.next a.0) s.graph) s) g + 1 ≤ Φ o s g
      unfolding Φ Moved move_to step_on cost
      search_on more =
          let l = far_next a.0 (ap at here) more in
          thread_lowered (Searching (node (s.graph.next a.0))) g.linked (worker_same low (Searching (node (s.graph.next a.0)))) (rw here (omega arith))

      search_takes : (s.graph.next a.0 ≡ 0 → ⊥) → s.graph.executing (s.graph.next a.0) ≡ false →
          Φ o (move_to t (Holding (node (s.graph.next a.0))) (set_locked (s.graph.next a.0) false (set_executing (s.graph.next a.0) true (step_on a.0 (s.graph.next a.0) s.graph))) s) g + 1 ≤ Φ o s g
      unfolding Φ move_to set_locked set_executing step_on
      search_takes more wait =
          let v = Holding (node (s.graph.next a.0)) in
          let l = takes_lowered t (s.graph.next a.0) (upd s.threads t v) low within (i.order.next_linked a.0 (i.standing.on t a.0 (ap at here)) more) wait (upd_same s.threads t v) (λ u d. upd_other s.threads t v u d) in
          omega arith

      searching_lowered : Φ o (worker_step o t (Searching a) s) (worker_ghost o (Searching a) s g) + 1 ≤ Φ o s g
      unfolding worker_step worker_ghost searching examine
      searching_lowered = let looks = searches o t a s in ⊎_elim (λ e. rw e.1 search_leaves) (λ e. rw (e.1, next_open a.0 (ap at here) e.0) (go e.0 (is_allowed t s && ready s.graph (s.graph.next a.0)) refl)) (eqb_cases (s.graph.next a.0) 0)
        where
          go : (s.graph.next a.0 ≡ 0 → ⊥) → (b : Bool) → is_allowed t s && ready s.graph (s.graph.next a.0) ≡ b → Φ o (examine t a.0 (s.graph.next a.0) s) g + 1 ≤ Φ o s g
          go more true e = rw e (search_takes more (not-true (s.graph.executing (s.graph.next a.0)) ((and-eq-true_iff (not (s.graph.executing (s.graph.next a.0))) (none_below 192 (s.graph.waits (s.graph.next a.0)))).0 ((and-eq-true_iff (is_allowed t s) _).0 e).1).0))
          go more false e = rw e (search_on more)

    -- the foremost worker that holds a node looks up, writes, and enters at the head, where nobody stands
    module _ (low : 1 ≤ t) (x : Node) where
      -- a write changes nothing that the measure reads
      writes_moved : (c : Option Command) (found : ℕ) → Φ o (serve_to t (Written (node x.0)) (write_for o c (s.graph.seq x.0) found s.service) s) (writing (s.graph.seq x.0) g) ≡ Moved o s t (Written (node x.0)) g.linked
      unfolding Φ Moved serve_to write_for
      writes_moved none found = refl
      writes_moved (some c) found = refl

      -- so it lowers the measure of every state in which more is to come than after it
      writing_lowered : (found : ℕ) → cost o.size (far o s g) (Written (node x.0)) + 1 ≤ cost o.size (far o s g) (s.threads t) →
          Φ o (looked_up o t x.0 found s) (writing (s.graph.seq x.0) g) + 1 ≤ Φ o s g
      unfolding looked_up
      writing_lowered found mine =
          rw (writes_moved (command_of o s.graph x.0) found) (thread_lowered (Written (node x.0)) g.linked (worker_same low (Written (node x.0))) mine)

      holding_lowered : s.threads t ≡ Holding x → Φ o (worker_step o t (Holding x) s) (worker_ghost o (Holding x) s g) + 1 ≤ Φ o s g
      unfolding Φ Moved worker_step worker_ghost holding serve_to cost
      holding_lowered here = go (in_one_step (command_of o s.graph x.0))
        where
          found : ℕ
          found = found_for (command_of o s.graph x.0) s.service.store

          v : Thread
          v = LookedUp (node x.0) found

          go : (b : Bool) → Φ o (cond b (looked_up o t x.0 found s) (serve_to t v s.service s)) (cond b (writing (s.graph.seq x.0) g) g) + 1 ≤ Φ o s g
          go true = writing_lowered found (rw here (omega arith))
          go false = thread_lowered v g.linked (worker_same low v) (rw here (omega arith))

      looked_up_lowered : (found : ℕ) → s.threads t ≡ LookedUp x found → Φ o (worker_step o t (LookedUp x found) s) (worker_ghost o (LookedUp x found) s g) + 1 ≤ Φ o s g
      unfolding worker_step worker_ghost cost
      looked_up_lowered found here = writing_lowered found (rw here (omega arith))

      written_lowered : s.threads t ≡ Written x → Φ o (worker_step o t (Written x) s) (worker_ghost o (Written x) s g) + 1 ≤ Φ o s g
      unfolding Φ Moved worker_step worker_ghost enter move_to set_locked cost far rank
      written_lowered here =
          let l = ahead_size o.size s.graph.seq (present (s.threads 0) g.linked) 0 i.order.head_seq in
          rw (all_open (rw here (omega arith)) 0) (thread_lowered (Walking (node 0) x) g.linked (worker_same low (Walking (node 0) x)) (rw here (omega arith)))

    -- the foremost worker on the way to its own node bypasses it or steps on; the end of the chain is not before that node
    module _ (low : 1 ≤ t) (a x : Node) (here : s.threads t ≡ Walking a x) where
      -- the own node is in the chain, later than where the worker stands, so the chain goes on
      own_on : g.linked x.0 ≡ true
      own_on = i.executing.own_linked t x.0 (ap executes here)

      own_later : s.graph.seq a.0 < s.graph.seq x.0
      own_later = i.walking.before t x.0 a.0 (ap walks here) (ap at here)

      walk_more : s.graph.next a.0 ≡ 0 → ⊥
      walk_more e =
          let l = i.order.last a.0 (i.standing.on t a.0 (ap at here)) e x.0 own_on in
          let k = own_later in
          absurd (omega arith)

      -- the bypassed node was ahead, and is no more
      bypassed : ahead o.size s.graph.seq (present (s.threads 0) (upd g.linked x.0 false)) a.0 + 1 ≤ far o s g a.0
      unfolding far
      bypassed =
          ahead_less o.size s.graph.seq s.graph.seq (present (s.threads 0) g.linked) (present (s.threads 0) (upd g.linked x.0 false)) a.0 a.0
          (λ z h m. (unlinked_present (s.threads 0) g.linked x.0 z h, m)) x.0 (i.order.used_size x.0 (i.order.linked_used x.0 own_on))
          (linked_present (s.threads 0) g.linked x.0 own_on) own_later (rw (unlinked_gone (s.threads 0) g.linked x.0 (λ e. true_false (g.linked x.0) own_on (i.loading.out 0 x.0 e))))

      walk_bypass : Φ o (bypass t a.0 x.0 s) (linking x.0 false g) + 1 ≤ Φ o s g
      unfolding Φ bypass move_to set_next cost far
      walk_bypass =
          let v = Clearing (node a.0) (node x.0) in
          let l = bypassed in
          rw (upd_other s.threads t v 0 (λ e. absurd (omega arith)))
          (lowered o.size o.largest s.graph.seq s.graph.seq (present (s.threads 0) g.linked) (present (s.threads 0) (upd g.linked x.0 false)) s.graph.executing s.graph.executing s.threads (upd s.threads t v) t within
          (λ u d. upd_other s.threads t v u d) (λ u b d q z h m. (unlinked_present (s.threads 0) g.linked x.0 z h, m)) (length o.commands - s.graph.loaded) (λ z h m. (unlinked_present (s.threads 0) g.linked x.0 z h, m))
          (rw (upd_same s.threads t v, here) (omega arith)))

      walk_on : Φ o (move_to t (Walking (node (s.graph.next a.0)) (node x.0)) (step_on a.0 (s.graph.next a.0) s.graph) s) g + 1 ≤ Φ o s g
      unfolding Φ Moved move_to step_on cost
      walk_on =
          let v = Walking (node (s.graph.next a.0)) (node x.0) in
          let l = far_next a.0 (ap at here) walk_more in
          thread_lowered v g.linked (worker_same low v) (rw here (omega arith))

      walking_lowered : Φ o (worker_step o t (Walking a x) s) (worker_ghost o (Walking a x) s g) + 1 ≤ Φ o s g
      unfolding worker_step worker_ghost walking
      walking_lowered =
          rw (ne_eqb (s.graph.next a.0) 0 walk_more, next_open a.0 (ap at here) walk_more)
          (⊎_elim (λ e. rw e.1 walk_bypass) (λ e. rw e.1 walk_on) (eqb_cases (s.graph.next a.0) x.0))

    -- the foremost clearing worker returns its node at the end of the chain, or steps on
    module _ (low : 1 ≤ t) (a x : Node) (here : s.threads t ≡ Clearing a x) where
      -- the node is not in the chain, and is not being loaded
      own_absent : (z : ℕ) → present (s.threads 0) g.linked z ≡ true → z ≡ x.0 → ⊥
      own_absent z h e =
          ⊎_elim (λ k. true_false (g.linked x.0) (ap g.linked (sym e) ∙ k) (i.clearing.out t x.0 (ap clears here)))
          (λ k. true_false (s.graph.executing x.0) (i.clearing.own_executing t x.0 (ap clears here)) (i.loading.waiting 0 x.0 (k ∙ ap some e)))
          (present_cases (s.threads 0) g.linked z h)

      -- and nobody stands on it
      own_free : (u b : ℕ) → at (s.threads u) ≡ some b → b ≡ x.0 → ⊥
      own_free u b h e =
          ⊎_elim (λ k. let z : s.graph.seq x.0 ≡ 0 = ap s.graph.seq (sym e ∙ k) ∙ i.order.head_seq in let w = i.clearing.used t x.0 (ap clears here) in absurd (omega arith))
          (λ k. own_absent b (linked_present (s.threads 0) g.linked b k) e) (i.standing.on u b h)

      clear_return : Φ o (move_to t Idle (return x.0 (set_locked a.0 false s.graph)) s) (returning x.0 (s.graph.seq x.0) g) + 1 ≤ Φ o s g
      unfolding Φ return set_free set_next set_seq set_executing set_locked set_waits move_to cost
      clear_return =
          rw (upd_other s.threads t Idle 0 (λ e. absurd (omega arith)))
          (lowered o.size o.largest s.graph.seq (upd s.graph.seq x.0 0) (present (s.threads 0) g.linked) (present (s.threads 0) g.linked) s.graph.executing (upd s.graph.executing x.0 false) s.threads (upd s.threads t Idle) t within
          (λ u d. upd_other s.threads t Idle u d)
          (λ u b d q z h m. (h, rw (upd_other s.graph.seq x.0 0 b (own_free u b q), upd_other s.graph.seq x.0 0 z (own_absent z h)) at m)) (length o.commands - s.graph.loaded)
          (λ z h m. (h, sym (upd_other s.graph.executing x.0 false z (own_absent z h)) ∙ m)) (rw (upd_same s.threads t Idle, here) (omega arith)))

      clear_on : (s.graph.next a.0 ≡ 0 → ⊥) →
          Φ o (move_to t (Clearing (node (s.graph.next a.0)) (node x.0)) (set_waits (s.graph.next a.0) (upd (s.graph.waits (s.graph.next a.0)) x.0 false) (step_on a.0 (s.graph.next a.0) s.graph)) s) g + 1 ≤ Φ o s g
      unfolding Φ Moved move_to set_waits step_on cost
      clear_on more =
          let v = Clearing (node (s.graph.next a.0)) (node x.0) in
          let l = far_next a.0 (ap at here) more in
          thread_lowered v g.linked (worker_same low v) (rw here (omega arith))

      clearing_lowered : Φ o (worker_step o t (Clearing a x) s) (worker_ghost o (Clearing a x) s g) + 1 ≤ Φ o s g
      unfolding worker_step worker_ghost clearing
      clearing_lowered = ⊎_elim (λ e. rw e.1 clear_return) (λ e. rw (e.1, next_open a.0 (ap at here) e.0) (clear_on e.0)) (eqb_cases (s.graph.next a.0) 0)

  -- the foremost loader links its node at the end of the chain, or steps on
  module _ (foremost : Foremost o s 0) (a x : Node) (here : s.threads 0 ≡ Loading a x) where
    -- the node being loaded comes later than where the loader stands
    own_ahead : s.graph.seq a.0 < s.graph.seq x.0
    own_ahead =
        let u = i.loading.used 0 x.0 (ap loads here) in
        let n = i.loading.newest 0 x.0 (ap loads here) in
        let b = i.order.below a.0 in
        ⊎_elim (λ e. let z : s.graph.seq a.0 ≡ 0 = ap s.graph.seq e ∙ i.order.head_seq in omega arith)
        (λ e. let d : s.graph.seq a.0 ≡ s.graph.seq x.0 → ⊥ = (λ q. true_false (g.linked x.0) (ap g.linked (sym (i.order.distinct a.0 x.0 (i.order.linked_used a.0 e) q)) ∙ e) (i.loading.out 0 x.0 (ap loads here))) in omega arith)
        (i.standing.on 0 a.0 (ap at here))

    -- so some node is ahead of the loader
    some_ahead : 1 ≤ far o s g a.0
    unfolding far
    some_ahead =
        let l = ahead_less o.size s.graph.seq s.graph.seq (present (s.threads 0) g.linked) (λ z. false) a.0 a.0 (λ z h m. absurd (true_false false h refl)) x.0
        (i.order.used_size x.0 (i.loading.used 0 x.0 (ap loads here))) (rw here (loading_present g.linked a x)) own_ahead refl in
        omega arith

    load_links : Φ o (link a.0 x.0 s) (linking x.0 true g) + 1 ≤ Φ o s g
    unfolding Φ Moved link move_to set_locked set_executing set_next cost
    load_links =
        let c = ap (cost o.size (far o s g)) here in
        let l = some_ahead in
        rw (upd_id s.graph.executing x.0 false (sym (i.loading.waiting 0 x.0 (ap loads here))))
        (thread_lowered 0 (omega arith) foremost Idle (upd g.linked x.0 true) (rw (upd_same s.threads 0 Idle, here) (linking_same g.linked a x)) (omega arith))

    -- a node added to a set changes nothing that the measure reads
    depends_moved : (b : Bool) (set : ℕ → Bool) (v : Thread) → Φ o (move_to 0 v (cond b (set_waits x.0 set (step_on a.0 (s.graph.next a.0) s.graph)) (step_on a.0 (s.graph.next a.0) s.graph)) s) g ≡ Moved o s 0 v g.linked
    unfolding Φ Moved move_to set_waits step_on
    depends_moved true set v = refl
    depends_moved false set v = refl

    load_on : (s.graph.next a.0 ≡ 0 → ⊥) → Φ o (move_to 0 (Loading (node (s.graph.next a.0)) (node x.0)) (add_dependence o x.0 (s.graph.next a.0) (step_on a.0 (s.graph.next a.0) s.graph)) s) g + 1 ≤ Φ o s g
    unfolding add_dependence cost present is_loaded
    load_on more =
        let v = Loading (node (s.graph.next a.0)) (node x.0) in
        let c = ap (cost o.size (far o s g)) here in
        let l = far_next 0 (omega arith) foremost a.0 (ap at here) more in
        let t = step_on a.0 (s.graph.next a.0) s.graph in
        rw (depends_moved (both_dependent (command_of o t (s.graph.next a.0)) (command_of o t x.0)) (upd (t.waits x.0) (s.graph.next a.0) true) v)
        (thread_lowered 0 (omega arith) foremost v g.linked (rw (upd_same s.threads 0 v, here)) (omega arith))

    loading_lowered : Φ o (loader_step o (Loading a x) s) (loader_ghost o (Loading a x) s g) + 1 ≤ Φ o s g
    unfolding loader_step loader_ghost loader_walk
    loading_lowered = ⊎_elim (λ e. rw e.1 load_links) (λ e. rw (e.1, next_open 0 (omega arith) foremost a.0 (ap at here) e.0) (load_on e.0)) (eqb_cases (s.graph.next a.0) 0)

  -- each case of the worker's list, and of the loader's
  module _ (t : ℕ) (within : t ≤ o.largest) (foremost : Foremost o s t) (low : 1 ≤ t) where
    worker_lowered : (thread : Thread) → s.threads t ≡ thread → 1 ≤ rank s.graph.seq thread → Φ o (worker_step o t thread s) (worker_ghost o thread s g) + 1 ≤ Φ o s g
    unfolding rank
    worker_lowered Idle here r = absurd (omega arith)
    worker_lowered (Loading a x) here r = absurd (true_false false (sym (ap is_worker here) ∙ i.roles.worker t low) refl)
    worker_lowered (Searching a) here r = searching_lowered t within foremost low a here
    worker_lowered (Holding x) here r = holding_lowered t within foremost low x here
    worker_lowered (LookedUp x f) here r = looked_up_lowered t within foremost low x f here
    worker_lowered (Written x) here r = written_lowered t within foremost low x here
    worker_lowered (Walking a x) here r = walking_lowered t within foremost low a x here
    worker_lowered (Clearing a x) here r = clearing_lowered t within foremost low a x here

  loader_lowered : Foremost o s 0 → (thread : Thread) → s.threads 0 ≡ thread → 1 ≤ rank s.graph.seq thread →
      Φ o (loader_step o thread s) (loader_ghost o thread s g) + 1 ≤ Φ o s g
  unfolding rank
  loader_lowered foremost Idle here r = absurd (omega arith)
  loader_lowered foremost (Loading a x) here r = loading_lowered foremost a x here
  loader_lowered foremost (Searching a) here r = absurd (true_false false (sym (ap is_loader here) ∙ i.roles.loader) refl)
  loader_lowered foremost (Holding x) here r = absurd (true_false false (sym (ap is_loader here) ∙ i.roles.loader) refl)
  loader_lowered foremost (LookedUp x f) here r = absurd (true_false false (sym (ap is_loader here) ∙ i.roles.loader) refl)
  loader_lowered foremost (Written x) here r = absurd (true_false false (sym (ap is_loader here) ∙ i.roles.loader) refl)
  loader_lowered foremost (Walking a x) here r = absurd (true_false false (sym (ap is_loader here) ∙ i.roles.loader) refl)
  loader_lowered foremost (Clearing a x) here r = absurd (true_false false (sym (ap is_loader here) ∙ i.roles.loader) refl)

  -- a step of the foremost thread lowers the measure, unless that thread is idle
  pub foremost_lowered : (t : ℕ) → t ≤ o.largest → Foremost o s t →
      1 ≤ rank s.graph.seq (s.threads t) → Φ o (step o t s) (ghost_step o t s g) + 1 ≤ Φ o s g
  unfolding step ghost_step
  foremost_lowered t within foremost r =
      ⊎_elim (λ e. rw e.0 (loader_lowered (rw e.0 at foremost) (s.threads 0) refl (rw e.0 at r)))
      (λ e. let d = e.0 in rw e.1 (worker_lowered t within foremost (omega arith) (s.threads t) refl r)) (eqb_cases t 0)

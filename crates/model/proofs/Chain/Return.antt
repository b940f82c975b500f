-- A clearing worker at the end of the chain returns its own node to the free list: no node of the chain lies behind the worker, so the node
-- is in no set, and its number can serve again. Assumes nothing.
use Rattle.std.specs.Prelude.{ℕ, suc, ◌≤◌, ◌<◌, ◌≡◌, Bool, true, ◌∷◌, ◌⊎◌, length}
use Rattle.std.proofs.Common.{arith, ap, subst, ◌∙◌, inl, inr, ⊎_elim}
use Rattle.std.proofs.Math.Path.{refl, sym, fun_ext}
use Rattle.std.proofs.Math.Bool.{false}
use Rattle.std.proofs.Math.Option.{Option, none, some}
use Rattle.node_set.specs.declared.Node.{Node}
use Rattle.model.specs.declared.Thread.TheVariants.{Idle, Clearing}
use Rattle.model.specs.Upd.{upd}
use Rattle.model.specs.Setup.{Setup}
use Rattle.model.specs.Graph.{no_node, set_locked, set_waits, set_executing, set_seq, set_next, set_free}
use Rattle.model.specs.Step.{State, return, move_to}
use Rattle.command.proofs.Tests.{fails, true_false, none_some, eqb_cases}
use Rattle.model.proofs.Upd.{upd_same, upd_other, upd_at, upd_cases, upd_map, upd_id}
use Rattle.model.proofs.Consistent.{Consistent, lookups_consistent}
use Rattle.model.proofs.Chain.Invariant.{Ghost, Inv, On, In, Order, FreeList, Executing, Walks, Clears, Loads, Partition, Pending, Waited, Sets, Progress, at, loads, executes, walks, clears, done, looked, found}
use Rattle.model.proofs.Chain.Ghost.{returning}
use Rattle.model.proofs.Chain.Kept.{kept, stays}
use Rattle.model.proofs.Chain.Stand.{left}
use Rattle.model.proofs.Chain.Moves.{worker_role, walks_moved}
use Rattle.model.proofs.Chain.Facts.{done_own, looked_own, walks_own, on_other, on_linked, last_kept, next_linked_kept, next_later_kept, next_first_kept, chain_kept}

module _ (o : Setup) (s : State) (g : Ghost) (i : Inv o s g) (t : ℕ) (low : 1 ≤ t) (high : t ≤ o.largest) (a x : Node)
    (here : s.threads t ≡ Clearing a x) (end : s.graph.next a.0 ≡ 0) where
  abbrev n : ℕ
  n = x.0

  abbrev l : ℕ
  l = a.0

  abbrev seq' : ℕ → ℕ
  seq' = upd s.graph.seq n 0

  abbrev executing' : ℕ → Bool
  executing' = upd s.graph.executing n false

  abbrev at₀ : ℕ → Option ℕ
  at₀ u = at (s.threads u)

  abbrev at' : ℕ → Option ℕ
  at' = upd at₀ t none

  abbrev clears₀ : ℕ → Option ℕ
  clears₀ u = clears (s.threads u)

  abbrev clears' : ℕ → Option ℕ
  clears' = upd clears₀ t none

  abbrev loads₀ : ℕ → Option ℕ
  loads₀ u = loads (s.threads u)

  on_l : On g.linked l
  on_l = i.standing.on t l (ap at here)

  n_out : g.linked n ≡ false
  n_out = i.clearing.out t n (ap clears here)

  n_used : 1 ≤ s.graph.seq n
  n_used = i.clearing.used t n (ap clears here)

  n_executing : s.graph.executing n ≡ true
  n_executing = i.clearing.own_executing t n (ap clears here)

  n_nonzero : n ≡ 0 → ⊥
  n_nonzero e = let h = ap s.graph.seq e in let k = i.order.head_seq in let u = n_used in omega arith

  -- ---- which nodes differ from n

  on_differs : (z : ℕ) → On g.linked z → z ≡ n → ⊥
  on_differs z on = on_other g.linked n z n_nonzero n_out on

  executes_differs : (u z : ℕ) → executes (s.threads u) ≡ some z → z ≡ n → ⊥
  executes_differs u z e = on_differs z (inr (i.executing.own_linked u z e))

  loads_differs : (u z : ℕ) → loads₀ u ≡ some z → z ≡ n → ⊥
  loads_differs u z e q = true_false (s.graph.executing n) n_executing (ap s.graph.executing (sym q) ∙ i.loading.waiting u z e)

  -- who clears still is another thread than t, with another node than n
  clearer : (u z : ℕ) → clears' u ≡ some z → (clears₀ u ≡ some z) × (z ≡ n → ⊥) × (u ≡ t → ⊥)
  clearer u z e = ⊎_elim (λ h. absurd (none_some (clears' u) h.1 e)) (λ h. let c = sym h.1 ∙ e in (c, (λ q. h.0 (i.clearing.alone u t z c (ap clears here ∙ ap some (sym q)))), h.0)) (upd_cases clears₀ t none u)

  still_clears : (u z : ℕ) → (z ≡ n → ⊥) → clears₀ u ≡ some z → clears' u ≡ some z
  still_clears u z other c = upd_other clears₀ t none u (λ q. other (let j : clears₀ t ≡ some z = ap clears₀ (sym q) ∙ c in let k = ap clears here in cc)) ∙ c

  used_differs : (z : ℕ) → 1 ≤ seq' z → z ≡ n → ⊥
  used_differs z u q = let e = upd_at s.graph.seq n 0 z q in omega arith

  same : (z : ℕ) → (z ≡ n → ⊥) → seq' z ≡ s.graph.seq z
  same z other = upd_other s.graph.seq n 0 z other

  same_on : (z : ℕ) → On g.linked z → seq' z ≡ s.graph.seq z
  same_on z on = same z (on_differs z on)

  same_executing : (z : ℕ) → (z ≡ n → ⊥) → executing' z ≡ s.graph.executing z
  same_executing z other = upd_other s.graph.executing n false z other

  executing_differs : (z : ℕ) → executing' z ≡ true → z ≡ n → ⊥
  executing_differs z e q = true_false (executing' z) e (upd_at s.graph.executing n false z q)

  returned_order : Order o.size s.graph.loaded (length o.commands) seq' g.linked (upd s.graph.next n s.graph.free)
  returned_order = record {
    head_seq = same_on 0 (inl refl) ∙ i.order.head_seq;
    head_out = i.order.head_out;
    linked_used = λ z h. rw (same_on z (inr h)) (i.order.linked_used z h);
    used_size = λ z u. i.order.used_size z (rw (same z (used_differs z u)) at u);
    distinct = λ z w u e. let p = same z (used_differs z u) in let q = same w (used_differs w (let d = e in omega arith)) in i.order.distinct z w (rw p at u) (sym p ∙ (e ∙ q));
    below = λ z. ⊎_elim (λ h. let e = h.1 in omega arith) (λ h. rw h.1 (i.order.below z)) (upd_cases s.graph.seq n 0 z);
    loaded_count = i.order.loaded_count;
    last = last_kept i.order n 0 s.graph.free n_nonzero n_out;
    next_linked = next_linked_kept i.order n 0 s.graph.free n_nonzero n_out;
    next_later = next_later_kept i.order n 0 s.graph.free n_nonzero n_out;
    next_first = next_first_kept i.order n 0 s.graph.free n_nonzero n_out;
  }

  returned_free : FreeList o.size seq' (upd s.graph.next n s.graph.free) n (n ∷ g.frees)
  returned_free = record {
    chain = (refl, rw (upd_same s.graph.next n s.graph.free) (chain_kept s.graph.next n s.graph.free s.graph.free g.frees not_free i.free_list.chain));
    no_repeat = (not_free, i.free_list.no_repeat);
    is_unused = λ z. ⊎_elim (λ q. let s₁ = i.order.used_size n n_used in let nz = n_nonzero in (rw q (omega (arith, nz)), rw q s₁, upd_at s.graph.seq n 0 z q)) (λ h. let w = i.free_list.is_unused z h in (w.0, w.1, same z (λ q. not_free (subst (λ (k : ℕ). In k g.frees) q h)) ∙ w.2));
    has_unused = λ z b c e. ⊎_elim (λ q. inl q.0) (λ q. inr (i.free_list.has_unused z b c (sym (same z q.0) ∙ e))) (eqb_cases z n);
  }
    where
      not_free : In n g.frees → ⊥
      not_free h = let e = (i.free_list.is_unused n h).2 in let u = n_used in omega arith

  returned_executing : Executing seq' g.linked executing' (λ u. executes (s.threads u))
  returned_executing = record {
    own_linked = i.executing.own_linked;
    own_executing = λ u z e. same_executing z (executes_differs u z e) ∙ i.executing.own_executing u z e;
    alone = i.executing.alone;
    held = λ z h e. i.executing.held z h (sym (same_executing z (on_differs z (inr h))) ∙ e);
    used = λ z e. let d = executing_differs z e in rw (same z d) (i.executing.used z (sym (same_executing z d) ∙ e));
  }

  returned_walking : Walks seq' (λ u. walks (s.threads u)) at₀
  returned_walking = record {
    before = λ u z b w e. rw (same z (executes_differs u z (walks_own (s.threads u) z w)), same_on b (i.standing.on u b e)) (i.walking.before u z b w e);
  }

  -- whoever still stands is another thread, where it stood
  standing : (u b : ℕ) → at' u ≡ some b → at₀ u ≡ some b
  standing u b e = ⊎_elim (λ h. absurd (none_some (at' u) h.1 e)) (λ h. sym h.1 ∙ e) (upd_cases at₀ t none u)

  returned_clearing : Clears seq' g.linked executing' clears' at'
  returned_clearing = record {
    out = λ u z e. i.clearing.out u z (clearer u z e).0;
    used = λ u z e. rw (same z (clearer u z e).1) (i.clearing.used u z (clearer u z e).0);
    own_executing = λ u z e. same_executing z (clearer u z e).1 ∙ i.clearing.own_executing u z (clearer u z e).0;
    alone = λ u w z e f. i.clearing.alone u w z (clearer u z e).0 (clearer w z f).0;
    past = λ u z b w c e h lt.
        let on_b = i.standing.on u b (standing u b e) in
        rw (same z (clearer u z c).1, same_on w (inr h)) (i.clearing.past u z b w (clearer u z c).0 (standing u b e) h (rw (same_on b on_b, same_on w (inr h)) at lt));
  }

  returned_loading : Loads s.graph.loaded seq' (upd s.graph.next n s.graph.free) g.linked executing' loads₀
  returned_loading = record {
    loader = i.loading.loader;
    newest = λ u z e. same z (loads_differs u z e) ∙ i.loading.newest u z e;
    used = λ u z e. rw (same z (loads_differs u z e)) (i.loading.used u z e);
    out = i.loading.out;
    waiting = λ u z e. same_executing z (loads_differs u z e) ∙ i.loading.waiting u z e;
    ends = λ u z e. upd_other s.graph.next n s.graph.free z (loads_differs u z e) ∙ i.loading.ends u z e;
  }

  returned_partition : Partition seq' g.linked loads₀ clears'
  returned_partition = record {
    one_of = λ z u. let d = used_differs z u in old z d (i.partition.one_of z (rw (same z d) at u));
  }
    where
      old : (z : ℕ) → (z ≡ n → ⊥) → (g.linked z ≡ true) ⊎ (((u : ℕ) × (loads₀ u ≡ some z)) ⊎ ((u : ℕ) × (clears₀ u ≡ some z))) → (g.linked z ≡ true) ⊎ (((u : ℕ) × (loads₀ u ≡ some z)) ⊎ ((u : ℕ) × (clears' u ≡ some z)))
      old z d = ⊎_elim inl (⊎_elim (λ k. inr (inl k)) (λ k. inr (inr (k.0, still_clears k.0 z d k.1))))

  -- ---- the sets

  -- nobody that a thread can stand on comes after the worker
  end_of : (p : ℕ) → On g.linked p → s.graph.seq l < s.graph.seq p → ⊥
  end_of p on lt = let h = i.order.last l on_l end p (on_linked i.order p on (omega arith)) in omega arith

  -- so n is in no set
  not_waited : (p y : ℕ) → On g.linked p → Pending s.graph.seq g.linked at₀ clears₀ y (s.graph.seq p) → y ≡ n → ⊥
  not_waited p y on w q = ⊎_elim (λ h. true_false (g.linked n) (ap g.linked (sym q) ∙ h) n_out) (λ (k : (u : ℕ) × (b : ℕ) × (clears₀ u ≡ some y) × (at₀ u ≡ some b) × (s.graph.seq b < s.graph.seq p)). gone k.0 k.1 k.2 k.3 k.4) w
    where
      gone : (u b : ℕ) → clears₀ u ≡ some y → at₀ u ≡ some b → s.graph.seq b < s.graph.seq p → ⊥
      gone u b c e lt =
          let m = i.clearing.alone u t y c (ap clears here ∙ ap some (sym q)) in
          let r : b ≡ l = let j : at₀ t ≡ some b = ap at₀ (sym m) ∙ e in let k = ap at here in cc in
          end_of p on (rw r at lt)

  pending_new : (y p : ℕ) → (y ≡ n → ⊥) → Pending s.graph.seq g.linked at₀ clears₀ y p → Pending seq' g.linked at' clears' y p
  pending_new y p other = ⊎_elim inl (λ k. inr (k.0, k.1, still_clears k.0 y other k.2, sym (stays_put k.0 k.2) ∙ k.3, rw (same_on k.1 (i.standing.on k.0 k.1 k.3)) k.4))
    where
      stays_put : (u : ℕ) → clears₀ u ≡ some y → at₀ u ≡ at' u
      stays_put u c = sym (upd_other at₀ t none u (λ q. other (let j : clears₀ t ≡ some y = ap clears₀ (sym q) ∙ c in let k = ap clears here in cc)))

  pending_old : (y p : ℕ) → Pending seq' g.linked at' clears' y p → Pending s.graph.seq g.linked at₀ clears₀ y p
  pending_old y p = ⊎_elim inl (λ k. let e = standing k.0 k.1 k.3 in inr (k.0, k.1, (clearer k.0 y k.2).0, e, rw (same_on k.1 (i.standing.on k.0 k.1 e)) at k.4))

  waited_new : (z y b p : ℕ) → (z ≡ n → ⊥) → (y ≡ n → ⊥) → Waited o s.graph.seq g.linked at₀ clears₀ z y b p → Waited o seq' g.linked at' clears' z y b p
  waited_new z y b p dz dy w = record {
    used = rw (same y dy) w.used;
    earlier = rw (same y dy) w.earlier;
    dependent = rw (same y dy, same z dz) w.dependent;
    pending = pending_new y p dy w.pending;
  }

  waited_old : (z y b p : ℕ) → (z ≡ n → ⊥) → Waited o seq' g.linked at' clears' z y b p → Waited o s.graph.seq g.linked at₀ clears₀ z y b p
  waited_old z y b p dz w =
      let dy = used_differs y w.used in
      record {
        used = rw (same y dy) at w.used;
        earlier = rw (same y dy) at w.earlier;
        dependent = rw (same y dy, same z dz) at w.dependent;
        pending = pending_old y p w.pending;
      }

  loader_still : (u z : ℕ) → loads₀ u ≡ some z → at₀ u ≡ at' u
  loader_still = stays at₀ loads₀ t none (ap loads here)

  returned_sets : Sets o seq' g.linked executing' s.graph.waits at' loads₀ clears'
  returned_sets = record {
    unused_empty = λ z y e. ⊎_elim (λ q. ap (λ (k : ℕ). s.graph.waits k y) q.0 ∙ i.sets.executing_empty n y n_executing) (λ q. i.sets.unused_empty z y (sym (same z q.0) ∙ e)) (eqb_cases z n);
    executing_empty = λ z y e. i.sets.executing_empty z y (sym (same_executing z (executing_differs z e)) ∙ e);
    linked_sound = λ z y h w. let k = i.sets.linked_sound z y h w in rw (same_on z (inr h)) (waited_new z y (s.graph.seq z) (s.graph.seq z) (on_differs z (inr h)) (not_waited z y (inr h) k.pending) k);
    linked_complete = λ z y h w. i.sets.linked_complete z y h (waited_old z y (s.graph.seq z) (s.graph.seq z) (on_differs z (inr h)) (rw (same_on z (inr h)) at w));
    loading_sound = λ u z p y e h w. let h₀ = loader_still u z e ∙ h in let on_p = i.standing.on u p h₀ in let k = i.sets.loading_sound u z p y e h₀ w in rw (same_on p on_p) (waited_new z y (suc (s.graph.seq p)) (s.graph.seq p) (loads_differs u z e) (not_waited p y on_p k.pending) k);
    loading_complete = λ u z p y e h w. let h₀ = loader_still u z e ∙ h in i.sets.loading_complete u z p y e h₀ (waited_old z y (suc (s.graph.seq p)) (s.graph.seq p) (loads_differs u z e) (rw (same_on p (i.standing.on u p h₀)) at w));
  }

  -- ---- the commands

  abbrev removed' : ℕ → Bool
  removed' = upd g.removed (s.graph.seq n) true

  more_removed : (c : ℕ) → g.removed c ≡ true → removed' c ≡ true
  more_removed c r = ⊎_elim (λ q. q.1) (λ q. q.1 ∙ r) (upd_cases g.removed (s.graph.seq n) true c)

  -- whoever is done still is another thread than t, with another node than n
  doer : (u z : ℕ) → upd (λ w. done (s.threads w)) t none u ≡ some z → (done (s.threads u) ≡ some z) × (z ≡ n → ⊥)
  doer u z e = ⊎_elim (λ h. absurd (none_some (upd (λ w. done (s.threads w)) t none u) h.1 e)) (λ h. let d = sym h.1 ∙ e in (d, differs h.0 d)) (upd_cases (λ w. done (s.threads w)) t none u)
    where
      differs : (u ≡ t → ⊥) → done (s.threads u) ≡ some z → z ≡ n → ⊥
      differs other d q = ⊎_elim (λ k. executes_differs u z k q) (λ k. other (i.clearing.alone u t z k (ap clears here ∙ ap some (sym q)))) (done_own (s.threads u) z d)

  returned_progress : Progress s.graph.loaded seq' g.written removed' (upd (λ w. done (s.threads w)) t none)
  returned_progress = record {
    done_written = λ u z e. rw (same z (doer u z e).1) (i.progress.done_written u z (doer u z e).0);
    written_done = λ c w. ⊎_elim (λ r. inl (more_removed c r)) (λ k. found_done c k.0 k.1 k.2 k.3) (i.progress.written_done c w);
    removed_written = λ c r. ⊎_elim (λ q. rw q.0 (i.progress.done_written t n (ap done here))) (λ q. i.progress.removed_written c (sym q.1 ∙ r)) (upd_cases g.removed (s.graph.seq n) true c);
    removed_loaded = λ c r. ⊎_elim (λ q. rw q.0 (n_used, i.order.below n)) (λ q. i.progress.removed_loaded c (sym q.1 ∙ r)) (upd_cases g.removed (s.graph.seq n) true c);
    removed_gone = λ z u. let d = used_differs z u in let u₀ : 1 ≤ s.graph.seq z = rw (same z d) at u in rw (same z d) (upd_other g.removed (s.graph.seq n) true (s.graph.seq z) (λ q. d (i.order.distinct z n u₀ q)) ∙ i.progress.removed_gone z u₀);
    accounted = λ c b e. ⊎_elim (λ r. inl (more_removed c r)) (λ k. has_node c k.0 k.1) (i.progress.accounted c b e);
  }
    where
      found_done : (c u z : ℕ) → done (s.threads u) ≡ some z → s.graph.seq z ≡ c → (removed' c ≡ true) ⊎ ((w : ℕ) × (y : ℕ) × (upd (λ w. done (s.threads w)) t none w ≡ some y) × (seq' y ≡ c))
      found_done c u z d e = ⊎_elim (λ h. inl (upd_at g.removed (s.graph.seq n) true c (sym e ∙ ap s.graph.seq (is_n h.0)))) (λ h. let f = h.1 ∙ d in inr (u, z, f, same z (doer u z f).1 ∙ e)) (upd_cases (λ w. done (s.threads w)) t none u)
        where
          is_n : u ≡ t → z ≡ n
          is_n q = let j : done (s.threads t) ≡ some z = ap (λ (k : ℕ). done (s.threads k)) (sym q) ∙ d in let k = ap done here in cc

      has_node : (c z : ℕ) → s.graph.seq z ≡ c → (removed' c ≡ true) ⊎ ((y : ℕ) × (seq' y ≡ c))
      has_node c z e = ⊎_elim (λ q. inl (upd_at g.removed (s.graph.seq n) true c (sym e ∙ ap s.graph.seq q.0))) (λ q. inr (z, same z q.0 ∙ e)) (eqb_cases z n)

  returned_service : Consistent o seq' g.written s.service (λ u. looked (s.threads u)) (λ u. found (s.threads u))
  returned_service = lookups_consistent i.service seq' (λ u. looked (s.threads u)) (λ u. found (s.threads u)) (λ u z e. rw (same z (executes_differs u z (looked_own (s.threads u) z e))) (i.service.look u z e))

  -- the node was unlocked, and its set empty, already
  unlocked : false ≡ upd s.graph.locked l false n
  unlocked = sym (fails (upd s.graph.locked l false n) (λ h. let k = left i.standing t l (ap at here) in let w = k.held n h in on_differs n (k.on w.0 n w.1) refl))

  no_waits : no_node ≡ s.graph.waits n
  unfolding no_node
  no_waits = fun_ext (λ y. sym (i.sets.executing_empty n y n_executing))

  pub node_returned : Inv o (move_to t Idle (return n (set_locked l false s.graph)) s) (returning n (s.graph.seq n) g)
  unfolding return move_to set_locked set_waits set_executing set_seq set_next set_free
  node_returned = rw (upd_id (upd s.graph.locked l false) n false unlocked, upd_id s.graph.waits n no_node no_waits) (record {
    order = returned_order;
    free_list = returned_free;
    standing = rw (upd_map at s.threads t Idle) (left i.standing t l (ap at here));
    executing = rw (kept executes s.threads t Idle (sym (ap executes here))) returned_executing;
    walking = walks_moved s.threads t Idle (λ z b p. absurd (none_some none refl p)) returned_walking;
    clearing = rw (upd_map clears s.threads t Idle, upd_map at s.threads t Idle) returned_clearing;
    loading = rw (kept loads s.threads t Idle (sym (ap loads here))) returned_loading;
    partition = rw (kept loads s.threads t Idle (sym (ap loads here)), upd_map clears s.threads t Idle) returned_partition;
    sets = rw (kept loads s.threads t Idle (sym (ap loads here)), upd_map clears s.threads t Idle, upd_map at s.threads t Idle) returned_sets;
    progress = rw (upd_map done s.threads t Idle) returned_progress;
    service = rw (kept looked s.threads t Idle (sym (ap looked here)), kept found s.threads t Idle (sym (ap found here))) returned_service;
    roles = worker_role t Idle low high refl i.roles;
  })

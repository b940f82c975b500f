-- A walking worker bypasses its own node and stays standing: the node leaves the chain, and the worker has to take it out of the sets of
-- those behind it. Whoever would miss the node has passed it. Assumes nothing.
use Rattle.std.specs.Prelude.{ℕ, suc, ◌≤◌, ◌<◌, ◌≡◌, Bool, true, false, ◌⊎◌, length}
use Rattle.std.proofs.Common.{arith, sym, ap, ◌∙◌, inl, inr, ⊎_elim}
use Rattle.std.proofs.Math.Path.{refl}
use Rattle.std.proofs.Math.Option.{Option, none, some}
use Rattle.node_set.specs.declared.Node.{Node}
use Rattle.model.specs.declared.Thread.{Thread}
use Rattle.model.specs.declared.Thread.TheVariants.{Walking, Clearing}
use Rattle.model.specs.Upd.{upd}
use Rattle.model.specs.Setup.{Setup}
use Rattle.model.specs.Graph.{set_next}
use Rattle.model.specs.Step.{State, node, bypass, move_to}
use Rattle.command.proofs.Tests.{true_false, none_some, eqb_cases}
use Rattle.model.proofs.Upd.{upd_same, upd_other, upd_at, upd_cases, upd_map}
use Rattle.model.proofs.Chain.Invariant.{Ghost, Inv, On, Order, FreeList, Standing, Executing, Clears, Loads, Partition, Pending, Waited, Sets, at, loads, executes, clears, done, looked, found}
use Rattle.model.proofs.Chain.Ghost.{linking}
use Rattle.model.proofs.Chain.Kept.{kept}
use Rattle.model.proofs.Chain.Moves.{worker_role, walks_moved}
use Rattle.model.proofs.Chain.Facts.{on_other, on_not_free, same_next, chain_kept}

module _ (o : Setup) (s : State) (g : Ghost) (i : Inv o s g) (t : ℕ) (low : 1 ≤ t) (high : t ≤ o.largest) (a x : Node)
    (here : s.threads t ≡ Walking a x) (own : s.graph.next a.0 ≡ x.0) (unlocked : s.graph.locked x.0 ≡ false) where
  abbrev n : ℕ
  n = x.0

  abbrev l : ℕ
  l = a.0

  abbrev at₀ : ℕ → Option ℕ
  at₀ u = at (s.threads u)

  abbrev executes₀ : ℕ → Option ℕ
  executes₀ u = executes (s.threads u)

  abbrev clears₀ : ℕ → Option ℕ
  clears₀ u = clears (s.threads u)

  abbrev loads₀ : ℕ → Option ℕ
  loads₀ u = loads (s.threads u)

  abbrev linked' : ℕ → Bool
  linked' = upd g.linked n false

  abbrev next' : ℕ → ℕ
  next' = upd s.graph.next l (s.graph.next n)

  abbrev clears' : ℕ → Option ℕ
  clears' = upd clears₀ t (some n)

  on_l : On g.linked l
  on_l = i.standing.on t l (ap at here)

  n_linked : g.linked n ≡ true
  n_linked = i.executing.own_linked t n (ap executes here)

  n_used : 1 ≤ s.graph.seq n
  n_used = i.order.linked_used n n_linked

  n_nonzero : n ≡ 0 → ⊥
  n_nonzero e = true_false (g.linked n) n_linked (ap g.linked e ∙ i.order.head_out)

  more : s.graph.next l ≡ 0 → ⊥
  more e = n_nonzero (sym own ∙ e)

  later : s.graph.seq l < s.graph.seq n
  later = rw own at (i.order.next_later l on_l more)

  -- of the chain behind l, n comes first; without it, every node comes after it
  after_n : (z : ℕ) → g.linked z ≡ true → (z ≡ n → ⊥) → s.graph.seq l < s.graph.seq z → s.graph.seq n < s.graph.seq z
  after_n z h other lt =
      let e = ap s.graph.seq own in
      let le = i.order.next_first l on_l more z h lt in
      let ne : s.graph.seq n ≡ s.graph.seq z → ⊥ = λ q. other (sym (i.order.distinct n z n_used q)) in
      omega (arith, ne)

  cases : (z : ℕ) → linked' z ≡ true → (z ≡ n → ⊥) × (g.linked z ≡ true)
  cases z h = ⊎_elim (λ k. absurd (true_false (linked' z) h k.1)) (λ k. (k.0, sym k.1 ∙ h)) (upd_cases g.linked n false z)

  still_linked : (z : ℕ) → (z ≡ n → ⊥) → g.linked z ≡ true → linked' z ≡ true
  still_linked z other h = upd_other g.linked n false z other ∙ h

  cases_on : (z : ℕ) → On linked' z → (z ≡ n → ⊥) × On g.linked z
  cases_on z = ⊎_elim (λ e. ((λ q. n_nonzero (sym q ∙ e)), inl e)) (λ h. ((cases z h).0, inr (cases z h).1))

  at_l : (z : ℕ) → ((z ≡ l) × (next' z ≡ s.graph.next n)) ⊎ ((z ≡ l → ⊥) × (next' z ≡ s.graph.next z))
  at_l z = upd_cases s.graph.next l (s.graph.next n) z

  bypassed_order : Order o.size s.graph.loaded (length o.commands) s.graph.seq linked' next'
  bypassed_order = record {
    head_seq = i.order.head_seq;
    head_out = upd_other g.linked n false 0 (λ e. n_nonzero (sym e)) ∙ i.order.head_out;
    linked_used = λ z h. i.order.linked_used z (cases z h).1;
    used_size = i.order.used_size;
    distinct = i.order.distinct;
    below = i.order.below;
    loaded_count = i.order.loaded_count;
    last = λ z on e w h. ⊎_elim (λ q. end_l z q.0 (sym q.1 ∙ e) w h) (λ q. i.order.last z (cases_on z on).1 (sym q.1 ∙ e) w (cases w h).1) (at_l z);
    next_linked = λ z on m. ⊎_elim (λ q. rw q.1 (next_n (λ e. m (q.1 ∙ e)))) (λ q. rw q.1 (next_z z (cases_on z on).1 q.0 (λ e. m (q.1 ∙ e)))) (at_l z);
    next_later = λ z on m. ⊎_elim (λ q. rw (q.1, q.0) (let b = i.order.next_later n (inr n_linked) (λ e. m (q.1 ∙ e)) in let c = later in omega arith)) (λ q. rw q.1 (i.order.next_later z (cases_on z on).1 (λ e. m (q.1 ∙ e)))) (at_l z);
    next_first = λ z on m w h lt. ⊎_elim (λ q. rw q.1 (i.order.next_first n (inr n_linked) (λ e. m (q.1 ∙ e)) w (cases w h).1 (after_n w (cases w h).1 (cases w h).0 (rw q.0 at lt)))) (λ q. rw q.1 (i.order.next_first z (cases_on z on).1 (λ e. m (q.1 ∙ e)) w (cases w h).1 lt)) (at_l z);
  }
    where
      end_l : (z : ℕ) → z ≡ l → s.graph.next n ≡ 0 → (w : ℕ) → linked' w ≡ true → s.graph.seq w ≤ s.graph.seq z
      end_l z e f w h =
          let b = i.order.last n (inr n_linked) f w (cases w h).1 in
          let c = after_n w (cases w h).1 (cases w h).0 in
          let d : s.graph.seq l < s.graph.seq w → ⊥ = λ lt. let k = c lt in omega arith in
          rw e (omega (arith, d))

      next_n : (s.graph.next n ≡ 0 → ⊥) → linked' (s.graph.next n) ≡ true
      next_n m = still_linked (s.graph.next n) (λ e. let b = i.order.next_later n (inr n_linked) m in let c = ap s.graph.seq e in omega arith) (i.order.next_linked n (inr n_linked) m)

      next_z : (z : ℕ) → On g.linked z → (z ≡ l → ⊥) → (s.graph.next z ≡ 0 → ⊥) → linked' (s.graph.next z) ≡ true
      next_z z on other m = still_linked (s.graph.next z) (λ e. other (same_next i.order z l on on_l more (e ∙ sym own))) (i.order.next_linked z on m)

  bypassed_free : FreeList o.size s.graph.seq next' s.graph.free g.frees
  bypassed_free = record {
    chain = chain_kept s.graph.next l (s.graph.next n) s.graph.free g.frees (on_not_free o s g i l on_l) i.free_list.chain;
    no_repeat = i.free_list.no_repeat;
    is_unused = i.free_list.is_unused;
    has_unused = i.free_list.has_unused;
  }

  bypassed_standing : Standing linked' s.graph.locked at₀
  bypassed_standing = record {
    on = λ u z e. ⊎_elim inl (λ h. inr (still_linked z (λ q. true_false (s.graph.locked n) (ap s.graph.locked (sym q) ∙ i.standing.locks u z e) unlocked) h)) (i.standing.on u z e);
    alone = i.standing.alone;
    locks = i.standing.locks;
    held = i.standing.held;
  }

  -- who executes now is another thread than t, with another node than n
  rest : (u z : ℕ) → upd executes₀ t none u ≡ some z → (u ≡ t → ⊥) × (executes₀ u ≡ some z)
  rest u z e = ⊎_elim (λ h. absurd (none_some (upd executes₀ t none u) h.1 e)) (λ h. (h.0, sym h.1 ∙ e)) (upd_cases executes₀ t none u)

  bypassed_executing : Executing s.graph.seq linked' s.graph.executing (upd executes₀ t none)
  bypassed_executing = record {
    own_linked = λ u z e. still_linked z (λ q. (rest u z e).0 (i.executing.alone u t z (rest u z e).1 (ap executes here ∙ ap some (sym q)))) (i.executing.own_linked u z (rest u z e).1);
    own_executing = λ u z e. i.executing.own_executing u z (rest u z e).1;
    alone = λ u w z e f. i.executing.alone u w z (rest u z e).1 (rest w z f).1;
    held = λ z h e. let k = i.executing.held z (cases z h).1 e in (k.0, upd_other executes₀ t none k.0 (λ q. (cases z h).0 (let r : executes₀ t ≡ some z = ap executes₀ (sym q) ∙ k.1 in let j = ap executes here in cc)) ∙ k.1);
    used = i.executing.used;
  }

  -- who clears now: thread t its node n, or whoever did
  clearer : (u z : ℕ) → clears' u ≡ some z → ((u ≡ t) × (z ≡ n)) ⊎ ((u ≡ t → ⊥) × (clears₀ u ≡ some z))
  clearer u z e = ⊎_elim (λ h. inl (h.0, cc)) (λ h. inr (h.0, sym h.1 ∙ e)) (upd_cases clears₀ t (some n) u)

  still_clears : (u z : ℕ) → clears₀ u ≡ some z → clears' u ≡ some z
  still_clears u z e = upd_other clears₀ t (some n) u (λ q. none_some (clears₀ t) (ap clears here) (ap clears₀ (sym q) ∙ e)) ∙ e

  no_other : (u : ℕ) → clears₀ u ≡ some n → ⊥
  no_other u e = true_false (g.linked n) n_linked (i.clearing.out u n e)

  bypassed_clearing : Clears s.graph.seq linked' s.graph.executing clears' at₀
  bypassed_clearing = record {
    out = λ u z e. ⊎_elim (λ k. upd_at g.linked n false z k.1) (λ k. ⊎_elim (λ q. q.1) (λ q. q.1 ∙ i.clearing.out u z k.1) (upd_cases g.linked n false z)) (clearer u z e);
    used = λ u z e. ⊎_elim (λ k. rw k.1 n_used) (λ k. i.clearing.used u z k.1) (clearer u z e);
    own_executing = λ u z e. ⊎_elim (λ k. rw k.1 (i.executing.own_executing t n (ap executes here))) (λ k. i.clearing.own_executing u z k.1) (clearer u z e);
    alone = λ u w z e f. ⊎_elim (λ k. ⊎_elim (λ j. k.0 ∙ sym j.0) (λ j. absurd (no_other w (j.1 ∙ ap some k.1))) (clearer w z f)) (λ k. ⊎_elim (λ j. absurd (no_other u (k.1 ∙ ap some j.1))) (λ j. i.clearing.alone u w z k.1 j.1) (clearer w z f)) (clearer u z e);
    past = past;
  }
    where
      past : (u z b w : ℕ) → clears' u ≡ some z → at₀ u ≡ some b → linked' w ≡ true → s.graph.seq b < s.graph.seq w → s.graph.seq z < s.graph.seq w
      past u z b w c e h lt = ⊎_elim (λ k. mine k.0 k.1) (λ k. i.clearing.past u z b w k.1 e (cases w h).1 lt) (clearer u z c)
        where
          mine : u ≡ t → z ≡ n → s.graph.seq z < s.graph.seq w
          mine p q =
              let r : b ≡ l = let j : at₀ t ≡ some b = ap at₀ (sym p) ∙ e in let m = ap at here in cc in
              rw q (after_n w (cases w h).1 (cases w h).0 (rw r at lt))

  bypassed_loading : Loads s.graph.loaded s.graph.seq next' linked' s.graph.executing loads₀
  bypassed_loading = record {
    loader = i.loading.loader;
    newest = i.loading.newest;
    used = i.loading.used;
    out = λ u z e. ⊎_elim (λ q. q.1) (λ q. q.1 ∙ i.loading.out u z e) (upd_cases g.linked n false z);
    waiting = i.loading.waiting;
    ends = λ u z e. upd_other s.graph.next l (s.graph.next n) z (λ q. on_other g.linked z l (nonzero u z e) (i.loading.out u z e) on_l (sym q)) ∙ i.loading.ends u z e;
  }
    where
      nonzero : (u z : ℕ) → loads₀ u ≡ some z → z ≡ 0 → ⊥
      nonzero u z e q = let b = i.loading.used u z e in let c = ap s.graph.seq q in let d = i.order.head_seq in omega arith

  bypassed_partition : Partition s.graph.seq linked' loads₀ clears'
  bypassed_partition = record {
    one_of = λ z u. ⊎_elim (λ q. inr (inr (t, upd_same clears₀ t (some n) ∙ ap some (sym q.0)))) (λ q. old z q.0 (i.partition.one_of z u)) (eqb_cases z n);
  }
    where
      old : (z : ℕ) → (z ≡ n → ⊥) → (g.linked z ≡ true) ⊎ (((u : ℕ) × (loads₀ u ≡ some z)) ⊎ ((u : ℕ) × (clears₀ u ≡ some z))) → (linked' z ≡ true) ⊎ (((u : ℕ) × (loads₀ u ≡ some z)) ⊎ ((u : ℕ) × (clears' u ≡ some z)))
      old z other = ⊎_elim (λ h. inl (still_linked z other h)) (⊎_elim (λ k. inr (inl k)) (λ k. inr (inr (k.0, still_clears k.0 z k.1))))

  -- n is pending before everything that waits for it: the worker stands before n
  pending_new : (y b p : ℕ) → b ≤ suc p → s.graph.seq y < b → Pending s.graph.seq g.linked at₀ clears₀ y p → Pending s.graph.seq linked' at₀ clears' y p
  pending_new y b p le lt =
      ⊎_elim (λ h. ⊎_elim (λ q. inr (t, l, upd_same clears₀ t (some n) ∙ ap some (sym q.0), ap at here, let c = later in let d = ap s.graph.seq q.0 in omega arith)) (λ q. inl (still_linked y q.0 h)) (eqb_cases y n))
      (λ k. inr (k.0, k.1, still_clears k.0 y k.2, k.3, k.4))

  pending_old : (y p : ℕ) → Pending s.graph.seq linked' at₀ clears' y p → Pending s.graph.seq g.linked at₀ clears₀ y p
  pending_old y p = ⊎_elim (λ h. inl (cases y h).1) (λ k. ⊎_elim (λ q. inl (rw q.1 n_linked)) (λ q. inr (k.0, k.1, q.1, k.3, k.4)) (clearer k.0 y k.2))

  waited_new : (z y b p : ℕ) → b ≤ suc p → Waited o s.graph.seq g.linked at₀ clears₀ z y b p → Waited o s.graph.seq linked' at₀ clears' z y b p
  waited_new z y b p le w = record { used = w.used; earlier = w.earlier; dependent = w.dependent; pending = pending_new y b p le w.earlier w.pending }

  waited_old : (z y b p : ℕ) → Waited o s.graph.seq linked' at₀ clears' z y b p → Waited o s.graph.seq g.linked at₀ clears₀ z y b p
  waited_old z y b p w = record { used = w.used; earlier = w.earlier; dependent = w.dependent; pending = pending_old y p w.pending }

  bypassed_sets : Sets o s.graph.seq linked' s.graph.executing s.graph.waits at₀ loads₀ clears'
  bypassed_sets = record {
    unused_empty = i.sets.unused_empty;
    executing_empty = i.sets.executing_empty;
    linked_sound = λ z y h w. waited_new z y (s.graph.seq z) (s.graph.seq z) (omega arith) (i.sets.linked_sound z y (cases z h).1 w);
    linked_complete = λ z y h w. i.sets.linked_complete z y (cases z h).1 (waited_old z y (s.graph.seq z) (s.graph.seq z) w);
    loading_sound = λ u z p y e h w. waited_new z y (suc (s.graph.seq p)) (s.graph.seq p) (omega arith) (i.sets.loading_sound u z p y e h w);
    loading_complete = λ u z p y e h w. i.sets.loading_complete u z p y e h (waited_old z y (suc (s.graph.seq p)) (s.graph.seq p) w);
  }

  pub node_bypassed : Inv o (bypass t l n s) (linking n false g)
  unfolding bypass move_to set_next
  node_bypassed =
      let v : Thread = Clearing (node l) (node n) in
      record {
        order = bypassed_order;
        free_list = bypassed_free;
        standing = rw (kept at s.threads t v (sym (ap at here))) bypassed_standing;
        executing = rw (upd_map executes s.threads t v) bypassed_executing;
        walking = walks_moved s.threads t v (λ z b p. absurd (none_some none refl p)) i.walking;
        clearing = rw (upd_map clears s.threads t v, kept at s.threads t v (sym (ap at here))) bypassed_clearing;
        loading = rw (kept loads s.threads t v (sym (ap loads here))) bypassed_loading;
        partition = rw (kept loads s.threads t v (sym (ap loads here)), upd_map clears s.threads t v) bypassed_partition;
        sets = rw (kept loads s.threads t v (sym (ap loads here)), upd_map clears s.threads t v, kept at s.threads t v (sym (ap at here))) bypassed_sets;
        progress = rw (kept done s.threads t v (sym (ap done here))) i.progress;
        service = rw (kept looked s.threads t v (sym (ap looked here)), kept found s.threads t v (sym (ap found here))) i.service;
        roles = worker_role t v low high refl i.roles;
      }

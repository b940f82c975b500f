-- The loader links the new node at the end: every node of the chain lies at or before the loader, so the set that it gathered is the set
-- of a node of the chain. Assumes nothing.
use Rattle.std.specs.Prelude.{ℕ, suc, ◌≤◌, ◌<◌, ◌≡◌, Bool, true, ◌⊎◌, length}
use Rattle.std.proofs.Common.{arith, sym, ap, ◌∙◌, inl, inr, ⊎_elim}
use Rattle.std.proofs.Math.Path.{refl}
use Rattle.std.proofs.Math.Bool.{false}
use Rattle.std.proofs.Math.Option.{Option, none, some}
use Rattle.node_set.specs.declared.Node.{Node}
use Rattle.model.specs.declared.Thread.TheVariants.{Idle, Loading}
use Rattle.model.specs.Upd.{upd}
use Rattle.model.specs.Setup.{Setup}
use Rattle.model.specs.Graph.{set_locked, set_next, set_executing}
use Rattle.model.specs.Step.{State, link, move_to}
use Rattle.command.proofs.Tests.{true_false, none_some}
use Rattle.model.proofs.Upd.{upd_same, upd_other, upd_at, upd_cases, upd_map, upd_id}
use Rattle.model.proofs.Chain.Invariant.{Ghost, Inv, On, Order, FreeList, Standing, Executing, Clears, Loads, Partition, Pending, Waited, Sets, at, loads, executes, clears, done, looked, found}
use Rattle.model.proofs.Chain.Ghost.{linking}
use Rattle.model.proofs.Chain.Kept.{kept, stays}
use Rattle.model.proofs.Chain.Stand.{left}
use Rattle.model.proofs.Chain.Moves.{loader_role, walks_moved}
use Rattle.model.proofs.Chain.Facts.{on_distinct, on_linked, on_other, on_not_free, chain_kept}

module _ (o : Setup) (s : State) (g : Ghost) (i : Inv o s g) (a x : Node) (here : s.threads 0 ≡ Loading a x) (end : s.graph.next a.0 ≡ 0) where
  abbrev n : ℕ
  n = x.0

  abbrev l : ℕ
  l = a.0

  abbrev at₀ : ℕ → Option ℕ
  at₀ u = at (s.threads u)

  abbrev at' : ℕ → Option ℕ
  at' = upd at₀ 0 none

  abbrev clears₀ : ℕ → Option ℕ
  clears₀ u = clears (s.threads u)

  abbrev linked' : ℕ → Bool
  linked' = upd g.linked n true

  on_l : On g.linked l
  on_l = i.standing.on 0 l (ap at here)

  n_out : g.linked n ≡ false
  n_out = i.loading.out 0 n (ap loads here)

  n_newest : s.graph.seq n ≡ s.graph.loaded
  n_newest = i.loading.newest 0 n (ap loads here)

  n_used : 1 ≤ s.graph.seq n
  n_used = i.loading.used 0 n (ap loads here)

  n_waiting : s.graph.executing n ≡ false
  n_waiting = i.loading.waiting 0 n (ap loads here)

  n_nonzero : n ≡ 0 → ⊥
  n_nonzero e = let h = ap s.graph.seq e in let k = i.order.head_seq in let u = n_used in omega arith

  -- every node of the chain comes before the new one
  before_new : (z : ℕ) → g.linked z ≡ true → s.graph.seq z < s.graph.seq n
  before_new z h =
      let b = i.order.below z in
      let e = n_newest in
      let ne : s.graph.seq z ≡ s.graph.seq n → ⊥ = λ q. true_false (g.linked n) (ap g.linked (sym (i.order.distinct z n (i.order.linked_used z h) q)) ∙ h) n_out in
      omega (arith, ne)

  before_new_on : (z : ℕ) → On g.linked z → s.graph.seq z < s.graph.seq n
  before_new_on z = ⊎_elim (λ e. let h = ap s.graph.seq e in let k = i.order.head_seq in let u = n_used in omega arith) (before_new z)

  -- a node of the new chain is the new node or one of the old chain
  cases : (z : ℕ) → linked' z ≡ true → (z ≡ n) ⊎ ((z ≡ n → ⊥) × (g.linked z ≡ true))
  cases z h = ⊎_elim (λ k. inl k.0) (λ k. inr (k.0, sym k.1 ∙ h)) (upd_cases g.linked n true z)

  cases_on : (z : ℕ) → On linked' z → (z ≡ n) ⊎ ((z ≡ n → ⊥) × On g.linked z)
  cases_on z = ⊎_elim (λ e. inr ((λ q. n_nonzero (sym q ∙ e)), inl e)) (λ h. ⊎_elim inl (λ k. inr (k.0, inr k.1)) (cases z h))

  more_linked : (z : ℕ) → g.linked z ≡ true → linked' z ≡ true
  more_linked z h = ⊎_elim (λ k. k.1) (λ k. k.1 ∙ h) (upd_cases g.linked n true z)

  more_on : (z : ℕ) → On g.linked z → On linked' z
  more_on z = ⊎_elim inl (λ h. inr (more_linked z h))

  n_next : upd s.graph.next l n n ≡ 0
  n_next = upd_other s.graph.next l n n (λ e. on_other g.linked n l n_nonzero n_out on_l (sym e)) ∙ i.loading.ends 0 n (ap loads here)

  linked_order : Order o.size s.graph.loaded (length o.commands) s.graph.seq linked' (upd s.graph.next l n)
  linked_order = record {
    head_seq = i.order.head_seq;
    head_out = upd_other g.linked n true 0 (λ e. n_nonzero (sym e)) ∙ i.order.head_out;
    linked_used = λ z h. ⊎_elim (λ e. rw e n_used) (λ k. i.order.linked_used z k.1) (cases z h);
    used_size = i.order.used_size;
    distinct = i.order.distinct;
    below = i.order.below;
    loaded_count = i.order.loaded_count;
    last = last;
    next_linked = λ z on m. ⊎_elim (λ e. absurd (m (ap (upd s.graph.next l n) e ∙ n_next))) (λ k. ⊎_elim (λ q. rw q.1 (upd_same g.linked n true)) (λ q. rw q.1 (more_linked (s.graph.next z) (i.order.next_linked z k.1 (λ e. m (q.1 ∙ e))))) (at_l z)) (cases_on z on);
    next_later = λ z on m. ⊎_elim (λ e. absurd (m (ap (upd s.graph.next l n) e ∙ n_next))) (λ k. ⊎_elim (λ q. rw q.1 (before_new_on z k.1)) (λ q. rw q.1 (i.order.next_later z k.1 (λ e. m (q.1 ∙ e)))) (at_l z)) (cases_on z on);
    next_first = next_first;
  }
    where
      at_l : (z : ℕ) → ((z ≡ l) × (upd s.graph.next l n z ≡ n)) ⊎ ((z ≡ l → ⊥) × (upd s.graph.next l n z ≡ s.graph.next z))
      at_l z = upd_cases s.graph.next l n z

      last : (z : ℕ) → On linked' z → upd s.graph.next l n z ≡ 0 → (w : ℕ) → linked' w ≡ true → s.graph.seq w ≤ s.graph.seq z
      last z on e w h = ⊎_elim (λ k. let q = ap s.graph.seq k in let b = i.order.below w in let m = n_newest in omega arith) (λ k. ⊎_elim (λ q. absurd (n_nonzero (sym q.1 ∙ e))) (λ q. old k.1 q.0 (sym q.1 ∙ e)) (at_l z)) (cases_on z on)
        where
          -- another node with next index 0 would be as late as l, and so be l
          old : On g.linked z → (z ≡ l → ⊥) → s.graph.next z ≡ 0 → s.graph.seq w ≤ s.graph.seq z
          old on_z other f = absurd (other (on_distinct i.order z l on_z on_l (ends_meet z on_z f)))
            where
              le_end : (p q : ℕ) → On g.linked p → On g.linked q → s.graph.next p ≡ 0 → s.graph.seq q ≤ s.graph.seq p
              le_end p q on_p on_q e = ⊎_elim (λ r. let a = ap s.graph.seq r in let b = i.order.head_seq in omega arith) (λ r. i.order.last p on_p e q r) on_q

              ends_meet : (z : ℕ) → On g.linked z → s.graph.next z ≡ 0 → s.graph.seq z ≡ s.graph.seq l
              ends_meet z on_z f = let p = le_end z l on_z on_l f in let q = le_end l z on_l on_z end in omega arith

      next_first : (z : ℕ) → On linked' z → (upd s.graph.next l n z ≡ 0 → ⊥) → (w : ℕ) → linked' w ≡ true → s.graph.seq z < s.graph.seq w → s.graph.seq (upd s.graph.next l n z) ≤ s.graph.seq w
      next_first z on m w h lt = ⊎_elim (λ e. absurd (m (ap (upd s.graph.next l n) e ∙ n_next))) (λ k. ⊎_elim (λ q. rw q.1 (⊎_elim (at_end q.0) (λ r. absurd (past_end q.0 r.1)) (cases w h))) (λ q. rw q.1 (inner k.1 (λ e. m (q.1 ∙ e)))) (at_l z)) (cases_on z on)
        where
          at_end : z ≡ l → w ≡ n → s.graph.seq n ≤ s.graph.seq w
          at_end e r = let c = ap s.graph.seq r in omega arith

          past_end : z ≡ l → g.linked w ≡ true → ⊥
          past_end e r = let b = i.order.last l on_l end w r in let c = ap s.graph.seq e in omega arith

          inner : On g.linked z → (s.graph.next z ≡ 0 → ⊥) → s.graph.seq (s.graph.next z) ≤ s.graph.seq w
          inner on_z more = ⊎_elim (λ r. let b = before_new (s.graph.next z) (i.order.next_linked z on_z more) in let c = ap s.graph.seq r in omega arith) (λ r. i.order.next_first z on_z more w r.1 lt) (cases w h)

  linked_free : FreeList o.size s.graph.seq (upd s.graph.next l n) s.graph.free g.frees
  linked_free = record {
    chain = chain_kept s.graph.next l n s.graph.free g.frees (on_not_free o s g i l on_l) i.free_list.chain;
    no_repeat = i.free_list.no_repeat;
    is_unused = i.free_list.is_unused;
    has_unused = i.free_list.has_unused;
  }

  linked_executing : Executing s.graph.seq linked' s.graph.executing (λ u. executes (s.threads u))
  linked_executing = record {
    own_linked = λ u z e. more_linked z (i.executing.own_linked u z e);
    own_executing = i.executing.own_executing;
    alone = i.executing.alone;
    held = λ z h e. ⊎_elim (λ k. absurd (true_false (s.graph.executing n) (ap s.graph.executing (sym k) ∙ e) n_waiting)) (λ k. i.executing.held z k.1 e) (cases z h);
    used = i.executing.used;
  }

  -- whoever clears is another thread and stays where it stands
  still : (u z : ℕ) → clears₀ u ≡ some z → at₀ u ≡ at' u
  still = stays at₀ clears₀ 0 none (ap clears here)

  -- the node of a clearing worker is not the new one
  clears_other : (u z : ℕ) → clears₀ u ≡ some z → z ≡ n → ⊥
  clears_other u z c e = true_false (s.graph.executing n) (ap s.graph.executing (sym e) ∙ i.clearing.own_executing u z c) n_waiting

  -- it has a command from before the new one
  clears_before : (u z : ℕ) → clears₀ u ≡ some z → s.graph.seq z < s.graph.seq n
  clears_before u z c =
      let b = i.order.below z in
      let e = n_newest in
      let ne : s.graph.seq z ≡ s.graph.seq n → ⊥ = λ q. clears_other u z c (i.order.distinct z n (i.clearing.used u z c) q) in
      omega (arith, ne)

  linked_standing : Standing linked' (upd s.graph.locked l false) at'
  linked_standing =
      let k = left i.standing 0 l (ap at here) in
      record { on = λ u z e. more_on z (k.on u z e); alone = k.alone; locks = k.locks; held = k.held }

  linked_clearing : Clears s.graph.seq linked' s.graph.executing clears₀ at'
  linked_clearing = record {
    out = λ u z c. upd_other g.linked n true z (clears_other u z c) ∙ i.clearing.out u z c;
    used = i.clearing.used;
    own_executing = i.clearing.own_executing;
    alone = i.clearing.alone;
    past = λ u z b w c e h lt. ⊎_elim (λ k. rw k (clears_before u z c)) (λ (k : (w ≡ n → ⊥) × (g.linked w ≡ true)). i.clearing.past u z b w c (still u z c ∙ e) k.1 lt) (cases w h);
  }

  -- nobody loads any more
  no_load : (u z : ℕ) → upd (λ w. loads (s.threads w)) 0 none u ≡ some z → ⊥
  no_load u z e = ⊎_elim (λ h. none_some (upd (λ w. loads (s.threads w)) 0 none u) h.1 e) (λ h. h.0 (i.loading.loader u z (sym h.1 ∙ e))) (upd_cases (λ w. loads (s.threads w)) 0 none u)

  linked_loading : Loads s.graph.loaded s.graph.seq (upd s.graph.next l n) linked' s.graph.executing (upd (λ w. loads (s.threads w)) 0 none)
  linked_loading = record {
    loader = λ u z e. absurd (no_load u z e);
    newest = λ u z e. absurd (no_load u z e);
    used = λ u z e. absurd (no_load u z e);
    out = λ u z e. absurd (no_load u z e);
    waiting = λ u z e. absurd (no_load u z e);
    ends = λ u z e. absurd (no_load u z e);
  }

  linked_partition : Partition s.graph.seq linked' (upd (λ w. loads (s.threads w)) 0 none) clears₀
  linked_partition = record {
    one_of = λ z u. ⊎_elim (λ h. inl (more_linked z h)) (⊎_elim (λ w. inl (upd_at g.linked n true z (loaded_is w.0 z w.1))) (λ w. inr (inr w))) (i.partition.one_of z u);
  }
    where
      loaded_is : (u z : ℕ) → loads (s.threads u) ≡ some z → z ≡ n
      loaded_is u z e = let h : loads (s.threads 0) ≡ some z = ap (λ (k : ℕ). loads (s.threads k)) (sym (i.loading.loader u z e)) ∙ e in let j = ap loads here in cc

  -- a clearing worker that stands anywhere stands before the loader, and its own node lies before the loader
  clearer_before : (u z b : ℕ) → clears₀ u ≡ some z → at₀ u ≡ some b → (s.graph.seq b < s.graph.seq l) × (s.graph.seq z < s.graph.seq l)
  clearer_before u z b c e =
      let on_b = i.standing.on u b e in
      let le = le_end b on_b in
      let ne : s.graph.seq b ≡ s.graph.seq l → ⊥ = λ q. other (on_distinct i.order b l on_b on_l q) in
      let lt : s.graph.seq b < s.graph.seq l = omega (arith, ne) in
      (lt, i.clearing.past u z b l c e (on_linked i.order l on_l (omega arith)) lt)
    where
      other : b ≡ l → ⊥
      other q = none_some (clears₀ 0) (ap clears here) (ap clears₀ (sym (i.standing.alone u 0 b e (ap at here ∙ ap some (sym q)))) ∙ c)

      le_end : (b : ℕ) → On g.linked b → s.graph.seq b ≤ s.graph.seq l
      le_end b = ⊎_elim (λ r. let p = ap s.graph.seq r in let q = i.order.head_seq in omega arith) (λ r. i.order.last l on_l end b r)

  -- old members stay, and the new node is before nobody
  pending_new : (y p : ℕ) → Pending s.graph.seq g.linked at₀ clears₀ y p → Pending s.graph.seq linked' at' clears₀ y p
  pending_new y p = ⊎_elim (λ h. inl (more_linked y h)) (λ k. inr (k.0, k.1, k.2, sym (still k.0 y k.2) ∙ k.3, k.4))

  pending_old : (y p : ℕ) → (y ≡ n → ⊥) → Pending s.graph.seq linked' at' clears₀ y p → Pending s.graph.seq g.linked at₀ clears₀ y p
  pending_old y p other = ⊎_elim (λ h. inl (sym (upd_other g.linked n true y other) ∙ h)) (λ k. inr (k.0, k.1, k.2, still k.0 y k.2 ∙ k.3, k.4))

  -- what the loader gathered is what the new node waits for
  own_sound : (y : ℕ) → Waited o s.graph.seq g.linked at₀ clears₀ n y (suc (s.graph.seq l)) (s.graph.seq l) → Waited o s.graph.seq linked' at' clears₀ n y (s.graph.seq n) (s.graph.seq n)
  own_sound y w = record {
    used = w.used;
    earlier = let h = w.earlier in let k = before_new_on l on_l in omega arith;
    dependent = w.dependent;
    pending = far y w.pending;
  }
    where
      far : (y : ℕ) → Pending s.graph.seq g.linked at₀ clears₀ y (s.graph.seq l) → Pending s.graph.seq linked' at' clears₀ y (s.graph.seq n)
      far y = ⊎_elim (λ h. inl (more_linked y h)) (λ k. inr (k.0, k.1, k.2, sym (still k.0 y k.2) ∙ k.3, let h = k.4 in let q = before_new_on l on_l in omega arith))

  own_complete : (y : ℕ) → Waited o s.graph.seq linked' at' clears₀ n y (s.graph.seq n) (s.graph.seq n) → Waited o s.graph.seq g.linked at₀ clears₀ n y (suc (s.graph.seq l)) (s.graph.seq l)
  own_complete y w = record { used = w.used; earlier = (near w.pending).0; dependent = w.dependent; pending = (near w.pending).1 }
    where
      other : y ≡ n → ⊥
      other e = let h = w.earlier in let k = ap s.graph.seq e in omega arith

      near : Pending s.graph.seq linked' at' clears₀ y (s.graph.seq n) → (s.graph.seq y < suc (s.graph.seq l)) × Pending s.graph.seq g.linked at₀ clears₀ y (s.graph.seq l)
      near = ⊎_elim
          (λ h. let k = sym (upd_other g.linked n true y other) ∙ h in (let b = i.order.last l on_l end y k in omega arith, inl k))
          (λ k. let e = still k.0 y k.2 ∙ k.3 in let c = clearer_before k.0 y k.1 k.2 e in (let h = c.1 in omega arith, inr (k.0, k.1, k.2, e, c.0)))

  linked_sets : Sets o s.graph.seq linked' s.graph.executing s.graph.waits at' (upd (λ w. loads (s.threads w)) 0 none) clears₀
  linked_sets = record {
    unused_empty = i.sets.unused_empty;
    executing_empty = i.sets.executing_empty;
    linked_sound = λ z y h w. ⊎_elim (λ e. rw e (own_sound y (i.sets.loading_sound 0 n l y (ap loads here) (ap at here) (ap (λ (k : ℕ). s.graph.waits k y) (sym e) ∙ w)))) (λ (k : (z ≡ n → ⊥) × (g.linked z ≡ true)). let r = i.sets.linked_sound z y k.1 w in record { used = r.used; earlier = r.earlier; dependent = r.dependent; pending = pending_new y (s.graph.seq z) r.pending }) (cases z h);
    linked_complete = λ z y h w. ⊎_elim (λ e. ap (λ (k : ℕ). s.graph.waits k y) e ∙ i.sets.loading_complete 0 n l y (ap loads here) (ap at here) (own_complete y (rw e at w))) (λ (k : (z ≡ n → ⊥) × (g.linked z ≡ true)). i.sets.linked_complete z y k.1 (record { used = w.used; earlier = w.earlier; dependent = w.dependent; pending = pending_old y (s.graph.seq z) (λ e. let a = w.earlier in let b = before_new z k.1 in let c = ap s.graph.seq e in omega arith) w.pending })) (cases z h);
    loading_sound = λ u z b y e. absurd (no_load u z e);
    loading_complete = λ u z b y e. absurd (no_load u z e);
  }

  pub node_linked : Inv o (link l n s) (linking n true g)
  unfolding link move_to set_locked set_executing set_next
  node_linked = rw (upd_id s.graph.executing n false (sym n_waiting)) (record {
    order = linked_order;
    free_list = linked_free;
    standing = rw (upd_map at s.threads 0 Idle) linked_standing;
    executing = rw (kept executes s.threads 0 Idle (sym (ap executes here))) linked_executing;
    walking = walks_moved s.threads 0 Idle (λ z b p. absurd (none_some none refl p)) i.walking;
    clearing = rw (kept clears s.threads 0 Idle (sym (ap clears here)), upd_map at s.threads 0 Idle) linked_clearing;
    loading = rw (upd_map loads s.threads 0 Idle) linked_loading;
    partition = rw (upd_map loads s.threads 0 Idle, kept clears s.threads 0 Idle (sym (ap clears here))) linked_partition;
    sets = rw (upd_map loads s.threads 0 Idle, kept clears s.threads 0 Idle (sym (ap clears here)), upd_map at s.threads 0 Idle) linked_sets;
    progress = rw (kept done s.threads 0 Idle (sym (ap done here))) i.progress;
    service = rw (kept looked s.threads 0 Idle (sym (ap looked here)), kept found s.threads 0 Idle (sym (ap found here))) i.service;
    roles = loader_role Idle refl i.roles;
  })

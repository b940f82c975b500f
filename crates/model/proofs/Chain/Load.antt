-- The loader takes the first free node for the next command, locks the head and stands there: the invariant is kept. Nothing in the chain
-- is at or before the head, so the new node's set is rightly empty. Assumes nothing.
use Rattle.std.specs.Prelude.{ℕ, suc, ◌+◌, ◌≤◌, ◌<◌, ◌≡◌, true, false, List, [], ◌∷◌, length}
use Rattle.std.proofs.Common.{arith, sym, ap, ◌∙◌, inl, inr, ⊎_elim}
use Rattle.std.proofs.Math.Path.{refl}
use Rattle.std.proofs.Math.Option.{Option, none, some}
use Rattle.model.specs.declared.Thread.{Thread}
use Rattle.model.specs.declared.Thread.TheVariants.{Idle, Loading}
use Rattle.model.specs.Upd.{upd}
use Rattle.model.specs.Setup.{Setup}
use Rattle.model.specs.Graph.{set_locked, set_loaded, set_seq, set_next, set_free}
use Rattle.model.specs.Step.{State, node, load, move_to}
use Rattle.command.proofs.Tests.{fails, true_false, none_some, eqb_cases}
use Rattle.model.proofs.Upd.{upd_same, upd_other, upd_at, upd_cases, upd_map}
use Rattle.model.proofs.Consistent.{Consistent, lookups_consistent}
use Rattle.model.proofs.Chain.Invariant.{Ghost, Inv, On, In, NoRepeat, ChainFrom, Order, FreeList, Executing, Walks, Clears, Loads, Partition, Pending, Waited, Sets, Progress, at, loads, executes, walks, clears, done, looked, found}
use Rattle.model.proofs.Chain.Ghost.{tail, taken}
use Rattle.model.proofs.Chain.Kept.{kept, stays}
use Rattle.model.proofs.Chain.Stand.{entered}
use Rattle.model.proofs.Chain.Moves.{loader_role, walks_moved}
use Rattle.model.proofs.Chain.Facts.{looked_own, walks_own, unused_out, executes_used, done_used, last_kept, next_linked_kept, next_later_kept, next_first_kept, chain_kept}

-- a chain of next indexes that begins at a node begins with it
pub first_in : (next : ℕ → ℕ) (f : ℕ) (l : List ℕ) → ChainFrom next f l → (f ≡ 0 → ⊥) → In f l
first_in next f [] c n = absurd (n c)
first_in next f (x ∷ l) c n = inl c.0

pub rest_chain : (next : ℕ → ℕ) (f : ℕ) (l : List ℕ) → ChainFrom next f l → (f ≡ 0 → ⊥) → ChainFrom next (next f) (tail l)
rest_chain next f [] c n = absurd (n c)
rest_chain next f (x ∷ l) c n = rw c.0 c.1

pub rest_no_repeat : (l : List ℕ) → NoRepeat l → NoRepeat (tail l)
rest_no_repeat [] c = tt
rest_no_repeat (x ∷ l) c = c.1

pub first_once : (next : ℕ → ℕ) (f : ℕ) (l : List ℕ) → ChainFrom next f l → NoRepeat l → In f (tail l) → ⊥
first_once next f [] c r h = h
first_once next f (x ∷ l) c r h = r.0 (rw (← c.0) h)

pub in_rest : (x : ℕ) (l : List ℕ) → In x (tail l) → In x l
in_rest x [] h = h
in_rest x (y ∷ l) h = inr h

pub rest_has : (next : ℕ → ℕ) (f : ℕ) (l : List ℕ) → ChainFrom next f l → (x : ℕ) → In x l → (x ≡ f → ⊥) → In x (tail l)
rest_has next f [] c x h n = h
rest_has next f (y ∷ l) c x h n = ⊎_elim (λ e. absurd (n (e ∙ sym c.0))) (λ k. k) h

module _ (o : Setup) (s : State) (g : Ghost) (i : Inv o s g) (here : s.threads 0 ≡ Idle) (left : s.graph.loaded < length o.commands)
    (some_free : s.graph.free ≡ 0 → ⊥) (open_head : s.graph.locked 0 ≡ false) where
  abbrev f : ℕ
  f = s.graph.free

  abbrev q : ℕ
  q = s.graph.loaded + 1

  abbrev seq' : ℕ → ℕ
  seq' = upd s.graph.seq f q

  abbrev v : Thread
  v = Loading (node 0) (node f)

  free_node : (1 ≤ f) × (f ≤ o.size) × (s.graph.seq f ≡ 0)
  free_node = i.free_list.is_unused f (first_in s.graph.next f g.frees i.free_list.chain some_free)

  pub f_out : g.linked f ≡ false
  f_out = unused_out o s g i f free_node.2

  -- a node with a command is another one, and keeps its sequence number
  used_other : (x : ℕ) → 1 ≤ s.graph.seq x → x ≡ f → ⊥
  used_other x u e = let h = free_node.2 in let k = ap s.graph.seq e in omega arith

  pub same : (x : ℕ) → 1 ≤ s.graph.seq x → seq' x ≡ s.graph.seq x
  same x u = upd_other s.graph.seq f q x (used_other x u)

  same_linked : (x : ℕ) → g.linked x ≡ true → seq' x ≡ s.graph.seq x
  same_linked x l = same x (i.order.linked_used x l)

  same_on : (x : ℕ) → On g.linked x → seq' x ≡ s.graph.seq x
  same_on x = ⊎_elim (λ h. upd_other s.graph.seq f q x (λ e. some_free (sym e ∙ h))) (same_linked x)

  loaded_order : Order o.size q (length o.commands) seq' g.linked (upd s.graph.next f 0)
  loaded_order = record {
    head_seq = same_on 0 (inl refl) ∙ i.order.head_seq;
    head_out = i.order.head_out;
    linked_used = λ x l. rw (same_linked x l) (i.order.linked_used x l);
    used_size = λ x u. ⊎_elim (λ h. rw h.0 free_node.1) (λ h. i.order.used_size x (rw h.1 at u)) (upd_cases s.graph.seq f q x);
    distinct = distinct;
    below = λ x. ⊎_elim (λ h. let e = h.1 in omega arith) (λ h. let e = h.1 in let b = i.order.below x in omega arith) (upd_cases s.graph.seq f q x);
    loaded_count = omega arith;
    last = last_kept i.order f q 0 some_free f_out;
    next_linked = next_linked_kept i.order f q 0 some_free f_out;
    next_later = next_later_kept i.order f q 0 some_free f_out;
    next_first = next_first_kept i.order f q 0 some_free f_out;
  }
    where
      distinct : (x y : ℕ) → 1 ≤ seq' x → seq' x ≡ seq' y → x ≡ y
      distinct x y u e = ⊎_elim (λ h. ⊎_elim (λ k. h.0 ∙ sym k.0) (λ k. let a = h.1 in let b = k.1 in let c = i.order.below y in absurd (omega arith)) (upd_cases s.graph.seq f q y)) (λ h. ⊎_elim (λ k. let a = h.1 in let b = k.1 in let c = i.order.below x in absurd (omega arith)) (λ k. i.order.distinct x y (rw h.1 at u) (sym h.1 ∙ (e ∙ k.1))) (upd_cases s.graph.seq f q y)) (upd_cases s.graph.seq f q x)

  loaded_free : FreeList o.size seq' (upd s.graph.next f 0) (s.graph.next f) (tail g.frees)
  loaded_free = record {
    chain = chain_kept s.graph.next f 0 (s.graph.next f) (tail g.frees) once (rest_chain s.graph.next f g.frees i.free_list.chain some_free);
    no_repeat = rest_no_repeat g.frees i.free_list.no_repeat;
    is_unused = λ x h. let w = i.free_list.is_unused x (in_rest x g.frees h) in (w.0, w.1, upd_other s.graph.seq f q x (λ e. once (rw (← e) h)) ∙ w.2);
    has_unused = λ x a b e. ⊎_elim (λ h. let c = h.1 in absurd (omega arith)) (λ h. rest_has s.graph.next f g.frees i.free_list.chain x (i.free_list.has_unused x a b (sym h.1 ∙ e)) h.0) (upd_cases s.graph.seq f q x);
  }
    where
      once : In f (tail g.frees) → ⊥
      once = first_once s.graph.next f g.frees i.free_list.chain i.free_list.no_repeat

  abbrev at₀ : ℕ → Option ℕ
  at₀ u = at (s.threads u)

  abbrev at' : ℕ → Option ℕ
  at' = upd at₀ 0 (some 0)

  loaded_executing : Executing seq' g.linked s.graph.executing (λ u. executes (s.threads u))
  loaded_executing = record {
    own_linked = i.executing.own_linked;
    own_executing = i.executing.own_executing;
    alone = i.executing.alone;
    held = i.executing.held;
    used = λ x e. rw (same x (i.executing.used x e)) (i.executing.used x e);
  }

  loaded_walking : Walks seq' (λ u. walks (s.threads u)) at₀
  loaded_walking = record {
    before = λ u x a w e. rw (same x (executes_used o s g i u x (walks_own (s.threads u) x w)), same_on a (i.standing.on u a e)) (i.walking.before u x a w e);
  }

  loaded_clearing : Clears seq' g.linked s.graph.executing (λ u. clears (s.threads u)) at'
  loaded_clearing = record {
    out = i.clearing.out;
    used = λ u x e. rw (same x (i.clearing.used u x e)) (i.clearing.used u x e);
    own_executing = i.clearing.own_executing;
    alone = i.clearing.alone;
    past = λ u x a z c e l h.
        let e₀ : at₀ u ≡ some a = stays at₀ (λ w. clears (s.threads w)) 0 (some 0) (ap clears here) u x c ∙ e in
        let h₀ : s.graph.seq a < s.graph.seq z = rw (same_on a (i.standing.on u a e₀), same_linked z l) at h in
        rw (same x (i.clearing.used u x c), same_linked z l) (i.clearing.past u x a z c e₀ l h₀);
  }

  -- who loads now is thread 0, and it loads f
  only : (u x : ℕ) → upd (λ w. loads (s.threads w)) 0 (some f) u ≡ some x → (u ≡ 0) × (x ≡ f)
  only u x e = ⊎_elim (λ h. (h.0, cc)) (λ h. absurd (h.0 (i.loading.loader u x (sym h.1 ∙ e)))) (upd_cases (λ w. loads (s.threads w)) 0 (some f) u)

  loaded_loading : Loads q seq' (upd s.graph.next f 0) g.linked s.graph.executing (upd (λ w. loads (s.threads w)) 0 (some f))
  loaded_loading = record {
    loader = λ u x e. (only u x e).0;
    newest = λ u x e. upd_at s.graph.seq f q x (only u x e).1;
    used = λ u x e. let h = upd_at s.graph.seq f q x (only u x e).1 in omega arith;
    out = λ u x e. rw (only u x e).1 f_out;
    waiting = λ u x e. rw (only u x e).1 (fails (s.graph.executing f) (λ k. let w = i.executing.used f k in let z = free_node.2 in omega arith));
    ends = λ u x e. upd_at s.graph.next f 0 x (only u x e).1;
  }

  loaded_partition : Partition seq' g.linked (upd (λ w. loads (s.threads w)) 0 (some f)) (λ u. clears (s.threads u))
  loaded_partition = record {
    one_of = λ x u. ⊎_elim
        (λ h. inr (inl (0, upd_same (λ w. loads (s.threads w)) 0 (some f) ∙ ap some (sym h.0))))
        (λ h. ⊎_elim inl (⊎_elim (λ w. absurd (none_some (loads (s.threads 0)) (ap loads here) (ap (λ (k : ℕ). loads (s.threads k)) (sym (i.loading.loader w.0 x w.1)) ∙ w.1))) (λ w. inr (inr w))) (i.partition.one_of x (rw h.1 at u)))
        (upd_cases s.graph.seq f q x);
  }

  pending_new : (y p : ℕ) → Pending s.graph.seq g.linked at₀ (λ u. clears (s.threads u)) y p → Pending seq' g.linked at' (λ u. clears (s.threads u)) y p
  pending_new y p = ⊎_elim inl (λ k. inr (k.0, k.1, k.2, sym (stays at₀ (λ w. clears (s.threads w)) 0 (some 0) (ap clears here) k.0 y k.2) ∙ k.3, rw (same_on k.1 (i.standing.on k.0 k.1 k.3)) k.4))

  pending_old : (y p : ℕ) → Pending seq' g.linked at' (λ u. clears (s.threads u)) y p → Pending s.graph.seq g.linked at₀ (λ u. clears (s.threads u)) y p
  pending_old y p = ⊎_elim inl (λ k. let e : at₀ k.0 ≡ some k.1 = stays at₀ (λ w. clears (s.threads w)) 0 (some 0) (ap clears here) k.0 y k.2 ∙ k.3 in inr (k.0, k.1, k.2, e, rw (same_on k.1 (i.standing.on k.0 k.1 e)) at k.4))

  -- between nodes that keep their sequence numbers, waiting is the same before and after
  waited_new : (x y b p : ℕ) → 1 ≤ s.graph.seq x → Waited o s.graph.seq g.linked at₀ (λ u. clears (s.threads u)) x y b p → Waited o seq' g.linked at' (λ u. clears (s.threads u)) x y b p
  waited_new x y b p u w = record {
    used = rw (same y w.used) w.used;
    earlier = rw (same y w.used) w.earlier;
    dependent = rw (same y w.used, same x u) w.dependent;
    pending = pending_new y p w.pending;
  }

  waited_old : (x y b p : ℕ) → 1 ≤ s.graph.seq x → b ≤ q → Waited o seq' g.linked at' (λ u. clears (s.threads u)) x y b p → Waited o s.graph.seq g.linked at₀ (λ u. clears (s.threads u)) x y b p
  waited_old x y b p u c w =
      let e = old y w.earlier in
      record {
        used = rw e at w.used;
        earlier = rw e at w.earlier;
        dependent = rw (e, same x u) at w.dependent;
        pending = pending_old y p w.pending;
      }
    where
      old : (y : ℕ) → seq' y < b → seq' y ≡ s.graph.seq y
      old y h = ⊎_elim (λ k. let e = k.1 in absurd (omega arith)) (λ k. k.1) (upd_cases s.graph.seq f q y)

  loaded_sets : Sets o seq' g.linked s.graph.executing s.graph.waits at' (upd (λ w. loads (s.threads w)) 0 (some f)) (λ u. clears (s.threads u))
  loaded_sets = record {
    unused_empty = λ x y e. ⊎_elim (λ h. let k = h.1 in absurd (omega arith)) (λ h. i.sets.unused_empty x y (sym h.1 ∙ e)) (upd_cases s.graph.seq f q x);
    executing_empty = i.sets.executing_empty;
    linked_sound = λ x y l w. rw (same_linked x l) (waited_new x y (s.graph.seq x) (s.graph.seq x) (i.order.linked_used x l) (i.sets.linked_sound x y l w));
    linked_complete = λ x y l w. i.sets.linked_complete x y l (waited_old x y (s.graph.seq x) (s.graph.seq x) (i.order.linked_used x l) (let b = i.order.below x in omega arith) (rw (same_linked x l) at w));
    loading_sound = λ u x l y e h w. absurd (true_false (s.graph.waits x y) w (i.sets.unused_empty x y (ap s.graph.seq (only u x e).1 ∙ free_node.2)));
    loading_complete = λ u x l y e h w. absurd (nothing_before l (at_head u l (only u x e).0 h) y w.used w.earlier);
  }
    where
      at_head : (u l : ℕ) → u ≡ 0 → at' u ≡ some l → l ≡ 0
      at_head u l z h = let k = upd_at at₀ 0 (some 0) u z in cc

      nothing_before : (l : ℕ) → l ≡ 0 → (y : ℕ) → 1 ≤ seq' y → seq' y < suc (seq' l) → ⊥
      nothing_before l z y u h = let e : seq' l ≡ 0 = ap seq' z ∙ (same_on 0 (inl refl) ∙ i.order.head_seq) in omega arith

  loaded_progress : Progress q seq' g.written g.removed (λ u. done (s.threads u))
  loaded_progress = record {
    done_written = λ u x e. rw (same x (done_used o s g i u x e)) (i.progress.done_written u x e);
    written_done = λ c w. ⊎_elim inl (λ k. inr (k.0, k.1, k.2, same k.1 (done_used o s g i k.0 k.1 k.2) ∙ k.3)) (i.progress.written_done c w);
    removed_written = i.progress.removed_written;
    removed_loaded = λ c r. let k = i.progress.removed_loaded c r in omega arith;
    removed_gone = λ x u. ⊎_elim (λ h. rw h.1 (fails (g.removed q) (λ r. let k = i.progress.removed_loaded q r in omega arith))) (λ h. rw h.1 (i.progress.removed_gone x (rw h.1 at u))) (upd_cases s.graph.seq f q x);
    accounted = λ c a b. ⊎_elim (λ h. inr (f, upd_same s.graph.seq f q ∙ sym h.0)) (λ h. let n = h.0 in ⊎_elim inl (λ k. let e = k.1 in inr (k.0, same k.0 (omega arith) ∙ e)) (i.progress.accounted c a (omega (arith, n)))) (eqb_cases c q);
  }

  loaded_service : Consistent o seq' g.written s.service (λ u. looked (s.threads u)) (λ u. found (s.threads u))
  loaded_service = lookups_consistent i.service seq' (λ u. looked (s.threads u)) (λ u. found (s.threads u)) (λ u x e. rw (same x (executes_used o s g i u x (looked_own (s.threads u) x e))) (i.service.look u x e))

  pub node_loaded : Inv o (load s) (taken g)
  unfolding load move_to set_locked set_loaded set_seq set_next set_free
  node_loaded = record {
    order = loaded_order;
    free_list = loaded_free;
    standing = rw (upd_map at s.threads 0 v) (entered i.standing 0 (ap at here) open_head);
    executing = rw (kept executes s.threads 0 v (sym (ap executes here))) loaded_executing;
    walking = walks_moved s.threads 0 v (λ x b p. absurd (none_some none refl p)) loaded_walking;
    clearing = rw (kept clears s.threads 0 v (sym (ap clears here)), upd_map at s.threads 0 v) loaded_clearing;
    loading = rw (upd_map loads s.threads 0 v) loaded_loading;
    partition = rw (upd_map loads s.threads 0 v, kept clears s.threads 0 v (sym (ap clears here))) loaded_partition;
    sets = rw (upd_map loads s.threads 0 v, kept clears s.threads 0 v (sym (ap clears here)), upd_map at s.threads 0 v) loaded_sets;
    progress = rw (kept done s.threads 0 v (sym (ap done here))) loaded_progress;
    service = rw (kept looked s.threads 0 v (sym (ap looked here)), kept found s.threads 0 v (sym (ap found here))) loaded_service;
    roles = loader_role v refl i.roles;
  }

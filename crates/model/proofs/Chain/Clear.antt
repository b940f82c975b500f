-- A clearing worker steps on and takes its own node out of the set of the node that it comes to: one set loses one member, and the worker
-- now stands there. Assumes nothing.
use Rattle.std.specs.Prelude.{ℕ, suc, ◌≤◌, ◌<◌, ◌≡◌, Bool, true, false}
use Rattle.std.proofs.Common.{arith, sym, ap, ◌∙◌, inl, inr, ⊎_elim}
use Rattle.std.proofs.Math.Path.{refl}
use Rattle.std.proofs.Math.Option.{Option, none, some}
use Rattle.node_set.specs.declared.Node.{Node}
use Rattle.model.specs.declared.Thread.{Thread}
use Rattle.model.specs.declared.Thread.TheVariants.{Clearing}
use Rattle.model.specs.Upd.{upd}
use Rattle.model.specs.Setup.{Setup}
use Rattle.model.specs.Graph.{set_locked, set_waits}
use Rattle.model.specs.Step.{State, node, step_on, move_to}
use Rattle.command.proofs.Tests.{fails, true_false, none_some}
use Rattle.model.proofs.Upd.{upd_same, upd_other, upd_at, upd_cases, upd_map}
use Rattle.model.proofs.Chain.Invariant.{Ghost, Inv, On, Clears, Pending, Waited, Sets, at, loads, executes, clears, done, looked, found}
use Rattle.model.proofs.Chain.Kept.{kept, stays}
use Rattle.model.proofs.Chain.StepOn.{stepped, next_alone}
use Rattle.model.proofs.Chain.Moves.{worker_role, walks_moved}
use Rattle.model.proofs.Chain.Facts.{on_linked}

module _ (o : Setup) (s : State) (g : Ghost) (i : Inv o s g) (t : ℕ) (low : 1 ≤ t) (high : t ≤ o.largest) (a x : Node)
    (here : s.threads t ≡ Clearing a x) (more : s.graph.next a.0 ≡ 0 → ⊥) (unlocked : s.graph.locked (s.graph.next a.0) ≡ false) where
  abbrev n : ℕ
  n = x.0

  abbrev l : ℕ
  l = a.0

  abbrev y : ℕ
  y = s.graph.next l

  abbrev at₀ : ℕ → Option ℕ
  at₀ u = at (s.threads u)

  abbrev at' : ℕ → Option ℕ
  at' = upd at₀ t (some y)

  abbrev clears₀ : ℕ → Option ℕ
  clears₀ u = clears (s.threads u)

  abbrev loads₀ : ℕ → Option ℕ
  loads₀ u = loads (s.threads u)

  abbrev waits' : ℕ → ℕ → Bool
  waits' = upd s.graph.waits y (upd (s.graph.waits y) n false)

  on_l : On g.linked l
  on_l = i.standing.on t l (ap at here)

  y_linked : g.linked y ≡ true
  y_linked = i.order.next_linked l on_l more

  later : s.graph.seq l < s.graph.seq y
  later = i.order.next_later l on_l more

  -- behind l, every node of the chain but y comes after y
  after_y : (z : ℕ) → g.linked z ≡ true → (z ≡ y → ⊥) → s.graph.seq l < s.graph.seq z → s.graph.seq y < s.graph.seq z
  after_y z h other lt =
      let le = i.order.next_first l on_l more z h lt in
      let ne : s.graph.seq y ≡ s.graph.seq z → ⊥ = λ q. other (sym (i.order.distinct y z (i.order.linked_used y y_linked) q)) in
      omega (arith, ne)

  -- whoever clears n is thread t, and it stands on y now
  mine : (u : ℕ) → clears₀ u ≡ some n → u ≡ t
  mine u c = i.clearing.alone u t n c (ap clears here)

  own_is : (u m : ℕ) → u ≡ t → clears₀ u ≡ some m → m ≡ n
  own_is u m q c = let j : clears₀ t ≡ some m = ap clears₀ (sym q) ∙ c in let k = ap clears here in cc

  was_at : (u b : ℕ) → u ≡ t → at₀ u ≡ some b → b ≡ l
  was_at u b q e = let j : at₀ t ≡ some b = ap at₀ (sym q) ∙ e in let k = ap at here in cc

  now_at : (u b : ℕ) → u ≡ t → at' u ≡ some b → b ≡ y
  now_at u b q e = let k = upd_at at₀ t (some y) u q in cc

  -- the loader is another thread and stays where it stands
  loader_still : (u z : ℕ) → loads₀ u ≡ some z → at₀ u ≡ at' u
  loader_still = stays at₀ loads₀ t (some y) (ap loads here)

  -- ---- the sets

  -- a set is as it was, but for n in the set of y
  waits_same : (z m : ℕ) → ((z ≡ y) × (m ≡ n) → ⊥) → waits' z m ≡ s.graph.waits z m
  waits_same z m other =
      ⊎_elim (λ q. ap (λ (f : ℕ → Bool). f m) q.1 ∙ (upd_other (s.graph.waits y) n false m (λ e. other (q.0, e)) ∙ ap (λ (k : ℕ). s.graph.waits k m) (sym q.0)))
      (λ q. ap (λ (f : ℕ → Bool). f m) q.1) (upd_cases s.graph.waits y (upd (s.graph.waits y) n false) z)

  taken_out : waits' y n ≡ false
  taken_out = ap (λ (f : ℕ → Bool). f n) (upd_same s.graph.waits y (upd (s.graph.waits y) n false)) ∙ upd_same (s.graph.waits y) n false

  not_both : (z m : ℕ) → waits' z m ≡ true → (z ≡ y) × (m ≡ n) → ⊥
  not_both z m w q = true_false (waits' z m) w (rw (q.0, q.1) taken_out)

  fewer : (z m : ℕ) → waits' z m ≡ true → s.graph.waits z m ≡ true
  fewer z m w = sym (waits_same z m (not_both z m w)) ∙ w

  -- what is pending before p is so after the step, if the worker's new place is before p too, and conversely
  pending_new : (m p : ℕ) → (m ≡ n → s.graph.seq l < p → s.graph.seq y < p) → Pending s.graph.seq g.linked at₀ clears₀ m p → Pending s.graph.seq g.linked at' clears₀ m p
  pending_new m p moved = ⊎_elim inl (λ k. inr (new k))
    where
      new : (u : ℕ) × (b : ℕ) × (clears₀ u ≡ some m) × (at₀ u ≡ some b) × (s.graph.seq b < p) → (u : ℕ) × (b : ℕ) × (clears₀ u ≡ some m) × (at' u ≡ some b) × (s.graph.seq b < p)
      new k = ⊎_elim (λ q. (k.0, y, k.2, q.1, moved (own_is k.0 m q.0 k.2) (rw (was_at k.0 k.1 q.0 k.3) at k.4))) (λ q. (k.0, k.1, k.2, q.1 ∙ k.3, k.4)) (upd_cases at₀ t (some y) k.0)

  pending_old : (m p : ℕ) → Pending s.graph.seq g.linked at' clears₀ m p → Pending s.graph.seq g.linked at₀ clears₀ m p
  pending_old m p = ⊎_elim inl (λ k. inr (old k))
    where
      old : (u : ℕ) × (b : ℕ) × (clears₀ u ≡ some m) × (at' u ≡ some b) × (s.graph.seq b < p) → (u : ℕ) × (b : ℕ) × (clears₀ u ≡ some m) × (at₀ u ≡ some b) × (s.graph.seq b < p)
      old k = ⊎_elim (λ q. (k.0, l, k.2, ap at₀ q.0 ∙ ap at here, let h : s.graph.seq y < p = rw (now_at k.0 k.1 q.0 k.3) at k.4 in let c = later in omega arith)) (λ q. (k.0, k.1, k.2, sym q.1 ∙ k.3, k.4)) (upd_cases at₀ t (some y) k.0)

  waited_new : (z m b p : ℕ) → (m ≡ n → s.graph.seq l < p → s.graph.seq y < p) → Waited o s.graph.seq g.linked at₀ clears₀ z m b p → Waited o s.graph.seq g.linked at' clears₀ z m b p
  waited_new z m b p moved w = record { used = w.used; earlier = w.earlier; dependent = w.dependent; pending = pending_new m p moved w.pending }

  waited_old : (z m b p : ℕ) → Waited o s.graph.seq g.linked at' clears₀ z m b p → Waited o s.graph.seq g.linked at₀ clears₀ z m b p
  waited_old z m b p w = record { used = w.used; earlier = w.earlier; dependent = w.dependent; pending = pending_old m p w.pending }

  -- y no longer waits for n: n is out of the chain, and its worker stands on y
  no_wait : Waited o s.graph.seq g.linked at' clears₀ y n (s.graph.seq y) (s.graph.seq y) → ⊥
  no_wait w = ⊎_elim (λ h. true_false (g.linked n) h (i.clearing.out t n (ap clears here))) (λ (k : (u : ℕ) × (b : ℕ) × (clears₀ u ≡ some n) × (at' u ≡ some b) × (s.graph.seq b < s.graph.seq y)). let e = ap s.graph.seq (now_at k.0 k.1 (mine k.0 k.2) k.3) in let h = k.4 in omega arith) w.pending

  -- where the loader stands, it stands behind the worker's new place or before its old one
  loader_moved : (u z p : ℕ) → loads₀ u ≡ some z → at' u ≡ some p → s.graph.seq l < s.graph.seq p → s.graph.seq y < s.graph.seq p
  loader_moved u z p e h lt =
      let h₀ : at₀ u ≡ some p = loader_still u z e ∙ h in
      let on_p = i.standing.on u p h₀ in
      after_y p (on_linked i.order p on_p (omega arith)) (λ q. next_alone i.order i.standing t l (ap at here) more unlocked u (h₀ ∙ ap some q)) lt

  loading_other : (u z m : ℕ) → loads₀ u ≡ some z → (z ≡ y) × (m ≡ n) → ⊥
  loading_other u z m e q = true_false (g.linked y) y_linked (ap g.linked (sym q.0) ∙ i.loading.out u z e)

  cleared_sets : Sets o s.graph.seq g.linked s.graph.executing waits' at' loads₀ clears₀
  cleared_sets = record {
    unused_empty = λ z m e. fails (waits' z m) (λ w. true_false (s.graph.waits z m) (fewer z m w) (i.sets.unused_empty z m e));
    executing_empty = λ z m e. fails (waits' z m) (λ w. true_false (s.graph.waits z m) (fewer z m w) (i.sets.executing_empty z m e));
    linked_sound = λ z m h w. waited_new z m (s.graph.seq z) (s.graph.seq z) (λ e lt. after_y z h (λ q. not_both z m w (q, e)) lt) (i.sets.linked_sound z m h (fewer z m w));
    linked_complete = λ z m h w. waits_same z m (λ q. no_wait (rw (q.0, q.1) at w)) ∙ i.sets.linked_complete z m h (waited_old z m (s.graph.seq z) (s.graph.seq z) w);
    loading_sound = λ u z p m e h w. waited_new z m (suc (s.graph.seq p)) (s.graph.seq p) (λ q lt. loader_moved u z p e h lt) (i.sets.loading_sound u z p m e (loader_still u z e ∙ h) (fewer z m w));
    loading_complete = λ u z p m e h w. waits_same z m (loading_other u z m e) ∙ i.sets.loading_complete u z p m e (loader_still u z e ∙ h) (waited_old z m (suc (s.graph.seq p)) (s.graph.seq p) w);
  }

  cleared_clearing : Clears s.graph.seq g.linked s.graph.executing clears₀ at'
  cleared_clearing = record {
    out = i.clearing.out;
    used = i.clearing.used;
    own_executing = i.clearing.own_executing;
    alone = i.clearing.alone;
    past = λ u z b w c e h lt. ⊎_elim (λ q. i.clearing.past u z l w c (ap at₀ q.0 ∙ ap at here) h (let d = ap s.graph.seq (now_at u b q.0 e) in let k = later in omega arith)) (λ q. i.clearing.past u z b w c (sym q.1 ∙ e) h lt) (upd_cases at₀ t (some y) u);
  }

  pub worker_cleared : Inv o (move_to t (Clearing (node y) (node n)) (set_waits y (upd (s.graph.waits y) n false) (step_on l y s.graph)) s) g
  unfolding move_to set_waits step_on set_locked
  worker_cleared =
      let v : Thread = Clearing (node y) (node n) in
      record {
        order = i.order;
        free_list = i.free_list;
        standing = rw (upd_map at s.threads t v) (stepped i.order i.standing t l (ap at here) more unlocked);
        executing = rw (kept executes s.threads t v (sym (ap executes here))) i.executing;
        walking = walks_moved s.threads t v (λ z b p. absurd (none_some none refl p)) i.walking;
        clearing = rw (kept clears s.threads t v (sym (ap clears here)), upd_map at s.threads t v) cleared_clearing;
        loading = rw (kept loads s.threads t v (sym (ap loads here))) i.loading;
        partition = rw (kept loads s.threads t v (sym (ap loads here)), kept clears s.threads t v (sym (ap clears here))) i.partition;
        sets = rw (kept loads s.threads t v (sym (ap loads here)), kept clears s.threads t v (sym (ap clears here)), upd_map at s.threads t v) cleared_sets;
        progress = rw (kept done s.threads t v (sym (ap done here))) i.progress;
        service = rw (kept looked s.threads t v (sym (ap looked here)), kept found s.threads t v (sym (ap found here))) i.service;
        roles = worker_role t v low high refl i.roles;
      }

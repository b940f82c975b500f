-- The loader steps on and adds the node to the new node's set if the commands are dependent: exactly that node is new at or before the
-- loader, so the set is right again. Assumes nothing.
use Prim.Native.Nat.{ℕ, suc, ◌<◌}
use Rattle.std.proofs.Common.{arith, ◌∙◌, inl, inr, ⊎_elim}
use Rattle.std.specs.Prelude.{◌≡◌, Bool, cond}
use Rattle.std.proofs.Math.Path.{refl, sym, ap}
use Rattle.std.proofs.Math.Bool.{true, false}
use Rattle.std.proofs.Math.Option.{Option, none, some}
use Rattle.node_set.specs.declared.Node.{Node}
use Rattle.model.specs.declared.Thread.{Thread}
use Rattle.model.specs.declared.Thread.TheVariants.{Loading}
use Rattle.model.specs.Upd.{upd}
use Rattle.model.specs.Setup.{Setup, both_dependent, command_at}
use Rattle.model.specs.Graph.{graph_of, set_locked, set_waits}
use Rattle.model.specs.Step.{State, node, step_on, add_dependence, command_of, move_to}
use Rattle.command.proofs.Tests.{fails, true_false, none_some, eqb_cases}
use Rattle.model.proofs.Upd.{upd_same, upd_other, upd_at, upd_map}
use Rattle.model.proofs.Chain.Invariant.{Ghost, Inv, On, Pending, Waited, Sets, at, loads, executes, clears, done, looked, found}
use Rattle.model.proofs.Chain.Kept.{kept, stays, clears_kept, waited_kept}
use Rattle.model.proofs.Chain.StepOn.{stepped}
use Rattle.model.proofs.Chain.Moves.{loader_role, walks_moved}
use Rattle.model.proofs.Chain.Facts.{on_distinct, on_linked, on_before}

module _ (o : Setup) (s : State) (g : Ghost) (i : Inv o s g) (a x : Node) (here : s.threads 0 ≡ Loading a x)
    (more : s.graph.next a.0 ≡ 0 → ⊥) (unlocked : s.graph.locked (s.graph.next a.0) ≡ false) where
  abbrev y : ℕ
  y = s.graph.next a.0

  abbrev at₀ : ℕ → Option ℕ
  at₀ u = at (s.threads u)

  abbrev at' : ℕ → Option ℕ
  at' = upd at₀ 0 (some y)

  abbrev clears₀ : ℕ → Option ℕ
  clears₀ u = clears (s.threads u)

  abbrev loads₀ : ℕ → Option ℕ
  loads₀ u = loads (s.threads u)

  on_a : On g.linked a.0
  on_a = i.standing.on 0 a.0 (ap at here)

  linked_y : g.linked y ≡ true
  linked_y = i.order.next_linked a.0 on_a more

  later : s.graph.seq a.0 < s.graph.seq y
  later = i.order.next_later a.0 on_a more

  -- whoever clears is another thread and stays where it stands
  still : (u z : ℕ) → clears₀ u ≡ some z → at₀ u ≡ at' u
  still = stays at₀ clears₀ 0 (some y) (ap clears here)

  still' : (u z : ℕ) → clears₀ u ≡ some z → at' u ≡ at₀ u
  still' u z e = sym (still u z e)

  -- the new node is not the one stepped on, and is outside the chain
  linked_other : (z : ℕ) → g.linked z ≡ true → z ≡ x.0 → ⊥
  linked_other z l e = true_false (g.linked z) l (ap g.linked e ∙ i.loading.out 0 x.0 (ap loads here))

  -- who loads is thread 0, with the new node
  only : (u z : ℕ) → loads₀ u ≡ some z → (u ≡ 0) × (z ≡ x.0)
  only u z e = let k = i.loading.loader u z e in (k, let h : loads₀ 0 ≡ some z = ap loads₀ (sym k) ∙ e in let j = ap loads here in cc)

  at_y : (u l : ℕ) → u ≡ 0 → at' u ≡ some l → l ≡ y
  at_y u l z h = let k = upd_at at₀ 0 (some y) u z in cc

  -- a clearing worker that stands before y stands before the loader's old node, and its own node lies before that
  clearer_before : (u n b : ℕ) → clears₀ u ≡ some n → at₀ u ≡ some b → s.graph.seq b < s.graph.seq y → (s.graph.seq b < s.graph.seq a.0) × (s.graph.seq n < s.graph.seq a.0)
  clearer_before u n b c e h =
      let on_b = i.standing.on u b e in
      let le = on_before i.order a.0 on_a more b on_b h in
      let ne : s.graph.seq b ≡ s.graph.seq a.0 → ⊥ = λ q. other (on_distinct i.order b a.0 on_b on_a q) in
      let lt : s.graph.seq b < s.graph.seq a.0 = omega (arith, ne) in
      (lt, i.clearing.past u n b a.0 c e (on_linked i.order a.0 on_a (omega arith)) lt)
    where
      other : b ≡ a.0 → ⊥
      other q = none_some (clears₀ 0) (ap clears here) (ap clears₀ (sym (i.standing.alone u 0 b e (ap at here ∙ ap some (sym q)))) ∙ c)

  -- the sets, for any new sets that differ in just this
  module _ (waits' : ℕ → ℕ → Bool) (others : (z n : ℕ) → (z ≡ x.0 → ⊥) → waits' z n ≡ s.graph.waits z n)
      (own_others : (n : ℕ) → (n ≡ y → ⊥) → waits' x.0 n ≡ s.graph.waits x.0 n)
      (own_new : waits' x.0 y ≡ both_dependent (command_at o.commands (s.graph.seq y)) (command_at o.commands (s.graph.seq x.0))) where
    abbrev Waits : ℕ → ℕ → ℕ → Type 0
    Waits n b p = Waited o s.graph.seq g.linked at₀ clears₀ x.0 n b p

    abbrev Waits' : ℕ → ℕ → ℕ → Type 0
    Waits' n b p = Waited o s.graph.seq g.linked at' clears₀ x.0 n b p

    -- what was at or before the old node is before the new one
    grown : (n : ℕ) → Waits n (suc (s.graph.seq a.0)) (s.graph.seq a.0) → Waits' n (suc (s.graph.seq y)) (s.graph.seq y)
    grown n w = record {
      used = w.used;
      earlier = let h = w.earlier in let l = later in omega arith;
      dependent = w.dependent;
      pending = far n w.pending;
    }
      where
        far : (n : ℕ) → Pending s.graph.seq g.linked at₀ clears₀ n (s.graph.seq a.0) → Pending s.graph.seq g.linked at' clears₀ n (s.graph.seq y)
        far n = ⊎_elim inl (λ k. inr (k.0, k.1, k.2, still' k.0 n k.2 ∙ k.3, let h = k.4 in let l = later in omega arith))

    -- what is before the new node, and is not it, was at or before the old one
    shrunk : (n : ℕ) → (n ≡ y → ⊥) → Waits' n (suc (s.graph.seq y)) (s.graph.seq y) → Waits n (suc (s.graph.seq a.0)) (s.graph.seq a.0)
    shrunk n other w = record { used = w.used; earlier = (near w.pending).0; dependent = w.dependent; pending = (near w.pending).1 }
      where
        near : Pending s.graph.seq g.linked at' clears₀ n (s.graph.seq y) → (s.graph.seq n < suc (s.graph.seq a.0)) × Pending s.graph.seq g.linked at₀ clears₀ n (s.graph.seq a.0)
        near = ⊎_elim
            (λ l. let e = w.earlier in let ne : s.graph.seq n ≡ s.graph.seq y → ⊥ = λ q. other (i.order.distinct n y w.used q) in let h = on_before i.order a.0 on_a more n (inr l) (omega (arith, ne)) in (omega arith, inl l))
            (λ k. let e = still k.0 n k.2 ∙ k.3 in let c = clearer_before k.0 n k.1 k.2 e k.4 in (let h = c.1 in omega arith, inr (k.0, k.1, k.2, e, c.0)))

    loading_sound : (u z l n : ℕ) → loads₀ u ≡ some z → at' u ≡ some l → waits' z n ≡ true → Waited o s.graph.seq g.linked at' clears₀ z n (suc (s.graph.seq l)) (s.graph.seq l)
    loading_sound u z l n e h w =
        rw (at_y u l (only u z e).0 h, (only u z e).1)
        (⊎_elim (λ q. rw q.0 (record { used = i.order.linked_used y linked_y; earlier = omega arith; dependent = sym own_new ∙ (ap (waits' x.0) (sym q.0) ∙ own); pending = inl linked_y }))
        (λ q. grown n (i.sets.loading_sound 0 x.0 a.0 n (ap loads here) (ap at here) (sym (own_others n q.0) ∙ own))) (eqb_cases n y))
      where
        own : waits' x.0 n ≡ true
        own = ap (λ (k : ℕ). waits' k n) (sym (only u z e).1) ∙ w

    loading_complete : (u z l n : ℕ) → loads₀ u ≡ some z → at' u ≡ some l → Waited o s.graph.seq g.linked at' clears₀ z n (suc (s.graph.seq l)) (s.graph.seq l) → waits' z n ≡ true
    loading_complete u z l n e h w =
        rw (only u z e).1
        (⊎_elim (λ q. rw q.0 (own_new ∙ (rw q.0 at own.dependent)))
        (λ q. own_others n q.0 ∙ i.sets.loading_complete 0 x.0 a.0 n (ap loads here) (ap at here) (shrunk n q.0 own)) (eqb_cases n y))
      where
        own : Waits' n (suc (s.graph.seq y)) (s.graph.seq y)
        own = rw (at_y u l (only u z e).0 h, (only u z e).1) at w

    walked_sets : Sets o s.graph.seq g.linked s.graph.executing waits' at' loads₀ clears₀
    walked_sets = record {
      unused_empty = λ z n e. others z n (λ q. let u = i.loading.used 0 x.0 (ap loads here) in let h = ap s.graph.seq q in absurd (omega arith)) ∙ i.sets.unused_empty z n e;
      executing_empty = λ z n e. others z n (λ q. true_false (s.graph.executing z) e (ap s.graph.executing q ∙ i.loading.waiting 0 x.0 (ap loads here))) ∙ i.sets.executing_empty z n e;
      linked_sound = λ z n l w. waited_kept o s.graph.seq g.linked clears₀ at₀ at' still z n (s.graph.seq z) (s.graph.seq z) (i.sets.linked_sound z n l (sym (others z n (linked_other z l)) ∙ w));
      linked_complete = λ z n l w. others z n (linked_other z l) ∙ i.sets.linked_complete z n l (waited_kept o s.graph.seq g.linked clears₀ at' at₀ still' z n (s.graph.seq z) (s.graph.seq z) w);
      loading_sound = loading_sound;
      loading_complete = loading_complete;
    }

    walked : Inv o (move_to 0 (Loading (node y) (node x.0)) (graph_of s.graph.next s.graph.seq s.graph.executing (upd (upd s.graph.locked y true) a.0 false) waits' s.graph.free s.graph.loaded) s) g
    unfolding move_to
    walked =
        let v : Thread = Loading (node y) (node x.0) in
        record {
          order = i.order;
          free_list = i.free_list;
          standing = rw (upd_map at s.threads 0 v) (stepped i.order i.standing 0 a.0 (ap at here) more unlocked);
          executing = rw (kept executes s.threads 0 v (sym (ap executes here))) i.executing;
          walking = walks_moved s.threads 0 v (λ z b p. absurd (none_some none refl p)) i.walking;
          clearing = rw (kept clears s.threads 0 v (sym (ap clears here)), upd_map at s.threads 0 v) (clears_kept s.graph.seq g.linked s.graph.executing clears₀ at₀ at' still i.clearing);
          loading = rw (kept loads s.threads 0 v (sym (ap loads here))) i.loading;
          partition = rw (kept loads s.threads 0 v (sym (ap loads here)), kept clears s.threads 0 v (sym (ap clears here))) i.partition;
          sets = rw (kept loads s.threads 0 v (sym (ap loads here)), kept clears s.threads 0 v (sym (ap clears here)), upd_map at s.threads 0 v) walked_sets;
          progress = rw (kept done s.threads 0 v (sym (ap done here))) i.progress;
          service = rw (kept looked s.threads 0 v (sym (ap looked here)), kept found s.threads 0 v (sym (ap found here))) i.service;
          roles = loader_role v refl i.roles;
        }

  pub loader_stepped : Inv o (move_to 0 (Loading (node y) (node x.0)) (add_dependence o x.0 y (step_on a.0 y s.graph)) s) g
  unfolding add_dependence command_of step_on set_locked set_waits
  loader_stepped = go (both_dependent (command_at o.commands (s.graph.seq y)) (command_at o.commands (s.graph.seq x.0))) refl
    where
      go : (b : Bool) → both_dependent (command_at o.commands (s.graph.seq y)) (command_at o.commands (s.graph.seq x.0)) ≡ b →
          Inv o (move_to 0 (Loading (node y) (node x.0)) (cond b (set_waits x.0 (upd (s.graph.waits x.0) y true) (step_on a.0 y s.graph)) (step_on a.0 y s.graph)) s) g
      go true e = walked (upd s.graph.waits x.0 (upd (s.graph.waits x.0) y true))
          (λ z n h. ap (λ (f : ℕ → Bool). f n) (upd_other s.graph.waits x.0 (upd (s.graph.waits x.0) y true) z h))
          (λ n h. ap (λ (f : ℕ → Bool). f n) (upd_same s.graph.waits x.0 (upd (s.graph.waits x.0) y true)) ∙ upd_other (s.graph.waits x.0) y true n h)
          (ap (λ (f : ℕ → Bool). f y) (upd_same s.graph.waits x.0 (upd (s.graph.waits x.0) y true)) ∙ (upd_same (s.graph.waits x.0) y true ∙ sym e))
      go false e = walked s.graph.waits (λ z n h. refl) (λ n h. refl)
          (fails (s.graph.waits x.0 y) (λ w. let h = (i.sets.loading_sound 0 x.0 a.0 y (ap loads here) (ap at here) w).earlier in let l = later in omega arith) ∙ sym e)

-- A searcher takes a ready node: it steps on, marks the node executing, unlocks it and holds it. Assumes nothing.
use Rattle.std.specs.Prelude.{ℕ, ◌≤◌, ◌≡◌, true, false, not, ◌⊎◌}
use Rattle.std.proofs.Common.{arith, sym, ap, ◌∙◌, ⊎_elim}
use borrow.Author.Tests.{not-true}
use Rattle.std.proofs.Math.Path.{refl}
use Rattle.std.proofs.Math.Bool.{and-eq-true_iff}
use Rattle.std.proofs.Math.Option.{none, some}
use Rattle.node_set.specs.declared.Node.{Node}
use Rattle.node_set.specs.Members.{none_below}
use Rattle.model.specs.declared.Thread.{Thread}
use Rattle.model.specs.declared.Thread.TheVariants.{Searching, Holding}
use Rattle.model.specs.Upd.{upd}
use Rattle.model.specs.Setup.{Setup}
use Rattle.model.specs.Graph.{set_locked, set_executing}
use Rattle.model.specs.Step.{State, node, ready, step_on, move_to}
use Rattle.model.specs.Statement.{Accepted}
use Rattle.command.proofs.Tests.{fails, true_false, none_some}
use Rattle.model.proofs.Upd.{upd_same, upd_other, upd_at, upd_cases, upd_map, upd_upd}
use Rattle.model.proofs.Chain.Invariant.{Ghost, Inv, Standing, Executing, Clears, Loads, Sets, at, loads, executes, clears, done, looked, found}
use Rattle.model.proofs.Chain.Kept.{kept, sets_kept, clears_kept, stays}
use Rattle.model.proofs.Chain.StepOn.{stepped}
use Rattle.model.proofs.Chain.Stand.{left}
use Rattle.model.proofs.Chain.Moves.{worker_role, walks_moved}
use Rattle.node_set.proofs.Below.{none_below_all_fail}

module _ (o : Setup) (acc : Accepted o) (s : State) (g : Ghost) (i : Inv o s g) (t : ℕ) (low : 1 ≤ t) (high : t ≤ o.largest)
    (a : Node) (here : s.threads t ≡ Searching a) (more : s.graph.next a.0 ≡ 0 → ⊥) (unlocked : s.graph.locked (s.graph.next a.0) ≡ false)
    (is_ready : ready s.graph (s.graph.next a.0) ≡ true) where
  abbrev y : ℕ
  y = s.graph.next a.0

  linked_y : g.linked y ≡ true
  linked_y = i.order.next_linked a.0 (i.standing.on t a.0 (ap at here)) more

  waiting_y : s.graph.executing y ≡ false
  unfolding ready
  waiting_y = not-true (s.graph.executing y) ((and-eq-true_iff (not (s.graph.executing y)) (none_below 192 (s.graph.waits y))).0 is_ready).0

  -- a member of the set would be a node of at most the graph size, and none of these is a member
  empty_y : (n : ℕ) → s.graph.waits y n ≡ false
  unfolding ready
  empty_y n =
      fails (s.graph.waits y n) (λ e.
      let small = i.order.used_size n (i.sets.linked_sound y n linked_y e).used in
      let size = acc.size.1 in
      true_false (s.graph.waits y n) e (none_below_all_fail 192 (s.graph.waits y) ((and-eq-true_iff (not (s.graph.executing y)) (none_below 192 (s.graph.waits y))).0 is_ready).1 n (omega arith)))

  taken_standing : Standing g.linked (upd (upd (upd s.graph.locked y true) a.0 false) y false) (upd (λ u. at (s.threads u)) t none)
  taken_standing = rw upd_upd at (left (stepped i.order i.standing t a.0 (ap at here) more unlocked) t y (upd_same (λ u. at (s.threads u)) t (some y)))

  taken_executing : Executing s.graph.seq g.linked (upd s.graph.executing y true) (upd (λ u. executes (s.threads u)) t (some y))
  taken_executing = record {
    own_linked = λ u x e. ⊎_elim (λ h. let q : x ≡ y = cc in rw q linked_y) (λ h. i.executing.own_linked u x (sym h.1 ∙ e)) (cases u);
    own_executing = λ u x e. ⊎_elim (λ h. upd_at s.graph.executing y true x (cc)) (λ h. marked x (i.executing.own_executing u x (sym h.1 ∙ e))) (cases u);
    alone = λ u w x e f. ⊎_elim (λ h. ⊎_elim (λ k. cc) (λ k. absurd (nobody w (let q : x ≡ y = cc in cc))) (cases w)) (λ h. ⊎_elim (λ k. absurd (nobody u (let q : x ≡ y = cc in cc))) (λ k. i.executing.alone u w x (sym h.1 ∙ e) (sym k.1 ∙ f)) (cases w)) (cases u);
    held = λ x l e. ⊎_elim (λ h. (t, upd_same (λ u. executes (s.threads u)) t (some y) ∙ ap some (sym h.0))) (λ h. let w = i.executing.held x l (sym h.1 ∙ e) in (w.0, upd_other (λ u. executes (s.threads u)) t (some y) w.0 (λ q. none_some (executes (s.threads t)) (ap executes here) (ap (λ (u : ℕ). executes (s.threads u)) (sym q) ∙ w.1)) ∙ w.1)) (upd_cases s.graph.executing y true x);
    used = λ x e. ⊎_elim (λ h. rw h.0 (i.order.linked_used y linked_y)) (λ h. i.executing.used x (sym h.1 ∙ e)) (upd_cases s.graph.executing y true x);
  }
    where
      cases : (u : ℕ) → ((u ≡ t) × (upd (λ u. executes (s.threads u)) t (some y) u ≡ some y)) ⊎ ((u ≡ t → ⊥) × (upd (λ u. executes (s.threads u)) t (some y) u ≡ executes (s.threads u)))
      cases u = upd_cases (λ u. executes (s.threads u)) t (some y) u

      marked : (x : ℕ) → s.graph.executing x ≡ true → upd s.graph.executing y true x ≡ true
      marked x e = ⊎_elim (λ h. h.1) (λ h. h.1 ∙ e) (upd_cases s.graph.executing y true x)

      nobody : (u : ℕ) → executes (s.threads u) ≡ some y → ⊥
      nobody u e = true_false (s.graph.executing y) (i.executing.own_executing u y e) waiting_y

  taken_clearing : Clears s.graph.seq g.linked (upd s.graph.executing y true) (λ u. clears (s.threads u)) (upd (λ u. at (s.threads u)) t none)
  taken_clearing =
      let k = clears_kept s.graph.seq g.linked s.graph.executing (λ u. clears (s.threads u)) (λ u. at (s.threads u)) (upd (λ u. at (s.threads u)) t none) (stays (λ u. at (s.threads u)) (λ u. clears (s.threads u)) t none (ap clears here)) i.clearing in
      record {
        out = k.out;
        used = k.used;
        own_executing = λ u x e. ⊎_elim (λ h. h.1) (λ h. h.1 ∙ k.own_executing u x e) (upd_cases s.graph.executing y true x);
        alone = k.alone;
        past = k.past;
      }

  taken_loading : Loads s.graph.loaded s.graph.seq s.graph.next g.linked (upd s.graph.executing y true) (λ u. loads (s.threads u))
  taken_loading = record {
    loader = i.loading.loader;
    newest = i.loading.newest;
    used = i.loading.used;
    out = i.loading.out;
    waiting = λ u x e. upd_other s.graph.executing y true x (λ q. true_false (g.linked y) linked_y (ap g.linked (sym q) ∙ i.loading.out u x e)) ∙ i.loading.waiting u x e;
    ends = i.loading.ends;
  }

  taken_sets : Sets o s.graph.seq g.linked (upd s.graph.executing y true) s.graph.waits (upd (λ u. at (s.threads u)) t none) (λ u. loads (s.threads u)) (λ u. clears (s.threads u))
  taken_sets =
      let k = sets_kept o s.graph.seq g.linked s.graph.executing s.graph.waits (λ u. at (s.threads u)) (upd (λ u. at (s.threads u)) t none) (λ u. loads (s.threads u)) (λ u. clears (s.threads u))
      (stays (λ u. at (s.threads u)) (λ u. clears (s.threads u)) t none (ap clears here)) (stays (λ u. at (s.threads u)) (λ u. loads (s.threads u)) t none (ap loads here)) i.sets in
      record {
        unused_empty = k.unused_empty;
        executing_empty = λ x n e. ⊎_elim (λ h. rw h.0 (empty_y n)) (λ h. k.executing_empty x n (sym h.1 ∙ e)) (upd_cases s.graph.executing y true x);
        linked_sound = k.linked_sound;
        linked_complete = k.linked_complete;
        loading_sound = k.loading_sound;
        loading_complete = k.loading_complete;
      }

  pub node_taken : Inv o (move_to t (Holding (node y)) (set_locked y false (set_executing y true (step_on a.0 y s.graph))) s) g
  unfolding move_to set_locked set_executing step_on
  node_taken =
      let v : Thread = Holding (node y) in
      record {
        order = i.order;
        free_list = i.free_list;
        standing = rw (upd_map at s.threads t v) taken_standing;
        executing = rw (upd_map executes s.threads t v) taken_executing;
        walking = walks_moved s.threads t v (λ x b p. absurd (none_some none refl p)) i.walking;
        clearing = rw (kept clears s.threads t v (sym (ap clears here)), upd_map at s.threads t v) taken_clearing;
        loading = rw (kept loads s.threads t v (sym (ap loads here))) taken_loading;
        partition = rw (kept loads s.threads t v (sym (ap loads here)), kept clears s.threads t v (sym (ap clears here))) i.partition;
        sets = rw (kept loads s.threads t v (sym (ap loads here)), kept clears s.threads t v (sym (ap clears here)), upd_map at s.threads t v) taken_sets;
        progress = rw (kept done s.threads t v (sym (ap done here))) i.progress;
        service = rw (kept looked s.threads t v (sym (ap looked here)), kept found s.threads t v (sym (ap found here))) i.service;
        roles = worker_role t v low high refl i.roles;
      }

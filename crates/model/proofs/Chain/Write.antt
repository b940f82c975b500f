-- A worker writes store and answer: an executing node waits for nobody, so every earlier command that its own depends on is answered, and
-- part T says that the answer is the serial run's and the store what the answered commands give. Assumes nothing.
use Rattle.std.specs.Prelude.{ℕ, ◌≤◌, ◌<◌, ◌≡◌, Bool, false, ◌⊎◌}
use Rattle.std.proofs.Common.{arith, sym, ap, ◌∙◌, inr, ⊎_elim}
use Rattle.std.proofs.Math.Path.{refl}
use Rattle.std.proofs.Math.Bool.{true}
use Rattle.std.proofs.Math.Option.{Option, none, some}
use Rattle.std.proofs.Math.Logic.{inl}
use Rattle.command.specs.declared.Command.{Command}
use Rattle.command.specs.Dependent.{are_dependent}
use Rattle.command.proofs.Laws.{dependence_is_symmetric}
use Rattle.node_set.specs.declared.Node.{Node}
use Rattle.model.specs.declared.Thread.{Thread}
use Rattle.model.specs.declared.Thread.TheVariants.{LookedUp, Written}
use Rattle.model.specs.Upd.{upd}
use Rattle.model.specs.Setup.{Setup, command_at, both_dependent}
use Rattle.model.specs.Service.{found_for, write_for}
use Rattle.model.specs.Step.{State, node, command_of, looked_up, serve_to}
use Rattle.model.specs.Statement.{Accepted}
use Rattle.command.proofs.Tests.{fails, true_false, none_some}
use Rattle.model.proofs.Upd.{upd_same, upd_other, upd_at, upd_cases, upd_map}
use Rattle.model.proofs.Store.{trichotomy}
use Rattle.model.proofs.Service.{EarlierIn}
use Rattle.model.proofs.Consistent.{written_service, written_consistent}
use Rattle.model.proofs.Chain.Invariant.{Ghost, Inv, Progress, at, loads, executes, clears, done, looked, found}
use Rattle.model.proofs.Chain.Ghost.{writing}
use Rattle.model.proofs.Chain.Kept.{kept}
use Rattle.model.proofs.Chain.Moves.{worker_role, walks_moved}
use Rattle.model.proofs.Chain.Facts.{done_own, looked_own, clears_done, executes_used}
use Rattle.model.proofs.Places.{some_command, command_place}

module _ (o : Setup) (s : State) (g : Ghost) (i : Inv o s g) where
  -- a node with a command has the command of its place
  pub node_command : (x : ℕ) → 1 ≤ s.graph.seq x → (cmd : Command) × (command_at o.commands (s.graph.seq x) ≡ some cmd)
  node_command x u = let b = i.order.below x in let c = i.order.loaded_count in some_command o.commands (s.graph.seq x) u (omega arith)

  -- a later dependent node of the chain waits for an earlier one, so it is not executing
  pub executing_independent : (x z : ℕ) (a b : Command) → g.linked x ≡ true → s.graph.executing x ≡ true → g.linked z ≡ true → s.graph.seq z < s.graph.seq x →
      command_at o.commands (s.graph.seq z) ≡ some a → command_at o.commands (s.graph.seq x) ≡ some b → are_dependent a b ≡ false
  unfolding both_dependent
  executing_independent x z a b lx ex lz lt p q =
      fails (are_dependent a b) (λ d.
      true_false (s.graph.waits x z) (i.sets.linked_complete x z lx (record { used = i.order.linked_used z lz; earlier = lt; dependent = both d; pending = inl lz })) (i.sets.executing_empty x z ex))
    where
      both : are_dependent a b ≡ true → both_dependent (command_at o.commands (s.graph.seq z)) (command_at o.commands (s.graph.seq x)) ≡ true
      both d = rw (p, q) d

  -- every earlier command that an executing node's command depends on is answered
  pub earlier_answered : (x : ℕ) (cmd : Command) → g.linked x ≡ true → s.graph.executing x ≡ true → command_at o.commands (s.graph.seq x) ≡ some cmd → EarlierIn o g.written (s.graph.seq x) cmd
  earlier_answered x cmd lx ex q j a p lt d =
      let b = i.order.below x in
      ⊎_elim (λ r. i.progress.removed_written j r) (λ k. has_node k.0 k.1) (i.progress.accounted j (command_place o.commands j a p) (omega arith))
    where
      has_node : (z : ℕ) → s.graph.seq z ≡ j → g.written j ≡ true
      has_node z e =
          let u = command_place o.commands j a p in
          ⊎_elim (λ l. absurd (true_false (are_dependent a cmd) d (executing_independent x z a cmd lx ex l (omega arith) (ap (command_at o.commands) e ∙ p) q)))
          (⊎_elim (λ k. let n = i.loading.newest k.0 z k.1 in let b = i.order.below x in absurd (omega arith))
          (λ k. sym (ap g.written e) ∙ i.progress.done_written k.0 z (clears_done (s.threads k.0) z k.1)))
          (i.partition.one_of z (omega arith))

  -- the command of a worker that has not written has no answer yet: whoever had written it would be another worker with the same node
  pub unanswered : (t n : ℕ) → executes (s.threads t) ≡ some n → done (s.threads t) ≡ none → g.written (s.graph.seq n) ≡ false
  unanswered t n own not_yet =
      fails (g.written c) (λ w. ⊎_elim (λ r. true_false (g.removed c) r (i.progress.removed_gone n used)) (λ (k : (u : ℕ) × (z : ℕ) × (done (s.threads u) ≡ some z) × (s.graph.seq z ≡ c)). other k.0 k.1 k.2 k.3) (i.progress.written_done c w))
    where
      c : ℕ
      c = s.graph.seq n

      linked : g.linked n ≡ true
      linked = i.executing.own_linked t n own

      used : 1 ≤ c
      used = i.order.linked_used n linked

      other : (u z : ℕ) → done (s.threads u) ≡ some z → s.graph.seq z ≡ c → ⊥
      other u z d e =
          let q : n ≡ z = i.order.distinct n z used (sym e) in
          ⊎_elim (λ k. none_some (done (s.threads t)) not_yet (ap (λ (w : ℕ). done (s.threads w)) (sym (i.executing.alone u t z k (own ∙ ap some q))) ∙ d))
          (λ k. true_false (g.linked n) linked (ap g.linked q ∙ i.clearing.out u z k)) (done_own (s.threads u) z d)

module _ (o : Setup) (acc : Accepted o) (s : State) (g : Ghost) (i : Inv o s g) (t : ℕ) (low : 1 ≤ t) (high : t ≤ o.largest) (x : Node) (f : ℕ)
    (here : s.threads t ≡ LookedUp x f) where
  abbrev n : ℕ
  n = x.0

  abbrev c : ℕ
  c = s.graph.seq n

  abbrev v : Thread
  v = Written (node n)

  abbrev written' : ℕ → Bool
  written' = upd g.written c true

  n_linked : g.linked n ≡ true
  n_linked = i.executing.own_linked t n (ap executes here)

  n_executing : s.graph.executing n ≡ true
  n_executing = i.executing.own_executing t n (ap executes here)

  n_used : 1 ≤ c
  n_used = i.order.linked_used n n_linked

  not_written : g.written c ≡ false
  not_written = unanswered o s g i t n (ap executes here) (ap done here)

  module _ (cmd : Command) (command : command_at o.commands c ≡ some cmd) where
    earlier : EarlierIn o g.written c cmd
    earlier = earlier_answered o s g i n cmd n_linked n_executing command

    -- another looked-up worker's command is independent: the later of two dependent ones would wait for the earlier
    independent : (u z : ℕ) → executes (s.threads u) ≡ some z → (u ≡ t → ⊥) → (b : Command) → command_at o.commands (s.graph.seq z) ≡ some b → are_dependent b cmd ≡ false
    independent u z own other b q =
        let lz = i.executing.own_linked u z own in
        let ez = i.executing.own_executing u z own in
        ⊎_elim (λ lt. executing_independent o s g i n z b cmd n_linked n_executing lz lt q command)
        (⊎_elim (λ eq. absurd (other (i.executing.alone u t z own (ap executes here ∙ ap some (i.order.distinct n z n_used (sym eq))))))
        (λ gt. dependence_is_symmetric b cmd ∙ executing_independent o s g i z n cmd b lz ez n_linked gt command q))
        (trichotomy (s.graph.seq z) c)

    written_progress : Progress s.graph.loaded s.graph.seq written' g.removed (upd (λ u. done (s.threads u)) t (some n))
    written_progress = record {
      done_written = λ u z e. ⊎_elim (λ h. upd_at g.written c true (s.graph.seq z) (ap s.graph.seq (let q : z ≡ n = cc in q))) (λ h. more_written (s.graph.seq z) (i.progress.done_written u z (sym h.1 ∙ e))) (upd_cases (λ u. done (s.threads u)) t (some n) u);
      written_done = λ k w. ⊎_elim (λ h. inr (t, n, upd_same (λ u. done (s.threads u)) t (some n), sym h.0)) (λ h. old k (i.progress.written_done k (sym h.1 ∙ w))) (upd_cases g.written c true k);
      removed_written = λ k r. more_written k (i.progress.removed_written k r);
      removed_loaded = i.progress.removed_loaded;
      removed_gone = i.progress.removed_gone;
      accounted = i.progress.accounted;
    }
      where
        more_written : (k : ℕ) → g.written k ≡ true → written' k ≡ true
        more_written k w = ⊎_elim (λ h. h.1) (λ h. h.1 ∙ w) (upd_cases g.written c true k)

        old : (k : ℕ) → (g.removed k ≡ true) ⊎ ((u : ℕ) × (z : ℕ) × (done (s.threads u) ≡ some z) × (s.graph.seq z ≡ k)) → (g.removed k ≡ true) ⊎ ((u : ℕ) × (z : ℕ) × (upd (λ u. done (s.threads u)) t (some n) u ≡ some z) × (s.graph.seq z ≡ k))
        old k = ⊎_elim inl (λ w. inr (w.0, w.1, upd_other (λ u. done (s.threads u)) t (some n) w.0 (λ q. none_some (done (s.threads t)) (ap done here) (ap (λ (u : ℕ). done (s.threads u)) (sym q) ∙ w.2)) ∙ w.2, w.3))

    -- what the lookup found is what it would find now
    found_now : f ≡ found_for (some cmd) s.service.store
    found_now = sym (ap found here) ∙ (i.service.look t n (ap looked here) ∙ ap (λ (m : Option Command). found_for m s.service.store) command)

    -- the other lookups go on, and are for independent commands
    others : (u z : ℕ) → looked (upd s.threads t v u) ≡ some z
        → (looked (s.threads u) ≡ some z) × (found (upd s.threads t v u) ≡ found (s.threads u)) × (b : Command) × (command_at o.commands (s.graph.seq z) ≡ some b) × (are_dependent b cmd ≡ false)
    others u z e =
        ⊎_elim (λ h. absurd (none_some (looked (upd s.threads t v u)) (ap looked h.1) e)) (λ h.
        let e₀ = ap looked (sym h.1) ∙ e in
        let own = looked_own (s.threads u) z e₀ in
        let b = node_command o s g i z (executes_used o s g i u z own) in
        (e₀, ap found h.1, b.0, b.1, independent u z own h.0 b.0 b.1)) (upd_cases s.threads t v u)

    written_inv : Inv o (serve_to t v (write_for o (some cmd) c f s.service) s) (writing c g)
    unfolding serve_to
    written_inv = rw (written_service i.service acc c cmd command not_written earlier f found_now) (record {
      order = i.order;
      free_list = i.free_list;
      standing = rw (kept at s.threads t v (sym (ap at here))) i.standing;
      executing = rw (kept executes s.threads t v (sym (ap executes here))) i.executing;
      walking = walks_moved s.threads t v (λ z b p. absurd (none_some none refl p)) i.walking;
      clearing = rw (kept clears s.threads t v (sym (ap clears here)), kept at s.threads t v (sym (ap at here))) i.clearing;
      loading = rw (kept loads s.threads t v (sym (ap loads here))) i.loading;
      partition = rw (kept loads s.threads t v (sym (ap loads here)), kept clears s.threads t v (sym (ap clears here))) i.partition;
      sets = rw (kept loads s.threads t v (sym (ap loads here)), kept clears s.threads t v (sym (ap clears here)), kept at s.threads t v (sym (ap at here))) i.sets;
      progress = rw (upd_map done s.threads t v) written_progress;
      service = written_consistent i.service acc c cmd command not_written earlier _ _ others;
      roles = worker_role t v low high refl i.roles;
    })

  pub worker_written : Inv o (looked_up o t n f s) (writing c g)
  unfolding looked_up command_of
  worker_written =
      let k = node_command o s g i n n_used in
      rw k.1 (written_inv k.0 k.1)

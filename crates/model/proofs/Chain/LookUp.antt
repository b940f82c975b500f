-- A worker looks up the store: only what it found is new. A read is then written in the same step, as a looked-up worker writes. Assumes
-- nothing.
use Rattle.std.specs.Prelude.{ℕ, ◌≤◌, ◌≡◌}
use Rattle.std.proofs.Math.Path.{refl}
use Rattle.std.proofs.Common.{sym, ap, ◌∙◌, ⊎_elim}
use Rattle.std.proofs.Math.Option.{none, some}
use Rattle.node_set.specs.declared.Node.{Node}
use Rattle.model.specs.declared.Thread.{Thread}
use Rattle.model.specs.declared.Thread.TheVariants.{Holding, LookedUp, Written}
use Rattle.model.specs.Upd.{upd}
use Rattle.model.specs.Setup.{Setup, command_at}
use Rattle.model.specs.Service.{found_for}
use Rattle.model.specs.Step.{State, node, command_of, looked_up, serve_to}
use Rattle.model.specs.Statement.{Accepted}
use Rattle.command.proofs.Tests.{none_some}
use Rattle.model.proofs.Upd.{upd_same, upd_cases, upd_upd}
use Rattle.model.proofs.Consistent.{Consistent, lookups_consistent}
use Rattle.model.proofs.Chain.Invariant.{Ghost, Inv, at, loads, executes, clears, done, looked, found}
use Rattle.model.proofs.Chain.Ghost.{writing}
use Rattle.model.proofs.Chain.Kept.{kept}
use Rattle.model.proofs.Chain.Moves.{worker_role, walks_moved}
use Rattle.model.proofs.Chain.Write.{worker_written}

module _ (o : Setup) (s : State) (g : Ghost) (i : Inv o s g) (t : ℕ) (low : 1 ≤ t) (high : t ≤ o.largest) (x : Node) (here : s.threads t ≡ Holding x) where
  abbrev f : ℕ
  f = found_for (command_at o.commands (s.graph.seq x.0)) s.service.store

  abbrev v : Thread
  v = LookedUp (node x.0) f

  looked_service : Consistent o s.graph.seq g.written s.service (λ u. looked (upd s.threads t v u)) (λ u. found (upd s.threads t v u))
  looked_service =
      lookups_consistent i.service s.graph.seq (λ u. looked (upd s.threads t v u)) (λ u. found (upd s.threads t v u))
      (λ u z e. ⊎_elim (λ h. mine u z h.1 e) (λ h. ap found h.1 ∙ i.service.look u z (ap looked (sym h.1) ∙ e)) (upd_cases s.threads t v u))
    where
      mine : (u z : ℕ) → upd s.threads t v u ≡ v → looked (upd s.threads t v u) ≡ some z → found (upd s.threads t v u) ≡ found_for (command_at o.commands (s.graph.seq z)) s.service.store
      mine u z h e = let p = ap looked h in let q : z ≡ x.0 = cc in ap found h ∙ ap (λ (k : ℕ). found_for (command_at o.commands (s.graph.seq k)) s.service.store) (sym q)

  abbrev after : State
  after = serve_to t v s.service s

  pub worker_looked_up : Inv o after g
  unfolding serve_to
  worker_looked_up = record {
    order = i.order;
    free_list = i.free_list;
    standing = rw (kept at s.threads t v (sym (ap at here))) i.standing;
    executing = rw (kept executes s.threads t v (sym (ap executes here))) i.executing;
    walking = walks_moved s.threads t v (λ z b p. absurd (none_some none refl p)) i.walking;
    clearing = rw (kept clears s.threads t v (sym (ap clears here)), kept at s.threads t v (sym (ap at here))) i.clearing;
    loading = rw (kept loads s.threads t v (sym (ap loads here))) i.loading;
    partition = rw (kept loads s.threads t v (sym (ap loads here)), kept clears s.threads t v (sym (ap clears here))) i.partition;
    sets = rw (kept loads s.threads t v (sym (ap loads here)), kept clears s.threads t v (sym (ap clears here)), kept at s.threads t v (sym (ap at here))) i.sets;
    progress = rw (kept done s.threads t v (sym (ap done here))) i.progress;
    service = looked_service;
    roles = worker_role t v low high refl i.roles;
  }

  -- the lookup between does not show in what a read leaves
  written_at_once : looked_up o t x.0 f after ≡ looked_up o t x.0 f s
  unfolding looked_up serve_to command_of
  written_at_once = rw (upd_upd s.threads t v (Written (node x.0)))

  pub worker_read : Accepted o → Inv o (looked_up o t x.0 f s) (writing (s.graph.seq x.0) g)
  unfolding serve_to
  worker_read acc = rw (← written_at_once) (worker_written o acc after g worker_looked_up t low high (node x.0) f (upd_same s.threads t v))

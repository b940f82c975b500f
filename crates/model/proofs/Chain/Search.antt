-- A searcher enters at the head, steps on past a node that is not ready, and leaves at the end: the invariant is kept. Assumes nothing.
use Rattle.std.specs.Prelude.{ℕ, ◌≤◌, ◌≡◌, true, false}
use Rattle.std.proofs.Math.Path.{refl}
use Rattle.std.proofs.Common.{sym, ap}
use Rattle.std.proofs.Math.Option.{none}
use Rattle.node_set.specs.declared.Node.{Node}
use Rattle.model.specs.declared.Thread.TheVariants.{Idle, Searching}
use Rattle.model.specs.Upd.{upd}
use Rattle.model.specs.Setup.{Setup}
use Rattle.model.specs.Graph.{set_locked}
use Rattle.model.specs.Step.{State, node, step_on, move_to, leave}
use Rattle.command.proofs.Tests.{none_some}
use Rattle.model.proofs.Chain.Invariant.{Ghost, Inv, at, loads, executes, clears, done, looked, found}
use Rattle.model.proofs.Chain.StepOn.{stepped}
use Rattle.model.proofs.Chain.Stand.{entered, left}
use Rattle.model.proofs.Chain.Moves.{worker_role, quiet_move}

module _ (o : Setup) (s : State) (g : Ghost) (i : Inv o s g) (t : ℕ) (low : 1 ≤ t) (high : t ≤ o.largest) where
  pub search_entered : s.threads t ≡ Idle → s.graph.locked 0 ≡ false → Inv o (move_to t (Searching (node 0)) (set_locked 0 true s.graph) s) g
  unfolding move_to set_locked
  search_entered here open_head =
      quiet_move o s g i t (Searching (node 0)) (upd s.graph.locked 0 true) (ap loads here) refl (ap clears here) refl (sym (ap executes here))
      (sym (ap done here)) (sym (ap looked here)) (sym (ap found here)) (entered i.standing t (ap at here) open_head)
      (λ x b p. absurd (none_some none refl p)) (worker_role t (Searching (node 0)) low high refl i.roles)

  pub search_stepped : (a : Node) → s.threads t ≡ Searching a → (s.graph.next a.0 ≡ 0 → ⊥) → s.graph.locked (s.graph.next a.0) ≡ false →
      Inv o (move_to t (Searching (node (s.graph.next a.0))) (step_on a.0 (s.graph.next a.0) s.graph) s) g
  unfolding move_to step_on set_locked
  search_stepped a here more unlocked =
      quiet_move o s g i t (Searching (node (s.graph.next a.0))) (upd (upd s.graph.locked (s.graph.next a.0) true) a.0 false)
      (ap loads here) refl (ap clears here) refl (sym (ap executes here)) (sym (ap done here)) (sym (ap looked here)) (sym (ap found here))
      (stepped i.order i.standing t a.0 (ap at here) more unlocked)
      (λ x b p. absurd (none_some none refl p))
      (worker_role t (Searching (node (s.graph.next a.0))) low high refl i.roles)

  pub search_left : (a : Node) → s.threads t ≡ Searching a → Inv o (leave t a.0 s) g
  unfolding leave move_to set_locked
  search_left a here =
      quiet_move o s g i t Idle (upd s.graph.locked a.0 false)
      (ap loads here) refl (ap clears here) refl (sym (ap executes here)) (sym (ap done here)) (sym (ap looked here)) (sym (ap found here))
      (left i.standing t a.0 (ap at here))
      (λ x b p. absurd (none_some none refl p))
      (worker_role t Idle low high refl i.roles)

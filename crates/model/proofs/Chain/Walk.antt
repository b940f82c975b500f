-- A written worker enters at the head and steps on towards its own node: the invariant is kept. Assumes nothing.
use Rattle.std.specs.Prelude.{ℕ, ◌≤◌, ◌<◌, ◌≡◌, true, false}
use Rattle.std.proofs.Common.{arith, sym, ap}
use Rattle.std.proofs.Math.Path.{refl}
use Rattle.std.proofs.Math.Option.{some}
use Rattle.node_set.specs.declared.Node.{Node}
use Rattle.model.specs.declared.Thread.TheVariants.{Written, Walking}
use Rattle.model.specs.Upd.{upd}
use Rattle.model.specs.Setup.{Setup}
use Rattle.model.specs.Graph.{set_locked}
use Rattle.model.specs.Step.{State, node, step_on, move_to}
use Rattle.model.proofs.Chain.Invariant.{Ghost, Inv, at, loads, executes, walks, clears, done, looked, found}
use Rattle.model.proofs.Chain.StepOn.{stepped}
use Rattle.model.proofs.Chain.Stand.{entered}
use Rattle.model.proofs.Chain.Moves.{worker_role, quiet_move}

module _ (o : Setup) (s : State) (g : Ghost) (i : Inv o s g) (t : ℕ) (low : 1 ≤ t) (high : t ≤ o.largest) where
  -- the worker's own node is in the chain, so it comes after the head
  pub walk_entered : (x : Node) → s.threads t ≡ Written x → s.graph.locked 0 ≡ false → Inv o (move_to t (Walking (node 0) x) (set_locked 0 true s.graph) s) g
  unfolding move_to set_locked
  walk_entered x here open_head =
      quiet_move o s g i t (Walking (node 0) x) (upd s.graph.locked 0 true) (ap loads here) refl (ap clears here) refl (sym (ap executes here))
      (sym (ap done here)) (sym (ap looked here)) (sym (ap found here)) (entered i.standing t (ap at here) open_head)
      before (worker_role t (Walking (node 0) x) low high refl i.roles)
    where
      before : (y a : ℕ) → some x.0 ≡ some y → some 0 ≡ some a → s.graph.seq a < s.graph.seq y
      before y a p q =
          let e : y ≡ x.0 = cc in
          let f : a ≡ 0 = cc in
          let u = i.order.linked_used x.0 (i.executing.own_linked t x.0 (ap executes here)) in
          let h = i.order.head_seq in
          rw (e, f) (omega arith)

  -- the next node is not the worker's own, and no node of the chain lies between, so the own node comes later still
  pub walk_stepped : (a x : Node) → s.threads t ≡ Walking a x → (s.graph.next a.0 ≡ 0 → ⊥) → s.graph.locked (s.graph.next a.0) ≡ false → (s.graph.next a.0 ≡ x.0 → ⊥) →
      Inv o (move_to t (Walking (node (s.graph.next a.0)) x) (step_on a.0 (s.graph.next a.0) s.graph) s) g
  unfolding move_to step_on set_locked
  walk_stepped a x here more unlocked other =
      quiet_move o s g i t (Walking (node (s.graph.next a.0)) x) (upd (upd s.graph.locked (s.graph.next a.0) true) a.0 false)
      (ap loads here) refl (ap clears here) refl (sym (ap executes here)) (sym (ap done here)) (sym (ap looked here)) (sym (ap found here))
      (stepped i.order i.standing t a.0 (ap at here) more unlocked)
      before (worker_role t (Walking (node (s.graph.next a.0)) x) low high refl i.roles)
    where
      before : (y b : ℕ) → some x.0 ≡ some y → some (s.graph.next a.0) ≡ some b → s.graph.seq b < s.graph.seq y
      before y b p q =
          let e : y ≡ x.0 = cc in
          let f : b ≡ s.graph.next a.0 = cc in
          let on_a = i.standing.on t a.0 (ap at here) in
          let lx = i.executing.own_linked t x.0 (ap executes here) in
          let le = i.order.next_first a.0 on_a more x.0 lx (i.walking.before t x.0 a.0 (ap walks here) (ap at here)) in
          let ux = i.order.linked_used (s.graph.next a.0) (i.order.next_linked a.0 on_a more) in
          let ne : s.graph.seq (s.graph.next a.0) ≡ s.graph.seq x.0 → ⊥ = λ h. other (i.order.distinct (s.graph.next a.0) x.0 ux h) in
          rw (e, f) (omega (arith, le, ne))

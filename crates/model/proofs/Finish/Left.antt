-- The commands that are not loaded or whose nodes are not returned are those that are not removed. Assumes nothing.
use Prim.Native.Nat.{ℕ, zero, suc, ◌+◌, ◌-◌, ◌≤◌}
use native.Mathlib.Omega.{arith}
use Rattle.std.specs.Prelude.{◌≡◌, refl, Bool, true, false, cond, length, eqb}
use Rattle.std.proofs.Math.Path.{ap}
use Rattle.std.proofs.Common.{◌∙◌}
use Rattle.std.proofs.Math.Bool.{not}
use Rattle.std.proofs.Math.Logic.{⊎_elim}
use borrow.Author.Tests.{eqb-false, ne_eqb, not-true}
use Rattle.node_set.specs.Members.{count_below}
use Rattle.model.specs.Setup.{Setup}
use Rattle.model.specs.Step.{State}
use Rattle.model.specs.Dispatch.{commands_left, steps_needed}
use Rattle.command.proofs.Tests.{fails, true_false, le_cases}
use Rattle.model.proofs.Chain.Invariant.{Ghost, Inv}
use Rattle.model.proofs.Finish.Count.{sum_below, count, count_past, count_most, count_image}
use Rattle.model.proofs.Finish.Measure.{Φ}
use Rattle.model.proofs.Finish.Bound.{unremoved, bound}

-- the two ways to count
pub counts_same : (k : ℕ) (p : ℕ → Bool) → count k p ≡ count_below k p
unfolding count sum_below count_below
counts_same zero p = refl
counts_same (suc k) p = ap (λ n. cond (p k) 1 0 + n) (counts_same k p)

module _ (o : Setup) (s : State) (g : Ghost) (i : Inv o s g) where
  -- a node with a command, and a command that is not removed
  used : ℕ → Bool
  used n = not (eqb (s.graph.seq n) 0)

  here : ℕ → Bool
  here j = not (g.removed (suc j))

  used_is : (n : ℕ) → used n ≡ true → 1 ≤ s.graph.seq n
  unfolding used
  used_is n h = let d = eqb-false (s.graph.seq n) 0 (not-true (eqb (s.graph.seq n) 0) h) in omega arith

  is_used : (n : ℕ) → 1 ≤ s.graph.seq n → used n ≡ true
  unfolding used
  is_used n h = ap not (ne_eqb (s.graph.seq n) 0 (λ e. absurd (omega arith)))

  -- each such node has a command of its own, loaded and not removed
  nodes_few : count (suc o.size) used ≤ count s.graph.loaded here
  unfolding here
  nodes_few =
      count_image (suc o.size) s.graph.loaded used here (λ n. s.graph.seq n - 1)
      (λ n l h.
      let u = used_is n h in let b = i.order.below n in
      let e : suc (s.graph.seq n - 1) ≡ s.graph.seq n = omega arith in
      (omega arith, ap (λ c. not (g.removed c)) e ∙ ap not (i.progress.removed_gone n u)))
      (λ m n l k h q e. let u = used_is m h in let v = used_is n q in i.order.distinct m n u (omega arith))

  -- the node of a command that is loaded and not removed
  Has : ℕ → ℕ → Type 0
  Has j x = suc j ≤ s.graph.loaded → g.removed (suc j) ≡ false → s.graph.seq x ≡ suc j

  node_of : (j : ℕ) → (x : ℕ) × Has j x
  unfolding Has
  node_of j =
      ⊎_elim (λ l. ⊎_elim (λ r. (0, λ _ f. absurd (true_false _ r f))) (λ e. (e.0, λ _ _. e.1)) (i.progress.accounted (suc j) (omega arith) l))
      (λ l. (0, λ h _. absurd (omega arith))) (le_cases (suc j) s.graph.loaded)

  nodes_many : count s.graph.loaded here ≤ count (suc o.size) used
  unfolding here Has
  nodes_many =
      count_image s.graph.loaded (suc o.size) here used (λ j. (node_of j).0)
      (λ j l h.
      let e = (node_of j).1 (omega arith) (not-true (g.removed (suc j)) h) in
      let u = i.order.used_size (node_of j).0 (omega arith) in
      (omega arith, is_used (node_of j).0 (omega arith)))
      (λ j k l m h q e.
      let a = (node_of j).1 (omega arith) (not-true (g.removed (suc j)) h) in
      let b = (node_of k).1 (omega arith) (not-true (g.removed (suc k)) q) in
      let c : s.graph.seq (node_of j).0 ≡ s.graph.seq (node_of k).0 = ap s.graph.seq e in
      omega arith)

  -- and a command that is not loaded is not removed
  pub left_unremoved : commands_left o s ≡ unremoved o g
  unfolding commands_left unremoved used here
  left_unremoved =
      let same = counts_same (suc o.size) used in
      let few = nodes_few in let many = nodes_many in
      let past = count_past (length o.commands) s.graph.loaded here i.order.loaded_count
      (λ j l. ap not (fails (g.removed (suc j)) (λ e. let k = (i.progress.removed_loaded (suc j) e).1 in absurd (omega arith)))) in
      let most = count_most (length o.commands) s.graph.loaded here i.order.loaded_count in
      omega arith

  -- so the measure is within the dispatcher's limit
  pub measure_needed : 1 ≤ o.size → Φ o s g ≤ steps_needed o s
  unfolding steps_needed
  measure_needed room = rw left_unremoved (bound o s g i room)

-- The measure is at most (n + w) × (3 × s + 6), for n commands that are not removed, w workers and graph size s. Assumes nothing.
use Prim.Native.Nat.{ℕ, suc, ◌+◌, ◌-◌, ◌*◌, ◌≤◌}
use native.Mathlib.Omega.{arith}
use Rattle.std.proofs.Common.{add-mul, mul-add, suc-mul, mul_comm, mul-le-mul_left, sym, ◌∙◌}
use Rattle.std.proofs.Math.Nat.{mul-le-mul_right}
use Rattle.std.specs.Prelude.{◌≡◌, Bool, true, ◌&&◌, length}
use Rattle.std.proofs.Math.Path.{refl, ap}
use Rattle.std.proofs.Math.Bool.{false, not, and-eq-true_iff}
use Rattle.std.proofs.Math.Logic.{⊎_elim}
use Rattle.node_set.specs.declared.Node.{Node}
use Rattle.model.specs.declared.Thread.{Thread}
use Rattle.model.specs.declared.Thread.TheVariants.{Idle, Loading, Searching, Holding, LookedUp, Written, Walking, Clearing}
use Rattle.model.specs.Setup.{Setup}
use Rattle.model.specs.Step.{State}
use Rattle.command.proofs.Tests.{fails, true_false}
use Rattle.model.proofs.Chain.Invariant.{Ghost, Inv, loads, is_loader}
use Rattle.model.proofs.Finish.Count.{sum_below, count, sum_change, sum_const, count_less, count_past, count_image}
use Rattle.model.proofs.Finish.Measure.{Φ, measure, waiting, ahead, ahead_size, cost, true_and_true}
use Rattle.model.proofs.Finish.Present.{present, present_cases, loading_present}

-- how many commands are not removed
unfoldable pub unremoved : Setup → Ghost → ℕ
unremoved o g = count (length o.commands) (λ j. not (g.removed (suc j)))

-- no thread costs more than one that holds a node, where no more nodes are ahead than the graph has
cost_most : (size : ℕ) (far : ℕ → ℕ) (thread : Thread) → ((b : ℕ) → far b ≤ size) → cost size far thread ≤ size + 4
unfolding cost
cost_most size far Idle h = omega arith
cost_most size far (Loading a x) h = let k = h a.0 in omega arith
cost_most size far (Searching a) h = let k = h a.0 in omega arith
cost_most size far (Holding x) h = omega arith
cost_most size far (LookedUp x f) h = omega arith
cost_most size far (Written x) h = omega arith
cost_most size far (Walking a x) h = let k = h a.0 in omega arith
cost_most size far (Clearing a x) h = let k = h a.0 in omega arith

-- the sums together: c for the threads, l for the loader, m waiting nodes, u commands that are not loaded
total : (size c l w m u n : ℕ) → 1 ≤ size → c ≤ w * (size + 4) + l → l ≤ m * size → m + u ≤ n → c + (size + 6) * m + (size + 8) * u ≤ (n + w) * (3 * size + 6)
total size c l w m u n room hc hl hn =
    let workers = mul-le-mul_left {m = size + 4} {n = 3 * size + 6} w (omega arith) in
    let nodes = mul-le-mul_left {m = size + (size + 6)} {n = 3 * size + 6} m (omega arith) in
    let split = mul-add m size (size + 6) in
    let commuted = mul_comm (size + 6) m in
    let unloaded = mul-le-mul_left {m = size + 8} {n = 3 * size + 6} u (omega arith) in
    let commuted' = mul_comm (size + 8) u in
    let all = mul-le-mul_right (3 * size + 6) hn in
    let split' = add-mul m u (3 * size + 6) in
    let split'' = add-mul n w (3 * size + 6) in
    omega arith

module _ (o : Setup) (s : State) (g : Ghost) (i : Inv o s g) where
  -- the nodes in the chain or being loaded, and how many of them are ahead of a node
  here : ℕ → Bool
  here = present (s.threads 0) g.linked

  far : ℕ → ℕ
  far = ahead o.size s.graph.seq here

  far_size : (a : ℕ) → far a ≤ o.size
  unfolding far
  far_size a = ahead_size o.size s.graph.seq here a i.order.head_seq

  -- ---- the waiting nodes and the commands that are not loaded are commands that are not removed

  -- a node in the chain or being loaded has a command
  here_used : (z : ℕ) → here z ≡ true → 1 ≤ s.graph.seq z
  unfolding here
  here_used z h = ⊎_elim (λ e. i.order.linked_used z e) (λ e. i.loading.used 0 z e) (present_cases (s.threads 0) g.linked z h)

  -- each has a command of its own, loaded and not removed
  waiting_loaded : waiting o.size here s.graph.executing ≤ count s.graph.loaded (λ j. not (g.removed (suc j)))
  unfolding waiting
  waiting_loaded =
      count_image (suc o.size) s.graph.loaded (λ z. here z && not (s.graph.executing z)) (λ j. not (g.removed (suc j))) (λ z. s.graph.seq z - 1)
      (λ z l h.
      let u = here_used z ((and-eq-true_iff (here z) (not (s.graph.executing z))).0 h).0 in
      let b = i.order.below z in
      let e : suc (s.graph.seq z - 1) ≡ s.graph.seq z = omega arith in
      (omega arith, ap (λ c. not (g.removed c)) e ∙ ap not (i.progress.removed_gone z u)))
      (λ y z l m h k e.
      let u = here_used y ((and-eq-true_iff (here y) (not (s.graph.executing y))).0 h).0 in
      let v = here_used z ((and-eq-true_iff (here z) (not (s.graph.executing z))).0 k).0 in
      i.order.distinct y z u (omega arith))

  -- and a command that is not loaded is not removed
  counted : waiting o.size here s.graph.executing + (length o.commands - s.graph.loaded) ≤ unremoved o g
  unfolding unremoved
  counted =
      let a = waiting_loaded in
      let b = count_past (length o.commands) s.graph.loaded (λ j. not (g.removed (suc j))) i.order.loaded_count
      (λ j l. ap not (fails (g.removed (suc j)) (λ e. let k = (i.progress.removed_loaded (suc j) e).1 in absurd (omega arith)))) in
      omega arith

  -- ---- the threads: each worker costs at most s + 4, and the loader at most s where a node is being loaded, which is waiting

  -- the node being loaded is waiting
  one_waiting : (a x : Node) → s.threads 0 ≡ Loading a x → 1 ≤ waiting o.size here s.graph.executing
  unfolding waiting here
  one_waiting a x e =
      let l = count_less (suc o.size) (λ z. false) (λ z. here z && not (s.graph.executing z)) x.0 (let k = i.order.used_size x.0 (i.loading.used 0 x.0 (ap loads e)) in omega arith) refl
      (true_and_true (here x.0) (not (s.graph.executing x.0)) (rw e (loading_present g.linked a x)) (ap not (i.loading.waiting 0 x.0 (ap loads e)))) (λ z d h. absurd (true_false false h refl)) in
      omega arith

  -- so the loader costs at most s for each waiting node
  loader_cost : (thread : Thread) → s.threads 0 ≡ thread → cost o.size far thread ≤ waiting o.size here s.graph.executing * o.size
  unfolding cost
  loader_cost Idle e = omega arith
  loader_cost (Loading a x) e =
      let w = one_waiting a x e in let f = far_size a.0 in
      let m = mul-le-mul_right o.size w in
      omega arith
  loader_cost (Searching a) e = absurd (true_false false (sym (ap is_loader e) ∙ i.roles.loader) refl)
  loader_cost (Holding x) e = absurd (true_false false (sym (ap is_loader e) ∙ i.roles.loader) refl)
  loader_cost (LookedUp x f) e = absurd (true_false false (sym (ap is_loader e) ∙ i.roles.loader) refl)
  loader_cost (Written x) e = absurd (true_false false (sym (ap is_loader e) ∙ i.roles.loader) refl)
  loader_cost (Walking a x) e = absurd (true_false false (sym (ap is_loader e) ∙ i.roles.loader) refl)
  loader_cost (Clearing a x) e = absurd (true_false false (sym (ap is_loader e) ∙ i.roles.loader) refl)

  -- the others cost at most s + 4 each
  threads_cost : sum_below (suc o.largest) (λ t. cost o.size far (s.threads t)) ≤ o.largest * (o.size + 4) + cost o.size far (s.threads 0)
  threads_cost =
      let k = cost_most o.size far (s.threads 0) far_size in
      let a = sum_change (suc o.largest) (λ t. cost o.size far (s.threads t)) (λ t. o.size + 4) 0 (o.size + 4 - cost o.size far (s.threads 0)) 0 (omega arith) (omega arith)
      (λ u l d. cost_most o.size far (s.threads u) far_size) in
      let b = sum_const (suc o.largest) (o.size + 4) in
      let c = suc-mul o.largest (o.size + 4) in
      omega arith

  -- ---- together
  pub bound : 1 ≤ o.size → Φ o s g ≤ (unremoved o g + o.largest) * (3 * o.size + 6)
  unfolding Φ measure far here
  bound room =
      total o.size (sum_below (suc o.largest) (λ t. cost o.size far (s.threads t))) (cost o.size far (s.threads 0)) o.largest (waiting o.size here s.graph.executing)
      (length o.commands - s.graph.loaded) (unremoved o g) room threads_cost (loader_cost (s.threads 0) refl) counted

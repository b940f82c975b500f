-- The measure: how many steps the finish may still take from a state, at most. Each thread costs what its own walk may take, each node
-- that is not taken yet what its removal takes, each command that is not loaded yet that and its loading. Assumes nothing.
use Rattle.std.specs.Prelude.{ℕ, suc, ◌+◌, ◌-◌, ◌*◌, ◌≤◌, ◌<◌, ◌≡◌, refl, Bool, true, false, ◌&&◌, length}
use native.Mathlib.Omega.{arith}
use Rattle.std.proofs.Math.Nat.{mul-suc, mul-add, mul-le-mul_left}
use Rattle.std.proofs.Common.{ap, ltb-true, lt-ltb, le-ltb}
use Rattle.std.proofs.Math.Bool.{not, and-false, and-eq-true_iff}
use Rattle.std.proofs.Math.Option.{some}
use Rattle.std.proofs.Math.Dec.{ltb}
use Rattle.std.proofs.lemmas.Bool.{not-true}
use Rattle.model.specs.declared.Thread.{Thread}
use Rattle.model.specs.declared.Thread.TheVariants.{Idle, Loading, Searching, Holding, LookedUp, Written, Walking, Clearing}
use Rattle.model.specs.Setup.{Setup}
use Rattle.model.specs.Step.{State}
use Rattle.model.proofs.Chain.Invariant.{Ghost, at}
use Rattle.model.proofs.Finish.Present.{present}
use Rattle.model.proofs.Finish.Count.{sum_below, count, sum_change, count_mono, count_less, count_more, count_bound}

-- how many present nodes come later than node a
unfoldable pub ahead : ℕ → (ℕ → ℕ) → (ℕ → Bool) → ℕ → ℕ
ahead size seq here a = count (suc size) (λ z. here z && ltb (seq a) (seq z))

-- the steps that a thread may need to be idle, by how many nodes are ahead
unfoldable pub cost : ℕ → (ℕ → ℕ) → Thread → ℕ
cost size far Idle = 0
cost size far (Loading a x) = far a.0
cost size far (Searching a) = far a.0 + 1
cost size far (Holding x) = size + 4
cost size far (LookedUp x f) = size + 3
cost size far (Written x) = size + 2
cost size far (Walking a x) = far a.0 + 1
cost size far (Clearing a x) = far a.0 + 1

-- how many present nodes are not taken yet
unfoldable pub waiting : ℕ → (ℕ → Bool) → (ℕ → Bool) → ℕ
waiting size here executing = count (suc size) (λ z. here z && not (executing z))

-- the measure, by the parts of a state that it reads
unfoldable pub measure : ℕ → ℕ → (ℕ → ℕ) → (ℕ → Bool) → (ℕ → Bool) → (ℕ → Thread) → ℕ → ℕ
measure size workers seq here executing threads left =
    sum_below (suc workers) (λ t. cost size (ahead size seq here) (threads t)) + (size + 6) * waiting size here executing + (size + 8) * left

-- the measure of a state
unfoldable pub Φ : Setup → State → Ghost → ℕ
Φ o s g = measure o.size o.largest s.graph.seq (present (s.threads 0) g.linked) s.graph.executing s.threads (length o.commands - s.graph.loaded)

-- ---- how it changes

pub true_and_true : (a b : Bool) → a ≡ true → b ≡ true → (a && b) ≡ true
true_and_true a b h k = rw (h, k)

-- where a present node that is later than b was present and later than a, no more are ahead of b than were of a
module _ (size : ℕ) (seq seq' : ℕ → ℕ) (here here' : ℕ → Bool) (a b : ℕ)
    (later : (z : ℕ) → here' z ≡ true → seq' b < seq' z → (here z ≡ true) × (seq a < seq z)) where
  -- the same, as tests
  later_test : (z : ℕ) → (here' z && ltb (seq' b) (seq' z)) ≡ true → (here z && ltb (seq a) (seq z)) ≡ true
  later_test z h =
      let e = (and-eq-true_iff (here' z) (ltb (seq' b) (seq' z))).0 h in
      let l = later z e.0 (ltb-true (seq' b) (seq' z) e.1) in
      true_and_true (here z) (ltb (seq a) (seq z)) l.0 (lt-ltb (seq a) (seq z) l.1)

  pub ahead_mono : ahead size seq' here' b ≤ ahead size seq here a
  unfolding ahead
  ahead_mono = count_mono (suc size) (λ z. here' z && ltb (seq' b) (seq' z)) (λ z. here z && ltb (seq a) (seq z)) later_test

  -- and fewer, where a node was present and later than a that is not so for b
  pub ahead_less : (y : ℕ) → y ≤ size → here y ≡ true → seq a < seq y → (here' y && ltb (seq' b) (seq' y)) ≡ false → ahead size seq' here' b + 1 ≤ ahead size seq here a
  unfolding ahead
  ahead_less y small h l gone =
      count_less (suc size) (λ z. here' z && ltb (seq' b) (seq' z)) (λ z. here z && ltb (seq a) (seq z)) y (omega arith) gone
      (true_and_true (here y) (ltb (seq a) (seq y)) h (lt-ltb (seq a) (seq y) l)) (λ z d. later_test z)

-- at most the graph size are ahead of any node, as the head is none of them
pub ahead_size : (size : ℕ) (seq : ℕ → ℕ) (here : ℕ → Bool) (a : ℕ) → seq 0 ≡ 0 → ahead size seq here a ≤ size
unfolding ahead
ahead_size size seq here a head =
    let k = count_less (suc size) (λ z. here z && ltb (seq a) (seq z)) (λ z. true) 0 (omega arith)
    (rw (le-ltb (seq a) (seq 0) (omega arith), and-false (here 0))) refl (λ z d h. refl) in
    let b = count_bound (suc size) (λ z. true) in
    omega arith

-- a thread that has no more nodes ahead of where it stands costs no more
pub cost_mono : (size : ℕ) (far far' : ℕ → ℕ) (thread : Thread) → ((b : ℕ) → at thread ≡ some b → far' b ≤ far b) → cost size far' thread ≤ cost size far thread
unfolding cost
cost_mono size far far' Idle h = omega arith
cost_mono size far far' (Loading a x) h = h a.0 refl
cost_mono size far far' (Searching a) h = let k = h a.0 refl in omega arith
cost_mono size far far' (Holding x) h = omega arith
cost_mono size far far' (LookedUp x f) h = omega arith
cost_mono size far far' (Written x) h = omega arith
cost_mono size far far' (Walking a x) h = let k = h a.0 refl in omega arith
cost_mono size far far' (Clearing a x) h = let k = h a.0 refl in omega arith

-- ---- one thread moves: no node comes to lie ahead of the others
module _ (size workers : ℕ) (seq seq' : ℕ → ℕ) (here here' executing executing' : ℕ → Bool) (threads threads' : ℕ → Thread) (t : ℕ) (within : t ≤ workers)
    (others : (u : ℕ) → (u ≡ t → ⊥) → threads' u ≡ threads u)
    (later : (u b : ℕ) → (u ≡ t → ⊥) → at (threads u) ≡ some b → (z : ℕ) → here' z ≡ true → seq' b < seq' z → (here z ≡ true) × (seq b < seq z)) where
  -- the sum of the costs changes as the moved thread's does
  costs_change : (i j : ℕ) → cost size (ahead size seq' here') (threads' t) + i ≤ cost size (ahead size seq here) (threads t) + j →
      sum_below (suc workers) (λ u. cost size (ahead size seq' here') (threads' u)) + i ≤ sum_below (suc workers) (λ u. cost size (ahead size seq here) (threads u)) + j
  costs_change i j mine =
      sum_change (suc workers) (λ u. cost size (ahead size seq' here') (threads' u)) (λ u. cost size (ahead size seq here) (threads u)) t i j (omega arith) mine
      (λ u l d. rw (others u d) (cost_mono size (ahead size seq here) (ahead size seq' here') (threads u) (λ b e. ahead_mono size seq seq' here here' b b (later u b d e))))

  -- a test of what waits, by what it says
  wait_test : (z : ℕ) → (here' z ≡ true → executing' z ≡ false → (here z ≡ true) × (executing z ≡ false)) →
      (here' z && not (executing' z)) ≡ true → (here z && not (executing z)) ≡ true
  wait_test z h k =
      let e = (and-eq-true_iff (here' z) (not (executing' z))).0 k in
      let w = h e.0 (not-true (executing' z) e.1) in
      true_and_true (here z) (not (executing z)) w.0 (ap not w.1)

  -- a thread that comes nearer to idle lowers the measure, where no node comes to wait
  pub lowered : (left : ℕ) → ((z : ℕ) → here' z ≡ true → executing' z ≡ false → (here z ≡ true) × (executing z ≡ false)) →
      cost size (ahead size seq' here') (threads' t) + 1 ≤ cost size (ahead size seq here) (threads t) →
      measure size workers seq' here' executing' threads' left + 1 ≤ measure size workers seq here executing threads left
  unfolding measure waiting
  lowered left wait mine =
      let a = costs_change 1 0 (omega arith) in
      let b = count_mono (suc size) (λ z. here' z && not (executing' z)) (λ z. here z && not (executing z)) (λ z. wait_test z (wait z)) in
      let c = mul-le-mul_left (size + 6) b in
      omega arith

  -- a thread that takes a waiting node lowers it by two
  pub taken_lowered : (left y : ℕ) → ((z : ℕ) → (z ≡ y → ⊥) → here' z ≡ true → executing' z ≡ false → (here z ≡ true) × (executing z ≡ false)) →
      y ≤ size → here y ≡ true → executing y ≡ false → executing' y ≡ true → cost size (ahead size seq' here') (threads' t) ≤ size + 4 →
      measure size workers seq' here' executing' threads' left + 2 ≤ measure size workers seq here executing threads left
  unfolding measure waiting
  taken_lowered left y wait small h w w' mine =
      let a = costs_change 0 (size + 4) (omega arith) in
      let b = count_less (suc size) (λ z. here' z && not (executing' z)) (λ z. here z && not (executing z)) y (omega arith) (rw (w', and-false (here' y))) (true_and_true (here y) (not (executing y)) h (ap not w)) (λ z d. wait_test z (wait z d)) in
      let c = mul-le-mul_left (size + 6) b in
      let d = mul-add (size + 6) (count (suc size) (λ z. here' z && not (executing' z))) 1 in
      omega arith

  -- a command loaded and linked lowers it by two, where the loader ends as near to idle as it was
  pub loaded_lowered : (left x : ℕ) → ((z : ℕ) → (z ≡ x → ⊥) → here' z ≡ true → executing' z ≡ false → (here z ≡ true) × (executing z ≡ false)) → x ≤ size →
      cost size (ahead size seq' here') (threads' t) ≤ cost size (ahead size seq here) (threads t) →
      measure size workers seq' here' executing' threads' left + 2 ≤ measure size workers seq here executing threads (suc left)
  unfolding measure waiting
  loaded_lowered left x wait small mine =
      let a = costs_change 0 0 (omega arith) in
      let b = count_more (suc size) (λ z. here' z && not (executing' z)) (λ z. here z && not (executing z)) x (omega arith) (λ z d. wait_test z (wait z d)) in
      let c = mul-le-mul_left (size + 6) b in
      let d = mul-add (size + 6) (count (suc size) (λ z. here z && not (executing z))) 1 in
      let e = mul-suc (size + 8) left in
      omega arith

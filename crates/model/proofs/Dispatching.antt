-- The dispatcher's promise (specs/Dispatching), proved by the finish from every state that meets the invariant. Assumes nothing.
use Prim.Native.Nat.{ℕ, zero, suc, ◌≤◌}
use Rattle.std.proofs.Common.{arith, ap, ◌∙◌, le-leb}
use Rattle.std.specs.Prelude.{◌≡◌, Bool, not, length, eqb, leb}
use Rattle.std.proofs.Math.Path.{refl, fun_ext}
use Rattle.std.proofs.Math.Bool.{true, false}
use Rattle.node_set.specs.Members.{count_below}
use Rattle.model.specs.Setup.{Setup}
use Rattle.model.specs.Step.{State, step, opened, steps}
use Rattle.model.specs.Statement.{all_within}
use Rattle.model.specs.Dispatch.{rank, chosen, Next, stop, step_of, served, fresh, goes_on, following, steps_from, dispatched, steps_needed}
use Rattle.model.specs.Dispatching.{DispatcherFinishes}
use Rattle.command.proofs.Tests.{cond_cases}
use Rattle.model.proofs.Finish.Foremost.{foremost_within}
use Rattle.model.proofs.Chain.Opening.{opened_ghost, opened_meets}
use Rattle.model.proofs.Finish.{schedule_finishes, left_unremoved, counts_same}
use Rattle.model.proofs.Finish.Bound.{unremoved}
use Rattle.model.proofs.Theorem.{g, reached, removed_is}

-- ---- its length

-- a schedule of at most k steps has at most k
steps_few : (o : Setup) (k : ℕ) (n : Next) (s : State) → length (steps_from o k n s) ≤ k
unfolding steps_from
steps_few o zero n s = omega arith
steps_few o (suc k) stop s = omega arith
steps_few o (suc k) (step_of settled t) s = let a = steps_few o k (following o settled t (step o t s)) (step o t s) in omega arith

pub dispatched_few : (o : Setup) (s : State) → length (dispatched o s) ≤ steps_needed o s
unfolding dispatched
dispatched_few o s = steps_few o (steps_needed o s) (fresh o false s) s

-- ---- the threads that it names

-- a thread that comes next is there
abbrev Within : ℕ → Next → Type 0
Within largest stop = Unit {0}
Within largest (step_of settled t) = t ≤ largest

module _ (o : Setup) (some_worker : 1 ≤ o.largest) where
  served_within : (s : State) → Within o.largest (served o s)
  unfolding served
  served_within s = cond_cases (Within o.largest) (eqb (s.graph.next 0) 0) (λ _. cond_cases (Within o.largest) (leb (length o.commands) s.graph.loaded) (λ _. tt) (λ _. omega arith)) (λ _. some_worker)

  fresh_within : (settled : Bool) (s : State) → Within o.largest (fresh o settled s)
  unfolding fresh chosen
  fresh_within true s = served_within s
  fresh_within false s =
      cond_cases (Within o.largest) (eqb (rank s.graph.seq (s.threads (chosen o s))) 0) (λ _. served_within s) (λ _. foremost_within (λ t. rank s.graph.seq (s.threads t)) o.largest)

  following_within : (settled : Bool) (t : ℕ) (s : State) → t ≤ o.largest → Within o.largest (following o settled t s)
  unfolding following
  following_within settled t s h = cond_cases (Within o.largest) (goes_on settled (s.threads t)) (λ _. h) (λ _. fresh_within settled s)

  steps_within : (k : ℕ) (n : Next) (s : State) → Within o.largest n → all_within o.largest (steps_from o k n s) ≡ true
  unfolding steps_from all_within
  steps_within zero n s h = refl
  steps_within (suc k) stop s h = refl
  steps_within (suc k) (step_of settled t) s h = rw (le-leb t o.largest h) (steps_within k (following o settled t (step o t s)) (step o t s) (following_within settled t (step o t s) h))

  pub dispatched_within : (s : State) → all_within o.largest (dispatched o s) ≡ true
  unfolding dispatched
  dispatched_within s = steps_within (steps_needed o s) (fresh o false s) s (fresh_within false s)

-- ---- the promise

pub dispatcher_finishes : DispatcherFinishes
unfolding unremoved
dispatcher_finishes o acc ts within =
    let f = schedule_finishes o acc (opened o) (opened_ghost o) (opened_meets o acc) (λ c. refl) ts within in
    record {
      within = f.0;
      removes = f.1;
      idle = f.2;
      few = dispatched_few o (steps o ts (opened o));
      left =
          left_unremoved o (steps o ts (opened o)) (g o acc ts within) (reached o acc ts within) ∙ counts_same (length o.commands) (λ j. not ((g o acc ts within).removed (suc j)))
          ∙ ap (count_below (length o.commands)) (fun_ext (λ j. ap not (removed_is o acc ts within (suc j) (omega arith))));
    }

-- The dispatcher (02, A.6): the schedule that it makes from a state, "a dealing of its choice", and how many steps that may need. The document
-- leaves the choice open; this is ours. Whoever stands in the chain goes on, the one furthest along first, for nobody is in its way, until it
-- stands there no more. Then whoever has a node finishes, one after the other. Then worker 1 takes the first node of the chain and finishes,
-- node by node; and where the chain is empty, the loader loads the next command. Assumes nothing.
use Rattle.std.specs.Prelude.{ℕ, zero, suc, ◌+◌, ◌-◌, ◌*◌, Bool, true, false, not, cond, List, [], ◌∷◌, length, eqb, leb, ltb}
use Rattle.node_set.specs.Members.{count_below}
use Rattle.model.specs.declared.Thread.{Thread}
use Rattle.model.specs.declared.Thread.TheVariants.{Idle, Loading, Searching, Holding, LookedUp, Written, Walking, Clearing}
use Rattle.model.specs.Setup.{Setup}
use Rattle.model.specs.Step.{State, step}

-- ---- how long

-- "commands that are not yet loaded or whose records are not yet returned"
unfoldable pub commands_left : Setup → State → ℕ
unfolding count_below
commands_left o s = (length o.commands - s.graph.loaded) + count_below (suc o.size) (λ n. not (eqb (s.graph.seq n) 0))

-- "(n + w) × (3 × s + 6) turns"
unfoldable pub steps_needed : Setup → State → ℕ
unfolding commands_left
steps_needed o s = (commands_left o s + o.largest) * (3 * o.size + 6)

-- ---- who

-- who goes first: a thread that stands further along the chain, then one that has a node and stands nowhere; 0 for an idle one
unfoldable pub rank : (ℕ → ℕ) → Thread → ℕ
rank seq Idle = 0
rank seq (Loading at own) = suc (suc (seq at.0))
rank seq (Searching at) = suc (suc (seq at.0))
rank seq (Holding own) = 1
rank seq (LookedUp own found) = 1
rank seq (Written own) = 1
rank seq (Walking at own) = suc (suc (seq at.0))
rank seq (Clearing at own) = suc (suc (seq at.0))

-- the first thread of 0 to n that has the largest rank
unfoldable pub foremost : (ℕ → ℕ) → ℕ → ℕ
foremost rank zero = 0
foremost rank (suc n) = cond (ltb (rank (foremost rank n)) (rank (suc n))) (suc n) (foremost rank n)

unfoldable pub chosen : Setup → State → ℕ
unfolding rank foremost
chosen o s = foremost (λ t. rank s.graph.seq (s.threads t)) o.largest

-- whether a thread is idle, and whether it stands in the chain
unfoldable pub is_idle : Thread → Bool
unfolding rank
is_idle thread = eqb (rank (λ n. 0) thread) 0

unfoldable pub stands : Thread → Bool
unfolding rank
stands thread = leb 2 (rank (λ n. 0) thread)

-- ---- the schedule

-- what comes next: nothing, or a step of thread t; settled once no thread but t may be at work
pub data Next : Type 0 where
  stop : Next
  step_of : (settled : Bool) (t : ℕ) → Next

-- where all are idle: worker 1 takes the first node; where the chain is empty, the loader loads the next command, if one is left
unfoldable pub served : Setup → State → Next
served o s = cond (eqb (s.graph.next 0) 0) (cond (leb (length o.commands) s.graph.loaded) stop (step_of true 0)) (step_of true 1)

-- another thread than before: while not settled the foremost of all, unless all are idle
unfoldable pub fresh : Setup → Bool → State → Next
unfolding rank chosen served
fresh o false s = cond (eqb (rank s.graph.seq (s.threads (chosen o s))) 0) (served o s) (step_of false (chosen o s))
fresh o true s = served o s

-- whether the thread that stepped last goes on: while it stands in the chain, and once settled, until it is idle
unfoldable pub goes_on : Bool → Thread → Bool
unfolding stands is_idle
goes_on false thread = stands thread
goes_on true thread = not (is_idle thread)

-- after a step of thread t
unfoldable pub following : Setup → Bool → ℕ → State → Next
unfolding goes_on fresh
following o settled t s = cond (goes_on settled (s.threads t)) (step_of settled t) (fresh o settled s)

-- at most k steps, from what comes next
unfoldable pub steps_from : Setup → ℕ → Next → State → List ℕ
unfolding following step
steps_from o zero n s = []
steps_from o (suc k) stop s = []
steps_from o (suc k) (step_of settled t) s = t ∷ steps_from o k (following o settled t (step o t s)) (step o t s)

-- the dispatcher's schedule from a state; where no schedule reaches the state it may end at the limit
unfoldable pub dispatched : Setup → State → List ℕ
unfolding steps_needed fresh steps_from
dispatched o s = steps_from o (steps_needed o s) (fresh o false s) s

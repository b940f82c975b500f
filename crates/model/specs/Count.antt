-- "A manager must be able to rely on this" (02, A.2), as a promise about every schedule: which worker has which command, and what the worker
-- count in force does. Cites Step; proved in proofs/Count. Assumes nothing.
use Rattle.std.specs.Prelude.{ℕ, suc, ◌≤◌, ◌<◌, ◌≡◌, Bool, true, cond, List, [], ◌∷◌, ltb}
use Rattle.std.proofs.Math.Option.{Option, none, some}
use Rattle.command.specs.declared.Command.{Command}
use Rattle.command.specs.Count.{count_after}
use Rattle.node_set.specs.declared.Node.{Node}
use Rattle.model.specs.declared.Thread.{Thread}
use Rattle.model.specs.declared.Thread.TheVariants.{Idle, Loading, Searching, Holding, LookedUp, Written, Walking, Clearing}
use Rattle.model.specs.Setup.{Setup}
use Rattle.model.specs.Step.{State, opened, step, steps}
use Rattle.model.specs.Statement.{Accepted, all_within, wrote}

-- the count after those commands of a list whose place is in W, in delivery order: that of the last kind 5 among them, the count before
-- them where there is none; the first place is i
unfoldable pub count_from : (ℕ → Bool) → ℕ → List Command → ℕ → ℕ
unfolding count_after
count_from W i [] count = count
count_from W i (c ∷ cs) count = count_from W (suc i) cs (cond (W i) (count_after c count) count)

-- the count of the last kind 5 in W, the opening's where there is none
unfoldable pub count_of : Setup → (ℕ → Bool) → ℕ
unfolding count_from
count_of o W = count_from W 1 o.commands o.workers

-- the count of the last kind 5 delivered before command c, the opening's where there is none
abbrev pub count_before : Setup → ℕ → ℕ
count_before o c = count_of o (λ k. ltb k c)

-- the node that a worker has, from its taking to its return
abbrev pub node_of : Thread → Option ℕ
node_of Idle = none
node_of (Loading at own) = none
node_of (Searching at) = none
node_of (Holding own) = some own.0
node_of (LookedUp own found) = some own.0
node_of (Written own) = some own.0
node_of (Walking at own) = some own.0
node_of (Clearing at own) = some own.0

-- a state with another count in force
abbrev pub with_limit : ℕ → State → State
with_limit n s = record {
  graph = s.graph;
  threads = s.threads;
  service = record { store = s.service.store; answers = s.service.answers; limit = n; image = s.service.image };
}

-- in a state, the commands of `written` being answered
pub record CountKept (o : Setup) (s : State) (written : ℕ → Bool) : Type 0 where
  -- the count in force is that of the last kind 5 written: "From its writing turn"
  pub in_force : s.service.limit ≡ count_of o written
  -- "no command delivered after the change, up to and including the next kind 5, is taken by a worker above the new count": whoever has a
  -- command's node is at most the count of the last kind 5 delivered before that command
  pub taken : (t x : ℕ) → node_of (s.threads t) ≡ some x → t ≤ count_before o (s.graph.seq x)
  -- "a worker above the count starts no search and waits when idle"
  pub waits : (t : ℕ) → s.service.limit < t → s.threads t ≡ Idle → step o t s ≡ s
  -- "One already searching walks to the end and takes nothing"
  pub takes_nothing : (t : ℕ) (at : Node) → s.service.limit < t → s.threads t ≡ Searching at → node_of ((step o t s).threads t) ≡ none
  -- "the one that holds the kind 5 command finishes its removal": whoever has a node goes on whatever count is in force
  pub goes_on : (t x n : ℕ) → 1 ≤ t → node_of (s.threads t) ≡ some x →
      ((step o t (with_limit n s)).graph ≡ (step o t s).graph) × ((step o t (with_limit n s)).threads ≡ (step o t s).threads)

-- the statement: after every schedule
abbrev pub CountIsKept : Type 0
CountIsKept =
    (o : Setup) → Accepted o → (ts : List ℕ) → all_within o.largest ts ≡ true
    → CountKept o (steps o ts (opened o)) (λ c. wrote o c ts (opened o))

-- "A manager must be able to rely on this" (02, A.2), over calls: which worker has which command, and what the worker count in force does, in
-- the lists that any calls have left. Proved in proofs/Count. Assumes nothing.
use Rattle.std.specs.Prelude.{ℕ, ◌≤◌, ◌<◌, ◌≡◌, Bool, List, [], ◌∷◌}
use Rattle.std.proofs.Math.Option.{none, some}
use Rattle.node_set.specs.declared.Node.{Node}
use Rattle.model.specs.declared.Thread.TheVariants.{Idle, Searching}
use Rattle.model.specs.Setup.{Setup}
use Rattle.model.specs.Step.{opened, step}
use Rattle.model.specs.Statement.{wrote}
use Rattle.model.specs.Count.{count_of, count_before, node_of, with_limit}
use Rattle.state_bytes.specs.Layout.{Lists, state_in}
use Rattle.opening.specs.Calls.{Source, open_on, setup_of}
use Rattle.state_bytes.specs.Outcome.{accepted}
use Rattle.controller.specs.Calls.{advance_on, AfterTurn}
use Rattle.controller.specs.Demand3.{Call, lists_after, Proper, schedules}

-- in lists, the commands of `written` being answered
pub record CountKept (o : Setup) (commands : List ℕ) (l : Lists) (written : ℕ → Bool) : Type 0 where
  -- the count in force is that of the last kind 5 written, the opening's where there is none: "From its writing turn"
  pub in_force : (state_in l).service.limit ≡ count_of o written
  -- "no command delivered after the change, up to and including the next kind 5, is taken by a worker above the new count": whoever has a
  -- command's node is at most the count of the last kind 5 delivered before that command, the opening's where there is none
  pub taken : (t x : ℕ) → node_of ((state_in l).threads t) ≡ some x → t ≤ count_before o ((state_in l).graph.seq x)
  -- "a worker above the count starts no search and waits when idle": its turn leaves the lists as they were
  pub waits : (t : ℕ) → t ≤ o.largest → (state_in l).service.limit < t → (state_in l).threads t ≡ Idle → advance_on l commands (t ∷ []) ≡ accepted l
  -- "One already searching walks to the end and takes nothing": its turn leaves it without a node
  pub takes_nothing : (t : ℕ) (at : Node) → t ≤ o.largest → (state_in l).service.limit < t → (state_in l).threads t ≡ Searching at
      → AfterTurn commands l t (λ s. node_of (s.threads t) ≡ none)
  -- "the one that holds the kind 5 command finishes its removal": the turn of whoever has a node is the one that it would have under any count
  pub goes_on : (t x n : ℕ) → 1 ≤ t → t ≤ o.largest → node_of ((state_in l).threads t) ≡ some x
      → AfterTurn commands l t (λ s. ((step o t (with_limit n (state_in l))).graph ≡ s.graph) × ((step o t (with_limit n (state_in l))).threads ≡ s.threads))

-- every accepted opening, and every proper list of calls from what it left
abbrev pub CountIsKeptOverCalls : Type 0
CountIsKeptOverCalls =
    (size workers capacity : ℕ) (commands : List ℕ) (source : Source) (lent l : Lists) → open_on size workers capacity commands source lent ≡ accepted l →
    (calls : List Call) → Proper commands l calls →
    let o : Setup = setup_of size workers capacity commands source in
    CountKept o commands (lists_after calls l) (λ c. wrote o c (schedules calls) (opened o))

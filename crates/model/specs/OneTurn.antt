-- "A worker's look and writing become one turn for kind 3; other kinds keep two." (02, A.8), as a promise about every schedule. Cites Step
-- and the serial run's answers; proved in proofs/OneTurn. Assumes nothing.
use Rattle.std.specs.Prelude.{ℕ, ◌≤◌, ◌≡◌, true, List}
use Rattle.std.proofs.Math.Option.{some}
use Rattle.command.specs.declared.Kind.TheVariants.{Read}
use Rattle.command.specs.declared.Command.{Command}
use Rattle.node_set.specs.declared.Node.{Node}
use Rattle.model.specs.declared.Thread.TheVariants.{Holding, LookedUp, Written}
use Rattle.model.specs.Setup.{Setup}
use Rattle.model.specs.Step.{State, opened, command_of, step, steps}
use Rattle.model.specs.Statement.{Accepted, all_within, serial_answer}

-- from one state to another: the worker of a held read is written, and its command answered as the serial run answers it
abbrev pub ReadDone : Setup → ℕ → Node → State → State → Type 0
ReadDone o t own s s' = (s'.threads t ≡ Written own) × (s'.service.answers (s.graph.seq own.0) ≡ serial_answer o (s.graph.seq own.0))

-- or the worker is looked-up, and store and answers are as they were
abbrev pub OnlyLooked : ℕ → Node → State → State → Type 0
OnlyLooked t own s s' = ((found : ℕ) × (s'.threads t ≡ LookedUp own found)) × (s'.service ≡ s.service)

-- worker t, whose node has command c, in a state
pub record InTurns (o : Setup) (s : State) (t : ℕ) (own : Node) (c : Command) : Type 0 where
  -- holding a read, its next step does both
  pub one : c.kind ≡ Read → s.threads t ≡ Holding own → ReadDone o t own s (step o t s)
  -- and it is never looked-up with one
  pub never : c.kind ≡ Read → (found : ℕ) → s.threads t ≡ LookedUp own found → ⊥
  -- holding another command, its next step is the look alone
  pub two : (c.kind ≡ Read → ⊥) → s.threads t ≡ Holding own → OnlyLooked t own s (step o t s)

-- the statement: after every schedule
abbrev pub ReadsInOneTurn : Type 0
ReadsInOneTurn =
    (o : Setup) → Accepted o → (ts : List ℕ) → all_within o.largest ts ≡ true → (t : ℕ) → 1 ≤ t → t ≤ o.largest → (own : Node) (c : Command)
    → command_of o (steps o ts (opened o)).graph own.0 ≡ some c → InTurns o (steps o ts (opened o)) t own c

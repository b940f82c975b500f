-- "A worker's look and writing become one turn for kind 3; other kinds keep two." (02, A.8), over calls: what one more turn of a worker makes
-- of the lists that any calls have left. Proved in proofs/OneTurn. Assumes nothing.
use Rattle.std.specs.Prelude.{ℕ, ◌≤◌, ◌≡◌, List}
use Rattle.std.proofs.Math.Option.{some}
use Rattle.command.specs.declared.Kind.TheVariants.{Read}
use Rattle.command.specs.declared.Command.{Command}
use Rattle.node_set.specs.declared.Node.{Node}
use Rattle.model.specs.declared.Thread.TheVariants.{Holding, LookedUp}
use Rattle.model.specs.Setup.{Setup}
use Rattle.model.specs.Step.{command_of}
use Rattle.model.specs.OneTurn.{ReadDone, OnlyLooked}
use Rattle.state_bytes.specs.Layout.{Lists, state_in}
use Rattle.opening.specs.Calls.{Source, open_on, setup_of}
use Rattle.state_bytes.specs.Outcome.{accepted}
use Rattle.controller.specs.Calls.{AfterTurn}
use Rattle.controller.specs.Demand3.{Call, lists_after, Proper}

-- worker t, whose node has command c in the lists
pub record InTurns (o : Setup) (commands : List ℕ) (l : Lists) (t : ℕ) (own : Node) (c : Command) : Type 0 where
  -- holding a read: one turn leaves it written, and the command answered as the serial run answers it
  pub one : c.kind ≡ Read → (state_in l).threads t ≡ Holding own → AfterTurn commands l t (ReadDone o t own (state_in l))
  -- and it is never looked-up with one
  pub never : c.kind ≡ Read → (found : ℕ) → (state_in l).threads t ≡ LookedUp own found → ⊥
  -- holding another command: one turn leaves it looked-up, and store and answers as they were
  pub two : (c.kind ≡ Read → ⊥) → (state_in l).threads t ≡ Holding own → AfterTurn commands l t (OnlyLooked t own (state_in l))

-- every accepted opening, and every proper list of calls from what it left
abbrev pub ReadsInOneTurnOverCalls : Type 0
ReadsInOneTurnOverCalls =
    (size workers capacity : ℕ) (commands : List ℕ) (source : Source) (lent l : Lists) → open_on size workers capacity commands source lent ≡ accepted l →
    (calls : List Call) → Proper commands l calls →
    let o : Setup = setup_of size workers capacity commands source in
    (t : ℕ) → 1 ≤ t → t ≤ o.largest → (own : Node) (c : Command) → command_of o (state_in (lists_after calls l)).graph own.0 ≡ some c → InTurns o commands (lists_after calls l) t own c

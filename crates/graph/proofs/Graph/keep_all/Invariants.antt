-- `Graph::keep_all` meets its contract. The loop's invariant: the first n nodes have their commands, and all else stays. Assumes nothing.
use Prim.Native.Nat.{ℕ, ◌<◌}
use mathlib.Core.Path.{◌≡◌}
use mathlib.Core.List.{List}
use Rattle.std.specs.Prelude.{Option}
use Rattle.command.specs.declared.Command.{Command}
use Rattle.command.specs.Read.{commands_in}
use Rattle.model.specs.Setup.{command_at}
use Rattle.graph.specs.Arrays.{numbers}
use Rattle.graph.specs.Items.{kept_at}
use Rattle.graph.proofs.Graph.keep_all.Given as goal

-- each of the first n nodes has the command of its sequence number
abbrev pub KeptBelow : List Command → (ℕ → ℕ) → List (Option Command) → ℕ → Type 0
KeptBelow cs seq items n = (m : ℕ) → m < n → kept_at items m ≡ command_at cs (seq m)

abbrev pub invariant-loop-n : goal.invariant-loop-n
invariant-loop-n l = record {
  kept : KeptBelow (commands_in l.list) (numbers l.fn.self.seq) l.self.items l.n;
  next_is : l.self.next ≡ l.fn.self.next;
  seq_is : l.self.seq ≡ l.fn.self.seq;
  executing_is : l.self.executing ≡ l.fn.self.executing;
  locked_is : l.self.locked ≡ l.fn.self.locked;
  waits_is : l.self.waits ≡ l.fn.self.waits;
}

-- The commands of the nodes in use, kept in the graph so that a step reads no text. Assumes nothing.
use Rattle.std.specs.Prelude.{ℕ, ◌≤◌, ◌≡◌, List, get_or, Option, Some, None}
use Rattle.std.proofs.Math.Option.{none, some}
use Rattle.std.proofs.Math.Option as Model
use Rattle.command.specs.declared.Command.{Command}
use Rattle.model.specs.Setup.{command_at}
use Rattle.graph.specs.declared.Graph.{Graph}
use Rattle.graph.specs.Arrays.{numbers}

-- a node's command, if it has one, as the model has it
abbrev pub item_of : Option Command → Model.Option Command
item_of None = none
item_of (Some c) = some c

-- the command kept for node n
abbrev pub kept_at : List (Option Command) → ℕ → Model.Option Command
kept_at items n = item_of (get_or items n None)

-- each node's command is the one of its sequence number
abbrev pub KeptFor : List Command → (ℕ → ℕ) → List (Option Command) → Type 0
KeptFor cs seq items = (n : ℕ) → n ≤ 150 → kept_at items n ≡ command_at cs (seq n)

-- those of a table are
abbrev pub Kept : List Command → Graph → Type 0
Kept cs graph = KeptFor cs (numbers graph.seq) graph.items

-- What a worker's step needs of its memory, whatever the list of commands is. Assumes nothing.
use Rattle.std.specs.Prelude.{ℕ, ◌≤◌, ◌≡◌, List, length}
use Rattle.std.proofs.Math.Option.{some}
use Rattle.command.specs.declared.Command.{Command}
use Rattle.model.specs.declared.Thread.{Thread}
use Rattle.model.specs.Image.{image_length}
use Rattle.graph.specs.declared.Graph.{Graph}
use Rattle.graph.specs.Arrays.{numbers, Nodes, NodesWithin}
use Rattle.graph.specs.Items.{kept_at}

-- the sequence number of each node that has a command is that of an answer
abbrev pub Placed : Graph → List ℕ → Type 0
Placed graph answers =
    (n : ℕ) (c : Command) → n ≤ 150 → kept_at graph.items n ≡ some c → (1 ≤ numbers graph.seq n) × (numbers graph.seq n ≤ length answers)

pub record WorkerReady (graph : Graph) (keys answers image : List ℕ) (free : ℕ) (thread : Thread) : Type 0 where
  pub nodes : Nodes graph.next
  pub first : free ≤ 150
  pub within : NodesWithin thread
  pub placed : Placed graph answers
  pub imaged : length image ≡ image_length (length keys)

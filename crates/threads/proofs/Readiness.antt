-- Memories with some parts changed, and which of them are ready for another step. Assumes nothing.
use Prim.Native.Nat.{ℕ}
use mathlib.Core.Path.{◌≡◌}
use mathlib.Core.List.{List}
use lib.ListN.{length}
use Rattle.command.specs.Read.{commands_in}
use Rattle.model.specs.declared.Thread.{Thread}
use Rattle.graph.specs.declared.Graph.{Graph}
use Rattle.graph.specs.Arrays.{Nodes, NodesWithin, SameCommands}
use Rattle.graph.specs.Memory.{Memory, memory, Ready, Steps}
use Rattle.graph.proofs.Commands.{kept_unchanged}

-- a memory with another graph
abbrev pub with_graph : Graph → Memory → Memory
with_graph graph m = memory graph m.keys m.chutes m.answers m.image m.counters

-- a memory with another store, other answers, another image and another count in force
abbrev pub with_store : List ℕ → List ℕ → List ℕ → List ℕ → ℕ → ℕ → Memory → Memory
with_store keys chutes answers image used limit m =
    memory m.graph keys chutes answers image (record { free = m.counters.free; loaded = m.counters.loaded; used = used; limit = limit })

-- a step from a state that is known
pub from_known : {list : List ℕ} {t : ℕ} {m : Memory} {thread known thread' : Thread} {m' : Memory}
    → thread ≡ known → (Ready list m known → Steps list t known m thread' m') → Ready list m thread → Steps list t thread m thread' m'
from_known is steps = rw is steps

-- a step of thread 0 is one of each thread that is thread 0
pub of_loader : {list : List ℕ} {t : ℕ} {thread : Thread} {m : Memory} {thread' : Thread} {m' : Memory} → t ≡ 0 → Steps list 0 thread m thread' m' → Steps list t thread m thread' m'
of_loader is steps = rw is steps

module _ (list : List ℕ) (m : Memory) (thread : Thread) (ready : Ready list m thread) where
  -- a graph of nodes with the sequence numbers and commands as they were is ready: each node's command is still the one of its sequence number
  pub graph_ready : (thread' : Thread) (graph' : Graph) → Nodes graph'.next → SameCommands m.graph graph' → NodesWithin thread' → Ready list (with_graph graph' m) thread'
  graph_ready thread' graph' nodes same within = record {
    nodes = nodes;
    free = ready.free;
    within = within;
    kept = kept_unchanged (commands_in list) m.graph graph' same ready.kept;
    whole = ready.whole;
    few = ready.few;
  }

  -- a store and an image of any contents, with as many answers, is ready: readiness does not speak of it
  pub store_ready : (thread' : Thread) (keys' chutes' answers' image' : List ℕ) (used' limit' : ℕ) → length answers' ≡ length m.answers → NodesWithin thread'
      → Ready list (with_store keys' chutes' answers' image' used' limit' m) thread'
  store_ready thread' keys' chutes' answers' image' used' limit' count within =
      record { nodes = ready.nodes; free = ready.free; within = within; kept = ready.kept; whole = rw count ready.whole; few = rw count ready.few }

  pub ready_beside : (keys chutes image : List ℕ) → Ready list (memory m.graph keys chutes m.answers image m.counters) thread
  ready_beside keys chutes image =
      record { nodes = ready.nodes; free = ready.free; within = ready.within; kept = ready.kept; whole = ready.whole; few = ready.few }

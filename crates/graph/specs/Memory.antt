-- The graph, the store, the answers and the counters as a state of the model. Assumes nothing.
use Rattle.std.specs.Prelude.{ℕ, ◌≤◌, ◌*◌, ◌≡◌, true, cond, List, ◌∷◌, length, get_or}
use Rattle.std.proofs.Math.Option.{Option, none, some}
use Rattle.command.specs.declared.Command.{Command}
use Rattle.command.specs.Count.{count_after}
use Rattle.node_set.specs.declared.Node.{Node}
use Rattle.model.specs.declared.Thread.{Thread}
use Rattle.model.specs.declared.Thread.TheVariants.{Loading}
use Rattle.model.specs.Upd.{upd}
use Rattle.model.specs.Setup.{Setup, both_dependent}
use Rattle.model.specs.Store.{Store}
use Rattle.model.specs.Service.{Service, image_after, write_for}
use Rattle.model.specs.Step.{State, step, loader_walk}
use Rattle.store.specs.Lists.{store_of}
use Rattle.model.specs.declared.Counters.{Counters}
use Rattle.graph.specs.declared.Graph.{Graph}
use Rattle.graph.specs.Arrays.{numbers, flags, sets, Nodes, NodesWithin, shown_graph, moved_with, SameCommands}
use Rattle.command.specs.Read.{commands_in}
use Rattle.graph.specs.Items.{kept_at, KeptFor, Kept}

-- the answer to each command, by its sequence number
abbrev pub answers_of : List ℕ → ℕ → ℕ
answers_of answers c = get_or (0 ∷ answers) c 0

-- the graph, the store's lists, the answers, the image, and what steps count
pub record Memory : Type 0 where
  pub graph : Graph
  pub keys : List ℕ
  pub chutes : List ℕ
  pub answers : List ℕ
  pub image : List ℕ
  pub counters : Counters

abbrev pub memory : Graph → List ℕ → List ℕ → List ℕ → List ℕ → Counters → Memory
memory graph keys chutes answers image counters = record { graph = graph; keys = keys; chutes = chutes; answers = answers; image = image; counters = counters }

-- the state that memory and threads show
abbrev pub service_of : List ℕ → List ℕ → List ℕ → List ℕ → ℕ → ℕ → Service
service_of keys chutes answers image used limit = record { store = store_of keys chutes used; answers = answers_of answers; limit = limit; image = image }

abbrev pub shown : Memory → (ℕ → Thread) → State
shown m threads = record {
  graph = shown_graph m.graph m.counters.free.0 m.counters.loaded.0;
  threads = threads;
  service = service_of m.keys m.chutes m.answers m.image m.counters.used m.counters.limit;
}

-- what noting a dependence changes: a node is a member of the own node's set if the commands of the two are dependent
pub record AddsDependence (own y : ℕ) (graph graph' : Graph) : Type 0 where
  pub waits_is : sets graph'.waits ≡ cond (both_dependent (kept_at graph.items y) (kept_at graph.items own)) (upd (sets graph.waits) own (upd (sets graph.waits own) y true)) (sets graph.waits)
  pub others : SameCommands graph graph' × (graph'.next ≡ graph.next) × (graph'.executing ≡ graph.executing) × (graph'.locked ≡ graph.locked)

-- the loader's walk: the model's, on every state that shows what it reads of the table
abbrev pub LoaderWalks : Node → Node → Graph → Thread → Graph → Type 0
LoaderWalks at own graph r graph' =
    (o : Setup) (s : State) → s.graph.next ≡ numbers graph.next → s.graph.executing ≡ flags graph.executing → s.graph.locked ≡ flags graph.locked
    → s.graph.waits ≡ sets graph.waits → KeptFor o.commands s.graph.seq graph.items → s.threads 0 ≡ Loading at own
    → loader_walk o at.0 own.0 (s.graph.next at.0) s ≡ moved_with 0 r (numbers graph'.next) s.graph.seq (flags graph'.executing) (flags graph'.locked) (sets graph'.waits) s.graph.free s

-- the worker count in force after a command is written
abbrev pub limit_after : Option Command → ℕ → ℕ
limit_after none limit = limit
limit_after (some c) limit = count_after c limit

-- the image after the command of a place is written
abbrev pub image_for : Option Command → ℕ → ℕ → Store → List ℕ → List ℕ
image_for none capacity place st image = image
image_for (some c) capacity place st image = image_after c.kind capacity place st image

-- the writing of a command's answer in these lists: the model's
abbrev pub Writes : Option Command → ℕ → ℕ → List ℕ → List ℕ → List ℕ → ℕ → List ℕ → List ℕ → List ℕ → ℕ → Type 0
Writes item place found keys chutes answers used keys' chutes' answers' used' =
    (o : Setup) (limit : ℕ) (image : List ℕ) → o.capacity ≡ length keys
    → write_for o item place found (service_of keys chutes answers image used limit)
    ≡ service_of keys' chutes' answers' (image_for item (length keys) place (store_of keys chutes used) image) used' (limit_after item limit)

-- what a step needs of its memory: node numbers that are nodes', each node's command kept, and a list of as many commands as answers
pub record Ready (list : List ℕ) (m : Memory) (thread : Thread) : Type 0 where
  pub nodes : Nodes m.graph.next
  pub free : m.counters.free.0 ≤ 150
  pub within : NodesWithin thread
  pub kept : Kept (commands_in list) m.graph
  pub whole : length list ≡ 16 * length m.answers
  pub few : length m.answers ≤ 4096

-- what a step promises: for all threads of which t is in state `thread`, memory and threads show the model's next state, and the memory is
-- ready for another step
pub record Steps (list : List ℕ) (t : ℕ) (thread : Thread) (m : Memory) (thread' : Thread) (m' : Memory) : Type 0 where
  pub step_is : (o : Setup) (threads : ℕ → Thread) → o.commands ≡ commands_in list → o.capacity ≡ length m.keys → threads t ≡ thread →
      shown m' (upd threads t thread') ≡ step o t (shown m threads)
  pub ready : Ready list m' thread'

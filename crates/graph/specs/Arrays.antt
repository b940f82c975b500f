-- The graph's arrays as the model's functions on node numbers. Assumes nothing.
use Rattle.std.specs.Prelude.{ℕ, ◌≤◌, ◌≡◌, Bool, true, false, not, ◌&&◌, List, [], get_or, set, Some, None}
use Rattle.command.specs.declared.Command.{Command}
use Rattle.node_set.specs.declared.Node.{Node}
use Rattle.node_set.specs.Members.{member, none_below}
use Rattle.model.specs.declared.Thread.{Thread}
use Rattle.model.specs.declared.Thread.TheVariants.{Idle, Loading, Searching, Holding, LookedUp, Written, Walking, Clearing}
use Rattle.model.specs.Upd.{upd}
use Rattle.model.specs.Graph.{graph_of, no_node}
use Rattle.model.specs.Graph as Model
use Rattle.model.specs.Step.{State, is_allowed, move_to, enter, searching, walking, clearing}
use Rattle.graph.specs.declared.Graph.{Graph}

-- an array of numbers, of flags, and of sets of nodes
abbrev pub numbers : List ℕ → ℕ → ℕ
numbers l n = get_or l n 0

abbrev pub flags : List Bool → ℕ → Bool
flags l n = get_or l n false

abbrev pub sets : List (List ℕ) → ℕ → ℕ → Bool
sets l n = member (get_or l n [])

-- every number of an array is one of a node, 0 to 150
abbrev pub Nodes : List ℕ → Type 0
Nodes l = (n : ℕ) → get_or l n 0 ≤ 150

-- the nodes of a thread are numbers 0 to 150
abbrev pub NodesWithin : Thread → Type 0
NodesWithin Idle = Unit {0}
NodesWithin (Loading at own) = (at.0 ≤ 150) × (own.0 ≤ 150)
NodesWithin (Searching at) = at.0 ≤ 150
NodesWithin (Holding own) = own.0 ≤ 150
NodesWithin (LookedUp own found) = own.0 ≤ 150
NodesWithin (Written own) = own.0 ≤ 150
NodesWithin (Walking at own) = (at.0 ≤ 150) × (own.0 ≤ 150)
NodesWithin (Clearing at own) = (at.0 ≤ 150) × (own.0 ≤ 150)

-- the arrays show a graph
pub record Shows (g : Model.Graph) (next seq : List ℕ) (executing locked : List Bool) (waits : List (List ℕ)) : Type 0 where
  pub next_is : g.next ≡ numbers next
  pub seq_is : g.seq ≡ numbers seq
  pub executing_is : g.executing ≡ flags executing
  pub locked_is : g.locked ≡ flags locked
  pub waits_is : g.waits ≡ sets waits

-- those of a table do
abbrev pub Shown : Model.Graph → Graph → Type 0
Shown g graph = Shows g graph.next graph.seq graph.executing graph.locked graph.waits

-- the graph that a table shows, with a first free node, when so many commands are loaded
abbrev pub shown_graph : Graph → ℕ → ℕ → Model.Graph
shown_graph graph free loaded = graph_of (numbers graph.next) (numbers graph.seq) (flags graph.executing) (flags graph.locked) (sets graph.waits) free loaded

-- thread t in another state, and another graph in which as many commands are loaded
abbrev pub moved_to : ℕ → Thread → Graph → ℕ → State → State
moved_to t thread graph free s = move_to t thread (shown_graph graph free s.graph.loaded) s

-- whether a node is waiting with an empty set
abbrev pub is_ready : Graph → ℕ → Bool
is_ready graph n = not (flags graph.executing n) && none_below 192 (sets graph.waits n)

-- ---- what the parts of a step change

-- the sequence numbers and the commands of the nodes stay
abbrev pub SameCommands : Graph → Graph → Type 0
SameCommands graph graph' = (graph'.seq ≡ graph.seq) × (graph'.items ≡ graph.items)

-- a table with other locks
abbrev pub with_locked : List Bool → Graph → Graph
with_locked locked graph =
    record { next = graph.next; seq = graph.seq; executing = graph.executing; locked = locked; waits = graph.waits; items = graph.items }

-- stepping on locks the next node and unlocks the old one
abbrev pub SteppedOn : ℕ → ℕ → Graph → Graph → Type 0
SteppedOn at y graph graph' = graph' ≡ with_locked (set (set graph.locked y true) at false) graph

-- what loading changes: the first free node gets next index 0, the next command and its place, and the head is locked
pub record Loaded (free place : ℕ) (command : Command) (graph graph' : Graph) (rest : ℕ) : Type 0 where
  pub next_is : numbers graph'.next ≡ upd (numbers graph.next) free 0
  pub seq_is : numbers graph'.seq ≡ upd (numbers graph.seq) free place
  pub locked_is : flags graph'.locked ≡ upd (flags graph.locked) 0 true
  pub rest_is : rest ≡ numbers graph.next free
  pub items_are : graph'.items ≡ set graph.items free (Some command)
  pub others : (graph'.executing ≡ graph.executing) × (graph'.waits ≡ graph.waits)

-- what linking a node changes
pub record Linked (at own : ℕ) (graph graph' : Graph) : Type 0 where
  pub next_is : numbers graph'.next ≡ upd (numbers graph.next) at own
  pub executing_is : flags graph'.executing ≡ upd (flags graph.executing) own false
  pub locked_is : flags graph'.locked ≡ upd (flags graph.locked) at false
  pub others : SameCommands graph graph' × (graph'.waits ≡ graph.waits)

-- what returning a node to the free list changes
pub record PutBack (own free : ℕ) (graph graph' : Graph) : Type 0 where
  pub next_is : numbers graph'.next ≡ upd (numbers graph.next) own free
  pub seq_is : numbers graph'.seq ≡ upd (numbers graph.seq) own 0
  pub executing_is : flags graph'.executing ≡ upd (flags graph.executing) own false
  pub locked_is : flags graph'.locked ≡ upd (flags graph.locked) own false
  pub waits_is : sets graph'.waits ≡ upd (sets graph.waits) own no_node
  pub items_are : graph'.items ≡ set graph.items own None

-- ---- the kinds of step: the model's, on every state that shows what the step reads of the table; all else of its graph stays

-- thread t in another state, and another graph, part by part, in which as many commands are loaded
abbrev pub moved_with : ℕ → Thread → (ℕ → ℕ) → (ℕ → ℕ) → (ℕ → Bool) → (ℕ → Bool) → (ℕ → ℕ → Bool) → ℕ → State → State
moved_with t thread next seq executing locked waits free s = move_to t thread (graph_of next seq executing locked waits free s.graph.loaded) s

-- "Wait if the head is locked; else lock it": on every state with these locks, thread t is what the model's `enter` makes it
abbrev pub Entered : Thread → Thread → Graph → Thread → Graph → Type 0
Entered thread entered graph r graph' =
    (s : State) (t : ℕ) → s.graph.locked ≡ flags graph.locked → s.threads t ≡ thread
    → enter t entered s ≡ moved_with t r s.graph.next s.graph.seq s.graph.executing (flags graph'.locked) s.graph.waits s.graph.free s

-- the kinds of a worker's step along the chain
abbrev pub Searches : Bool → Node → Graph → Thread → Graph → Type 0
Searches allowed at graph r graph' =
    (s : State) (t : ℕ) → is_allowed t s ≡ allowed → s.graph.next ≡ numbers graph.next → s.graph.executing ≡ flags graph.executing
    → s.graph.locked ≡ flags graph.locked → s.graph.waits ≡ sets graph.waits → s.threads t ≡ Searching at
    → searching t at.0 (s.graph.next at.0) s ≡ moved_with t r s.graph.next s.graph.seq (flags graph'.executing) (flags graph'.locked) s.graph.waits s.graph.free s

abbrev pub Walks : Node → Node → Graph → Thread → Graph → Type 0
Walks at own graph r graph' =
    (s : State) (t : ℕ) → s.graph.next ≡ numbers graph.next → s.graph.locked ≡ flags graph.locked → s.threads t ≡ Walking at own
    → walking t at.0 own.0 (s.graph.next at.0) s ≡ moved_with t r (numbers graph'.next) s.graph.seq s.graph.executing (flags graph'.locked) s.graph.waits s.graph.free s

abbrev pub ClearsOn : Node → Node → ℕ → Graph → Thread → ℕ → Graph → Type 0
ClearsOn at own free graph r free' graph' =
    (s : State) (t : ℕ) → Shown s.graph graph → s.graph.free ≡ free → s.threads t ≡ Clearing at own
    → clearing t at.0 own.0 (s.graph.next at.0) s ≡ moved_to t r graph' free' s

-- the commands of all nodes stay, but for the own node's, which goes where clearing ends
abbrev pub Forgets : ℕ → Thread → Graph → Graph → Type 0
Forgets own r graph graph' = (r ≡ Idle → graph'.items ≡ set graph.items own None) × ((r ≡ Idle → ⊥) → graph'.items ≡ graph.items)

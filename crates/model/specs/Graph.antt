-- The records of document 01, "Records and turns", as a graph: the chain, the unused records, and what each record holds. Assumes nothing.
use Rattle.std.specs.Prelude.{ℕ, zero, suc, ◌+◌, Bool, false, cond, ◌&&◌, List, [], ◌∷◌, eqb, leb, ltb}
use Rattle.model.specs.Upd.{upd}
use Rattle.model.specs.Setup.{Setup}

-- "Each has a next index; 0 ends the chain. Unused records form a second chain [..] Each record has its command's place, a state (waiting
-- or executing), a lock and a set of records it waits for." Nodes are numbered as the document's records, node 0 is the head; `free` is
-- the first unused node, `loaded` counts the commands that were given a node.
pub record Graph : Type 0 where
  pub next : ℕ → ℕ
  pub seq : ℕ → ℕ
  pub executing : ℕ → Bool
  pub locked : ℕ → Bool
  pub waits : ℕ → ℕ → Bool
  pub free : ℕ
  pub loaded : ℕ

abbrev pub graph_of : (ℕ → ℕ) → (ℕ → ℕ) → (ℕ → Bool) → (ℕ → Bool) → (ℕ → ℕ → Bool) → ℕ → ℕ → Graph
graph_of next seq executing locked waits free loaded =
    record { next = next; seq = seq; executing = executing; locked = locked; waits = waits; free = free; loaded = loaded }

-- ---- a graph with one thing changed

unfoldable pub set_next : ℕ → ℕ → Graph → Graph
set_next n m g = graph_of (upd g.next n m) g.seq g.executing g.locked g.waits g.free g.loaded

unfoldable pub set_seq : ℕ → ℕ → Graph → Graph
set_seq n c g = graph_of g.next (upd g.seq n c) g.executing g.locked g.waits g.free g.loaded

unfoldable pub set_executing : ℕ → Bool → Graph → Graph
set_executing n b g = graph_of g.next g.seq (upd g.executing n b) g.locked g.waits g.free g.loaded

unfoldable pub set_locked : ℕ → Bool → Graph → Graph
set_locked n b g = graph_of g.next g.seq g.executing (upd g.locked n b) g.waits g.free g.loaded

unfoldable pub set_waits : ℕ → (ℕ → Bool) → Graph → Graph
set_waits n set g = graph_of g.next g.seq g.executing g.locked (upd g.waits n set) g.free g.loaded

unfoldable pub set_free : ℕ → Graph → Graph
set_free n g = graph_of g.next g.seq g.executing g.locked g.waits n g.loaded

unfoldable pub set_loaded : ℕ → Graph → Graph
set_loaded c g = graph_of g.next g.seq g.executing g.locked g.waits g.free c

-- ---- opening

unfoldable pub no_node : ℕ → Bool
no_node n = false

-- "at first 1, 2 and so on"; "Records past the graph size keep next index 0"; the head's chain is empty
unfoldable pub first_next : ℕ → ℕ → ℕ
first_next size n = cond (leb 1 n && ltb n size) (n + 1) 0

-- "An unused record, and the head at opening, has place 0, is waiting and unlocked and has an empty set"
unfoldable pub opened_graph : Setup → Graph
unfolding first_next no_node
opened_graph o = graph_of (first_next o.size) (λ n. 0) no_node no_node (λ n. no_node) 1 0

-- ---- the chain

-- the nodes behind a node, in chain order; at most k, so that a chain that runs in a circle ends too
unfoldable pub chain_from : ℕ → ℕ → Graph → List ℕ
chain_from zero x g = []
chain_from (suc k) x g = cond (eqb (g.next x) 0) [] (g.next x ∷ chain_from k (g.next x) g)

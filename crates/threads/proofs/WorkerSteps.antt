-- The model's step of a worker, by the worker's state, from what the functions on the arrays ensure. Assumes nothing.
use Prim.Native.Nat.{ℕ, ◌≤◌}
use mathlib.Core.Path.{◌≡◌, refl, sym, ap, ◌∙◌}
use mathlib.Core.Bool.{Bool, true, false}
use mathlib.Core.List.{List}
use mathlib.Core.Option.{Option, none, some}
use lib.ListN.{length}
use lib.Dec.{leb}
use borrow.Author.Tests.{ne_eqb}
use Rattle.command.specs.declared.Command.{Command}
use Rattle.node_set.specs.declared.Node.{Node}
use Rattle.model.specs.declared.Thread.{Thread}
use Rattle.model.specs.declared.Thread.TheVariants.{Idle, Loading, Searching, Holding, LookedUp, Written, Walking, Clearing}
use Rattle.model.specs.Upd.{upd}
use Rattle.model.specs.Setup.{Setup}
use Rattle.model.specs.Service.{found_for, in_one_step}
use Rattle.model.specs.Step.{node, is_allowed, idle, step, worker_step, move_to, serve_to, command_of, holding, looked_up}
use Rattle.command.proofs.Tests.{true_false}
use Rattle.model.proofs.Upd.{upd_id}
use Rattle.store.specs.Lists.{store_of}
use Rattle.graph.specs.declared.Graph.{Graph}
use Rattle.graph.specs.Arrays.{numbers, Nodes, NodesWithin, SameCommands, Shown, moved_to, Entered, Searches, Walks, ClearsOn}
use Rattle.command.specs.Read.{commands_in}
use Rattle.graph.specs.Items.{kept_at, Kept}
use Rattle.graph.specs.Memory.{Memory, memory, shown, limit_after, image_for, Ready, Steps, Writes}
use Rattle.graph.proofs.Bridge.{shown_shows}
use Rattle.graph.proofs.Writing.{read_keeps_limit, read_keeps_image}
use Rattle.threads.proofs.Readiness.{with_graph, with_store, graph_ready, store_ready}

-- what a worker's step makes of memory and threads, by the worker's state
abbrev WorkerMakes : List ℕ → ℕ → Thread → Memory → Thread → Memory → Type 0
WorkerMakes list t thread m thread' m' =
    (o : Setup) (threads : ℕ → Thread) → o.commands ≡ commands_in list → o.capacity ≡ length m.keys → threads t ≡ thread
    → worker_step o t thread (shown m threads) ≡ shown m' (upd threads t thread')

-- entering changes locks alone
abbrev Locks : Graph → Graph → Type 0
Locks graph graph' = (graph'.next ≡ graph.next) × (graph'.executing ≡ graph.executing) × (graph'.waits ≡ graph.waits)

-- what is written in one step is a command
pub one_step_command : (item : Option Command) → in_one_step item ≡ true → (c : Command) × (item ≡ some c)
unfolding in_one_step
one_step_command none one = absurd (true_false false one refl)
one_step_command (some c) one = (c, refl)

module _ (list : List ℕ) (t : ℕ) (other : t ≡ 0 → ⊥) (m : Memory) where
  -- a step of a thread other than 0 is a worker's
  worker_steps : (thread thread' : Thread) (m' : Memory) → WorkerMakes list t thread m thread' m'
      → Ready list m' thread' → Steps list t thread m thread' m'
  unfolding step
  worker_steps thread thread' m' makes ready = record {
    step_is = λ o threads commands capacity is. sym (rw (ne_eqb t 0 other, is) (makes o threads commands capacity is));
    ready = ready;
  }

  -- a worker in the loader's state does nothing
  pub worker_waits : (at own : Node) (thread : Thread) → thread ≡ Loading at own
      → Ready list m thread → Steps list t thread m thread m
  unfolding worker_step
  worker_waits at own thread known =
      worker_steps thread thread m
      (λ o threads commands capacity is. rw (upd_id threads t thread (sym is), known))

  -- a step along the chain, where sequence numbers and commands stay
  along : (thread r : Thread) (graph' : Graph)
      → ((o : Setup) (threads : ℕ → Thread) → threads t ≡ thread → worker_step o t thread (shown m threads) ≡ moved_to t r graph' m.counters.free.0 (shown m threads))
      → NodesWithin r → Nodes graph'.next → SameCommands m.graph graph' → Ready list m thread → Steps list t thread m r (with_graph graph' m)
  unfolding move_to
  along thread r graph' makes within nodes same ready =
      worker_steps thread r (with_graph graph' m) (λ o threads commands capacity is. makes o threads is) (graph_ready list m thread ready r graph' nodes same within)

  -- each memory shows its own graph
  shows : (threads : ℕ → Thread) → Shown (shown m threads).graph m.graph
  shows threads = shown_shows m.graph m.counters.free.0 m.counters.loaded.0

  -- an idle worker above the count in force waits; one within it, and one that has written, try to enter as the model's do
  pub idle_waits : (thread : Thread) → thread ≡ Idle → leb t m.counters.limit ≡ false → Ready list m thread → Steps list t thread m thread m
  unfolding worker_step idle is_allowed
  idle_waits thread known above = worker_steps thread thread m (λ o threads commands capacity is. rw (upd_id threads t thread (sym is), known, above))

  module _ (r : Thread) (graph' : Graph) (within : NodesWithin r) (nodes : Nodes graph'.next) (same : SameCommands m.graph graph') where
    pub idle_enters : leb t m.counters.limit ≡ true → Entered Idle (Searching (node 0)) m.graph r graph' → Locks m.graph graph' → Ready list m Idle
        → Steps list t Idle m r (with_graph graph' m)
    unfolding worker_step idle is_allowed
    idle_enters may steps locks =
        along Idle r graph' (λ o threads is. rw (may, same.0, locks.0, locks.1, locks.2) (steps (shown m threads) t refl is)) within nodes same

    pub written_enters : (own : Node) → Entered (Written own) (Walking (node 0) own) m.graph r graph' → Locks m.graph graph' → Ready list m (Written own)
        → Steps list t (Written own) m r (with_graph graph' m)
    unfolding worker_step
    written_enters own steps locks =
        along (Written own) r graph' (λ o threads is. rw (same.0, locks.0, locks.1, locks.2) (steps (shown m threads) t refl is)) within nodes same

    -- searching and walking are the model's: the graph's steps ensure it of every state that shows what they read
    pub searching_steps : (at : Node) (allowed : Bool) → leb t m.counters.limit ≡ allowed → Searches allowed at m.graph r graph'
        → (graph'.next ≡ m.graph.next) × (graph'.waits ≡ m.graph.waits) → Ready list m (Searching at) → Steps list t (Searching at) m r (with_graph graph' m)
    unfolding worker_step is_allowed
    searching_steps at allowed al steps stays =
        along (Searching at) r graph' (λ o threads is. rw (same.0, stays.0, stays.1) (steps (shown m threads) t al refl refl refl refl is)) within nodes same

    pub walking_steps : (at own : Node) → Walks at own m.graph r graph' → (graph'.executing ≡ m.graph.executing) × (graph'.waits ≡ m.graph.waits)
        → Ready list m (Walking at own) → Steps list t (Walking at own) m r (with_graph graph' m)
    unfolding worker_step
    walking_steps at own steps stays =
        along (Walking at own) r graph' (λ o threads is. rw (same.0, stays.0, stays.1) (steps (shown m threads) t refl refl is)) within nodes same

  -- and so is clearing, which keeps the commands right that it forgets
  pub clearing_steps : (at own : Node) (r : Thread) (free' : Node) (graph' : Graph) → ClearsOn at own m.counters.free.0 m.graph r free'.0 graph'
      → NodesWithin r → free'.0 ≤ 150 → Nodes graph'.next → Kept (commands_in list) graph' → Ready list m (Clearing at own)
      → Steps list t (Clearing at own) m r
      (memory graph' m.keys m.chutes m.answers m.image (record { free = free'; loaded = m.counters.loaded; used = m.counters.used; limit = m.counters.limit }))
  unfolding worker_step move_to
  clearing_steps at own r free' graph' steps within small nodes kept ready =
      worker_steps (Clearing at own) r (memory graph' m.keys m.chutes m.answers m.image (record { free = free'; loaded = m.counters.loaded; used = m.counters.used; limit = m.counters.limit }))
      (λ o threads commands capacity is. steps (shown m threads) t (shows threads) refl is)
      (record { nodes = nodes; free = small; within = within; kept = kept; whole = ready.whole; few = ready.few })

  module _ (own : Node) where
    -- the command of a ready node is the one kept for it
    command_kept : (thread : Thread) (o : Setup) (threads : ℕ → Thread) → Ready list m thread → own.0 ≤ 150 → o.commands ≡ commands_in list
        → command_of o (shown m threads).graph own.0 ≡ kept_at m.graph.items own.0
    unfolding command_of
    command_kept thread o threads ready small commands = rw commands (sym (ready.kept own.0 small))

    module _ (item : Option Command) (item_is : item ≡ kept_at m.graph.items own.0) where
      -- the image after the command of a place is written
      abbrev saved : ℕ → List ℕ
      saved place = image_for item (length m.keys) place (store_of m.keys m.chutes m.counters.used) m.image

      -- what a worker with that command writes after a lookup is what the model writes
      module _ (thread : Thread) (ready : Ready list m thread) (small : own.0 ≤ 150) (place : ℕ) (place_is : place ≡ numbers m.graph.seq own.0)
          (found : ℕ) (keys' chutes' answers' : List ℕ) (used' : ℕ)
          (writes : Writes item place found m.keys m.chutes m.answers m.counters.used keys' chutes' answers' used')
          (count : length answers' ≡ length m.answers) where
        abbrev written : Memory
        written = with_store keys' chutes' answers' (saved place) used' (limit_after item m.counters.limit) m

        writes_as_model : (o : Setup) (threads : ℕ → Thread) → o.commands ≡ commands_in list → o.capacity ≡ length m.keys
            → looked_up o t own.0 found (shown m threads) ≡ shown written (upd threads t (Written own))
        unfolding looked_up serve_to
        writes_as_model o threads commands capacity = rw (command_kept thread o threads ready small commands, ← item_is, ← place_is, writes o m.counters.limit m.image capacity)

        written_ready : Ready list written (Written own)
        written_ready = store_ready list m thread ready (Written own) keys' chutes' answers' _ used' _ count small

      -- a holding worker finds what the model's lookup of that command finds, and writes at once what is written in one step
      module _ (ready : Ready list m (Holding own)) (found : ℕ)
          (found_is : found ≡ found_for item (store_of m.keys m.chutes m.counters.used)) where
        pub holding_looks_up : in_one_step item ≡ false → Steps list t (Holding own) m (LookedUp own found) m
        unfolding worker_step holding serve_to
        holding_looks_up two =
            worker_steps (Holding own) (LookedUp own found) m
            (λ o threads commands capacity is. rw (command_kept (Holding own) o threads ready ready.within commands, ← item_is, two, ← found_is))
            (store_ready list m (Holding own) ready (LookedUp own found) m.keys m.chutes m.answers m.image m.counters.used m.counters.limit refl ready.within)

        -- the store stays, whatever is written in one step
        pub holding_writes : in_one_step item ≡ true → (place : ℕ) → place ≡ numbers m.graph.seq own.0 → (answers' : List ℕ)
            → Writes item place found m.keys m.chutes m.answers m.counters.used m.keys m.chutes answers' m.counters.used
            → length answers' ≡ length m.answers
            → Steps list t (Holding own) m (Written own) (with_store m.keys m.chutes answers' m.image m.counters.used m.counters.limit m)
        unfolding worker_step holding
        holding_writes one place place_is answers' writes count =
            let kept = read_keeps_limit item one m.counters.limit in
            let same_image = read_keeps_image item one (length m.keys) place (store_of m.keys m.chutes m.counters.used) m.image in
            worker_steps (Holding own) (Written own) (with_store m.keys m.chutes answers' m.image m.counters.used m.counters.limit m)
            (λ o threads commands capacity is.
            let same = command_kept (Holding own) o threads ready ready.within commands ∙ sym item_is in
            rw (ap in_one_step same ∙ one, ap (λ (c : Option Command). found_for c (shown m threads).service.store) same ∙ sym found_is)
            (rw (kept, same_image) at (writes_as_model (Holding own) ready ready.within place place_is found _ _ answers' _ writes count o threads commands capacity)))
            (store_ready list m (Holding own) ready (Written own) _ _ answers' _ _ _ count ready.within)

      -- and one that has looked up writes
      pub looked_up_writes : (place : ℕ) → place ≡ numbers m.graph.seq own.0 → (found : ℕ) (keys' chutes' answers' : List ℕ) (used' : ℕ)
          → Writes item place found m.keys m.chutes m.answers m.counters.used keys' chutes' answers' used'
          → length answers' ≡ length m.answers → Ready list m (LookedUp own found)
          → Steps list t (LookedUp own found) m (Written own) (with_store keys' chutes' answers' (saved place) used' (limit_after item m.counters.limit) m)
      unfolding worker_step
      looked_up_writes place place_is found keys' chutes' answers' used' writes count ready =
          worker_steps (LookedUp own found) (Written own) (with_store keys' chutes' answers' (saved place) used' (limit_after item m.counters.limit) m)
          (λ o threads commands capacity is. writes_as_model (LookedUp own found) ready ready.within place place_is found keys' chutes' answers' used' writes count o threads commands capacity)
          (written_ready (LookedUp own found) ready ready.within place place_is found keys' chutes' answers' used' writes count)

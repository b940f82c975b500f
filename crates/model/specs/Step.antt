-- The state and the steps ("turns") of document 01, "Records and turns": what each thread's step changes, case by case in the order and
-- words of the document's two lists. A step that would block changes nothing ("a wait"). Every definition is total: it says what a step
-- does on every state, also on one that no schedule reaches. Assumes nothing.
use Rattle.std.specs.Prelude.{ℕ, ◌+◌, Bool, true, false, not, cond, ◌&&◌, ◌||◌, List, [], ◌∷◌, length, eqb, leb}
use Rattle.std.proofs.Math.Option.{Option}
use Rattle.command.specs.declared.Command.{Command}
use Rattle.node_set.specs.declared.Node.{Node}
use Rattle.node_set.specs.Members.{none_below}
use Rattle.model.specs.declared.Thread.{Thread}
use Rattle.model.specs.declared.Thread.TheVariants.{Idle, Loading, Searching, Holding, LookedUp, Written, Walking, Clearing}
use Rattle.model.specs.Upd.{upd}
use Rattle.model.specs.Setup.{Setup, command_at, both_dependent}
use Rattle.model.specs.Graph.{Graph, set_next, set_seq, set_executing, set_locked, set_waits, set_free, set_loaded, no_node, opened_graph}
use Rattle.model.specs.Service.{Service, opened_service, found_for, in_one_step, write_for}

-- the graph, what each thread ("party") does, and the store with the answers
pub record State : Type 0 where
  pub graph : Graph
  pub threads : ℕ → Thread
  pub service : Service

abbrev pub node : ℕ → Node
node n = record { 0 = n }

-- "all parties idle, the chain empty"
unfoldable pub opened : Setup → State
unfolding opened_graph opened_service
opened o = record { graph = opened_graph o; threads = λ t. Idle; service = opened_service o }

-- A step along the chain leaves thread t in another state, and another graph; one at the store, another service.
unfoldable pub move_to : ℕ → Thread → Graph → State → State
move_to t thread g s = record { graph = g; threads = upd s.threads t thread; service = s.service }

unfoldable pub serve_to : ℕ → Thread → Service → State → State
serve_to t thread v s = record { graph = s.graph; threads = upd s.threads t thread; service = v }

-- the command of a node
unfoldable pub command_of : Setup → Graph → ℕ → Option Command
unfolding command_at
command_of o g n = command_at o.commands (g.seq n)

-- ---- the loader

-- "step on": "lock it, unlock the old one"
unfoldable pub step_on : ℕ → ℕ → Graph → Graph
unfolding set_locked
step_on at y g = set_locked at false (set_locked y true g)

-- "take a record for the next command, lock the head and stand there"; "a record taken gets next index 0"
unfoldable pub load : State → State
unfolding move_to set_locked set_loaded set_seq set_free set_next
load s =
    let g : Graph = s.graph in
    move_to 0 (Loading (node 0) (node g.free)) (set_locked 0 true (set_loaded (g.loaded + 1) (set_seq g.free (g.loaded + 1)
    (set_next g.free 0 (set_free (g.next g.free) g))))) s

-- "Idle. Wait if every command is loaded, no record is free or the head is locked."
unfoldable pub loader_idle : Setup → State → State
unfolding load
loader_idle o s = cond (leb (length o.commands) s.graph.loaded || eqb s.graph.free 0 || s.graph.locked 0) s (load s)

-- "link the record there as waiting, unlock, be idle"
unfoldable pub link : ℕ → ℕ → State → State
unfolding move_to set_locked set_executing set_next
link at own s = move_to 0 Idle (set_locked at false (set_executing own false (set_next at own s.graph))) s

-- "add it to the new record's set if the commands are dependent"
unfoldable pub add_dependence : Setup → ℕ → ℕ → Graph → Graph
unfolding both_dependent command_of set_waits
add_dependence o own y g = cond (both_dependent (command_of o g y) (command_of o g own)) (set_waits own (upd (g.waits own) y true) g) g

-- "Walking. If the next index is 0: link [..]. If the next record is locked: wait. Else lock it, unlock the old one, and add it [..]"
unfoldable pub loader_walk : Setup → ℕ → ℕ → ℕ → State → State
unfolding link step_on add_dependence move_to
loader_walk o at own y s =
    cond (eqb y 0) (link at own s)
    (cond (s.graph.locked y) s (move_to 0 (Loading (node y) (node own)) (add_dependence o own y (step_on at y s.graph)) s))

-- "Turns of party 0, the loader". The loader is never in a worker's state.
unfoldable pub loader_step : Setup → Thread → State → State
unfolding loader_idle loader_walk
loader_step o Idle s = loader_idle o s
loader_step o (Loading at own) s = loader_walk o at.0 own.0 (s.graph.next at.0) s
loader_step o (Searching at) s = s
loader_step o (Holding own) s = s
loader_step o (LookedUp own found) s = s
loader_step o (Written own) s = s
loader_step o (Walking at own) s = s
loader_step o (Clearing at own) s = s

-- ---- the workers

-- "Wait if the head is locked; else lock it" and become what is named
unfoldable pub enter : ℕ → Thread → State → State
unfolding move_to set_locked
enter t thread s = cond (s.graph.locked 0) s (move_to t thread (set_locked 0 true s.graph) s)

-- "waiting with an empty set"
unfoldable pub ready : Graph → ℕ → Bool
ready g n = not (g.executing n) && none_below 192 (g.waits n)

-- whether worker t is within the worker count in force (02, A.2)
unfoldable pub is_allowed : ℕ → State → Bool
is_allowed t s = leb t s.service.limit

-- "if that record is waiting with an empty set, mark it executing, unlock it and hold it"; a worker above the count "walks to the end and
-- takes nothing" (02, A.2)
unfoldable pub examine : ℕ → ℕ → ℕ → State → State
unfolding is_allowed ready step_on move_to set_locked set_executing
examine t at y s =
    cond (is_allowed t s && ready s.graph y) (move_to t (Holding (node y)) (set_locked y false (set_executing y true (step_on at y s.graph))) s)
    (move_to t (Searching (node y)) (step_on at y s.graph) s)

-- "unlock, be idle"
unfoldable pub leave : ℕ → ℕ → State → State
unfolding move_to set_locked
leave t at s = move_to t Idle (set_locked at false s.graph) s

-- "Searching. Next index 0: unlock, be idle. Next locked: wait. Else step on as the loader does; [..]"
unfoldable pub searching : ℕ → ℕ → ℕ → State → State
unfolding leave examine
searching t at y s = cond (eqb y 0) (leave t at s) (cond (s.graph.locked y) s (examine t at y s))

-- "Looked-up. Write store and answer, be written."
unfoldable pub looked_up : Setup → ℕ → ℕ → ℕ → State → State
unfolding write_for command_of serve_to
looked_up o t own found s = serve_to t (Written (node own)) (write_for o (command_of o s.graph own) (s.graph.seq own) found s.service) s

-- "Holding. Look up the store, be looked-up." A read is written in the same step (02, A.8).
unfoldable pub holding : Setup → ℕ → ℕ → State → State
unfolding found_for in_one_step looked_up command_of serve_to
holding o t own s =
    let found : ℕ = found_for (command_of o s.graph own) s.service.store in
    cond (in_one_step (command_of o s.graph own)) (looked_up o t own found s) (serve_to t (LookedUp (node own) found) s.service s)

-- "bypass it and stay standing"
unfoldable pub bypass : ℕ → ℕ → ℕ → State → State
unfolding move_to set_next
bypass t at own s = move_to t (Clearing (node at) (node own)) (set_next at (s.graph.next own) s.graph) s

-- "Walking to its own record. Next locked: wait. If the next is its own, bypass it and stay standing. Else step on." At the end of the
-- chain, where no schedule leads a walk to an own node, it waits.
unfoldable pub walking : ℕ → ℕ → ℕ → ℕ → State → State
unfolding bypass step_on move_to
walking t at own y s =
    cond (eqb y 0 || s.graph.locked y) s
    (cond (eqb y own) (bypass t at own s) (move_to t (Walking (node y) (node own)) (step_on at y s.graph) s))

-- "return its own record to the unused chain"; "returned at its front"; "An unused record [..] has place 0, is waiting and unlocked and
-- has an empty set"
unfoldable pub return : ℕ → Graph → Graph
unfolding set_free set_next set_seq set_executing set_locked set_waits no_node
return own g =
    set_free own (set_next own g.free (set_seq own 0 (set_executing own false (set_locked own false (set_waits own no_node g)))))

-- "Clearing. Next index 0: unlock, return its own record to the unused chain, be idle. Next locked: wait. Else step on and take its own
-- record out of that record's set."
unfoldable pub clearing : ℕ → ℕ → ℕ → ℕ → State → State
unfolding return step_on move_to set_locked set_waits
clearing t at own y s =
    let g : Graph = s.graph in
    cond (eqb y 0) (move_to t Idle (return own (set_locked at false g)) s)
    (cond (g.locked y) s (move_to t (Clearing (node y) (node own)) (set_waits y (upd (g.waits y) own false) (step_on at y g)) s))

-- "a worker above the count starts no search and waits when idle" (02, A.2)
unfoldable pub idle : ℕ → State → State
unfolding is_allowed enter
idle t s = cond (is_allowed t s) (enter t (Searching (node 0)) s) s

-- "Turns of parties 1 and up, the workers". A worker is never in the loader's walking state.
unfoldable pub worker_step : Setup → ℕ → Thread → State → State
unfolding enter idle searching holding looked_up walking clearing
worker_step o t Idle s = idle t s
worker_step o t (Loading at own) s = s
worker_step o t (Searching at) s = searching t at.0 (s.graph.next at.0) s
worker_step o t (Holding own) s = holding o t own.0 s
worker_step o t (LookedUp own found) s = looked_up o t own.0 found s
worker_step o t (Written own) s = enter t (Walking (node 0) own) s
worker_step o t (Walking at own) s = walking t at.0 own.0 (s.graph.next at.0) s
worker_step o t (Clearing at own) s = clearing t at.0 own.0 (s.graph.next at.0) s

-- ---- a step, and a schedule ("dealing")

unfoldable pub step : Setup → ℕ → State → State
unfolding loader_step worker_step
step o t s = cond (eqb t 0) (loader_step o (s.threads 0) s) (worker_step o t (s.threads t) s)

unfoldable pub steps : Setup → List ℕ → State → State
unfolding step
steps o [] s = s
steps o (t ∷ ts) s = steps o ts (step o t s)

-- The model's step of the loader, by the loader's state, from what the functions on the arrays ensure. Assumes nothing.
use Prim.Native.Nat.{ℕ, ◌+◌, ◌*◌}
use mathlib.Core.Path.{◌≡◌, refl, sym, ap, ◌∙◌}
use mathlib.Core.Bool.{Bool, true, false, ◌||◌}
use mathlib.Core.List.{List}
use mathlib.Core.Option.{some}
use Rattle.std.specs.Prelude.{Some}
use native.Mathlib.Omega.{arith}
use lib.ListN.{length}
use lib.Dec.{eqb, leb}
use Rattle.command.specs.declared.Command.{Command}
use Rattle.command.specs.Read.{commands_in}
use Rattle.node_set.specs.declared.Node.{Node}
use Rattle.model.specs.declared.Thread.{Thread}
use Rattle.model.specs.declared.Thread.TheVariants.{Idle, Loading, Searching, Holding, LookedUp, Written, Walking, Clearing}
use Rattle.model.specs.Upd.{upd}
use Rattle.model.specs.Setup.{Setup, command_at}
use Rattle.model.specs.Graph.{set_locked, set_loaded, set_seq, set_next, set_free}
use Rattle.model.specs.Step.{State, node, step, loader_step, loader_idle, load, move_to}
use Rattle.model.proofs.Upd.{upd_id}
use Rattle.graph.specs.declared.Graph.{Graph}
use Rattle.graph.specs.Arrays.{flags, Nodes, NodesWithin, SameCommands, Loaded}
use Rattle.graph.specs.Memory.{Memory, memory, shown, Ready, Steps, LoaderWalks}
use Rattle.graph.proofs.Bridge.{nodes_stored}
use Rattle.graph.proofs.Commands.{commands_length, kept_stored}
use Rattle.threads.proofs.Readiness.{with_graph, graph_ready}

-- a memory after a load
abbrev after_load : Graph → ℕ → Memory → Memory
after_load graph rest m =
    memory graph m.keys m.chutes m.answers m.image (record { free = node rest; loaded = record { 0 = m.counters.loaded.0 + 1 }; used = m.counters.used; limit = m.counters.limit })

-- the loader in a worker's state does nothing
elsewhere : (thread : Thread) → (thread ≡ Idle → ⊥) → ((at own : Node) → thread ≡ Loading at own → ⊥) → (o : Setup) (s : State) → loader_step o thread s ≡ s
unfolding loader_step
elsewhere Idle busy other o s = absurd (busy refl)
elsewhere (Loading at own) busy other o s = absurd (other at own refl)
elsewhere (Searching at) busy other o s = refl
elsewhere (Holding own) busy other o s = refl
elsewhere (LookedUp own found) busy other o s = refl
elsewhere (Written own) busy other o s = refl
elsewhere (Walking at own) busy other o s = refl
elsewhere (Clearing at own) busy other o s = refl

-- whether an idle loader waits: every command is loaded, no node is free, or the head is locked
abbrev pub blocked : ℕ → ℕ → ℕ → List Bool → Bool
blocked count loaded free locked = leb count loaded || eqb free 0 || flags locked 0

-- it waits if one of the three tests says so
pub blocked_if : (count loaded free : ℕ) (locked : List Bool) (all_loaded none_free head_locked : Bool)
    → leb count loaded ≡ all_loaded → eqb free 0 ≡ none_free → flags locked 0 ≡ head_locked → blocked count loaded free locked ≡ (all_loaded || none_free || head_locked)
blocked_if count loaded free locked all_loaded none_free head_locked p q r = rw (p, q, r)

module _ (list : List ℕ) (m : Memory) where
  -- a step of thread 0 is the loader's
  loader_steps : (thread thread' : Thread) (m' : Memory)
      → ((o : Setup) (threads : ℕ → Thread) → o.commands ≡ commands_in list → threads 0 ≡ thread → loader_step o thread (shown m threads) ≡ shown m' (upd threads 0 thread'))
      → Ready list m' thread' → Steps list 0 thread m thread' m'
  unfolding step
  loader_steps thread thread' m' makes ready = record {
    step_is = λ o threads commands capacity is. sym (rw is (makes o threads commands is));
    ready = ready;
  }

  -- a step that changes nothing
  unchanged : (thread : Thread) → ((o : Setup) (threads : ℕ → Thread) → o.commands ≡ commands_in list → loader_step o thread (shown m threads) ≡ shown m threads)
      → Ready list m thread → Steps list 0 thread m thread m
  unchanged thread waits ready =
      loader_steps thread thread m (λ o threads commands is. waits o threads commands ∙ ap (shown m) (sym (upd_id threads 0 thread (sym is)))) ready

  -- so its step is a wait
  pub worker_state_waits : (thread : Thread) → (thread ≡ Idle → ⊥) → ((at own : Node) → thread ≡ Loading at own → ⊥) → Ready list m thread → Steps list 0 thread m thread m
  worker_state_waits thread busy other = unchanged thread (λ o threads commands. elsewhere thread busy other o (shown m threads))

  -- the walk is the model's: the commands kept are those of the sequence numbers
  pub walk_steps : (at own : Node) (r : Thread) (graph' : Graph) → LoaderWalks at own m.graph r graph' → NodesWithin r → Nodes graph'.next → SameCommands m.graph graph'
      → Ready list m (Loading at own) → Steps list 0 (Loading at own) m r (with_graph graph' m)
  unfolding loader_step move_to
  walk_steps at own r graph' steps within nodes same ready =
      loader_steps (Loading at own) r (with_graph graph' m)
      (λ o threads commands is. rw same.0 (steps o (shown m threads) refl refl refl refl (rw commands ready.kept) is))
      (graph_ready list m (Loading at own) ready r graph' nodes same within)

  -- the model's test is that of the arrays
  blocked_is : (b : Bool) (o : Setup) → length list ≡ 16 * length m.answers → o.commands ≡ commands_in list
      → blocked (length m.answers) m.counters.loaded.0 m.counters.free.0 m.graph.locked ≡ b → blocked (length o.commands) m.counters.loaded.0 m.counters.free.0 m.graph.locked ≡ b
  blocked_is b o whole commands h = rw (commands, commands_length list (length m.answers) whole) h

  -- where a test says so it waits, and else the stores are the model's load; the new node keeps the command of its sequence number
  pub load_waits : blocked (length m.answers) m.counters.loaded.0 m.counters.free.0 m.graph.locked ≡ true → Ready list m Idle → Steps list 0 Idle m Idle m
  unfolding loader_step loader_idle
  load_waits waits ready = unchanged Idle (λ o threads commands. rw (blocked_is true o ready.whole commands waits)) ready

  pub load_takes : (graph' : Graph) (rest : ℕ) (command : Command) → blocked (length m.answers) m.counters.loaded.0 m.counters.free.0 m.graph.locked ≡ false
      → Loaded m.counters.free.0 (m.counters.loaded.0 + 1) command m.graph graph' rest → command_at (commands_in list) (m.counters.loaded.0 + 1) ≡ some command
      → length m.graph.items ≡ 151 → Ready list m Idle → Steps list 0 Idle m (Loading (node 0) m.counters.free) (after_load graph' rest m)
  unfolding loader_step loader_idle load move_to set_locked set_loaded set_seq set_next set_free
  load_takes graph' rest command free loaded read long ready =
      loader_steps Idle (Loading (node 0) m.counters.free) (after_load graph' rest m)
      (λ o threads commands is.
      rw (blocked_is false o ready.whole commands free, loaded.next_is, loaded.seq_is, loaded.locked_is, loaded.rest_is, loaded.others.0, loaded.others.1))
      (record {
        nodes = nodes_stored m.graph.next graph'.next m.counters.free.0 0 ready.nodes (omega arith) loaded.next_is;
        free = rw loaded.rest_is (ready.nodes m.counters.free.0);
        within = (omega arith, ready.free);
        kept = kept_stored (commands_in list) m.graph graph' m.counters.free.0 (rw long (omega (arith, ready.free))) (m.counters.loaded.0 + 1) (Some command) read loaded.seq_is loaded.items_are ready.kept;
        whole = ready.whole;
        few = ready.few;
      })

-- What writing a state promises: on every setup and state that the numbers and arrays show, the bytes are the layout's. Assumes nothing.
use Rattle.std.specs.Prelude.{ℕ, ◌≡◌, Bool, List, length, get_or, ◌+◌, ◌*◌, ◌<◌, eqb, Some, None, slice_get}
use Rattle.model.specs.declared.Thread.{Thread}
use Rattle.model.specs.declared.Thread.TheVariants.{Idle}
use Rattle.model.specs.Setup.{Setup}
use Rattle.model.specs.Step.{State}
use Rattle.model.specs.declared.Counters.{Counters}
use Rattle.graph.specs.Arrays.{Shows}
use Rattle.state_bytes.specs.declared.Settings.{Settings}
use Rattle.graph.specs.declared.Graph.{Graph}
use Rattle.byte_fields.specs.Bytes.{number_at, tabulate}
use Rattle.state_bytes.specs.Layout.{state_bytes, set_at}

-- the setup's numbers
pub record Sets (c : Settings) (o : Setup) : Type 0 where
  pub size : o.size ≡ c.size
  pub workers : o.workers ≡ c.workers
  pub largest : o.largest ≡ c.largest
  pub capacity : o.capacity ≡ c.capacity
  pub count : length o.commands ≡ c.count

-- the state's graph, threads and counters
pub record Shown (k : Counters) (next seq : List ℕ) (executing locked : List Bool) (waits : List (List ℕ)) (threads : List Thread) (s : State) : Type 0 where
  pub graph_is : Shows s.graph next seq executing locked waits
  pub threads_are : (t : ℕ) → s.threads t ≡ get_or threads t Idle
  pub free_is : s.graph.free ≡ k.free.0
  pub loaded_is : s.graph.loaded ≡ k.loaded.0
  pub used_is : s.service.store.used ≡ k.used
  pub limit_is : s.service.limit ≡ k.limit

abbrev pub Lays : Settings → Counters → List ℕ → List ℕ → List Bool → List Bool → List (List ℕ) → List Thread → List ℕ → Type 0
Lays c k next seq executing locked waits threads bytes =
    (o : Setup) (s : State) → Sets c o → Shown k next seq executing locked waits threads s → bytes ≡ state_bytes o s

-- the graph that state bytes hold, with no commands yet
pub record ReadGraph (b : List ℕ) (graph : Graph) : Type 0 where
  pub next_is : graph.next ≡ tabulate 151 (λ n. get_or b (14 + n) 0)
  pub seq_is : graph.seq ≡ tabulate 151 (λ n. number_at 2 (165 + 2 * n) b)
  pub executing_is : graph.executing ≡ tabulate 151 (λ n. eqb (get_or b (467 + n) 0) 1)
  pub locked_is : graph.locked ≡ tabulate 151 (λ n. eqb (get_or b (618 + n) 0) 1)
  pub waits_is : graph.waits ≡ tabulate 151 (set_at b)
  pub items_are : (n : ℕ) → n < 151 → slice_get graph.items n ≡ Some None

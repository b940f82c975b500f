-- What the choice promises: a thread that there can be and, on every state that the graph, the threads and the numbers show, the model's. Assumes
-- nothing.
use Rattle.std.specs.Prelude.{ℕ, ◌≤◌, ◌≡◌, Bool, List, length, get_or, Option, Some, None}
use Rattle.model.specs.declared.Thread.{Thread}
use Rattle.model.specs.declared.Thread.TheVariants.{Idle}
use Rattle.model.specs.Setup.{Setup}
use Rattle.model.specs.Step.{State}
use Rattle.model.specs.Dispatch as Dispatch
use Rattle.graph.specs.declared.Graph.{Graph}
use Rattle.graph.specs.Arrays.{numbers}
use Rattle.choice.specs.declared.Plan.{Plan}

-- what a plan says of the next step
abbrev pub next_by : Bool → Option ℕ → Dispatch.Next
next_by settled None = Dispatch.stop
next_by settled (Some t) = Dispatch.step_of settled t

abbrev pub next_of : Plan → Dispatch.Next
next_of p = next_by p.settled p.next

-- its thread, if it has one, is one of the 65
abbrev pub NamesThread : Plan → Type 0
NamesThread p = (t : ℕ) → p.next ≡ Some t → t ≤ 64

-- what the choice goes by: a state's first node, sequence numbers and threads, how many commands of all are loaded, and the largest worker count
pub record Seen (graph : Graph) (threads : List Thread) (loaded count largest : ℕ) (o : Setup) (s : State) : Type 0 where
  pub first_is : s.graph.next 0 ≡ numbers graph.next 0
  pub seq_is : s.graph.seq ≡ numbers graph.seq
  pub threads_are : (t : ℕ) → s.threads t ≡ get_or threads t Idle
  pub loaded_is : s.graph.loaded ≡ loaded
  pub count_is : length o.commands ≡ count
  pub largest_is : o.largest ≡ largest

-- where all are idle, by the first node of the chain and how many commands of all are loaded
abbrev pub Served : ℕ → ℕ → ℕ → Plan → Type 0
Served first loaded count p =
    NamesThread p × ((o : Setup) (s : State) → s.graph.next 0 ≡ first → s.graph.loaded ≡ loaded → length o.commands ≡ count → next_of p ≡ Dispatch.served o s)

-- another thread
abbrev pub Fresh : Bool → Graph → List Thread → ℕ → ℕ → ℕ → Plan → Type 0
Fresh settled graph threads loaded count largest p =
    NamesThread p × ((o : Setup) (s : State) → Seen graph threads loaded count largest o s → next_of p ≡ Dispatch.fresh o settled s)

-- what comes next after the step of a plan's thread, or another thread where it has none
abbrev pub after_step : Setup → Bool → Option ℕ → State → Dispatch.Next
after_step o settled None s = Dispatch.fresh o settled s
after_step o settled (Some t) s = Dispatch.following o settled t s

abbrev pub after : Setup → Plan → State → Dispatch.Next
after o p s = after_step o p.settled p.next s

abbrev pub Follows : Plan → Graph → List Thread → ℕ → ℕ → ℕ → Plan → Type 0
Follows plan graph threads loaded count largest p =
    NamesThread p × ((o : Setup) (s : State) → Seen graph threads loaded count largest o s → next_of p ≡ after o plan s)

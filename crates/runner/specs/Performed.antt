-- What making steps on the graph needs and promises. Assumes nothing.
use Rattle.std.specs.Prelude.{ℕ, ◌+◌, ◌≤◌, ◌<◌, ◌≡◌, true, false, cond, List, ◌++◌, ◌⊎◌, length, get_or, drop, set, eqb, Some, None}
use Rattle.model.specs.declared.Thread.{Thread}
use Rattle.model.specs.declared.Thread.TheVariants.{Idle}
use Rattle.model.specs.Setup.{Setup}
use Rattle.model.specs.Image.{image_length}
use Rattle.model.specs.Step.{State, steps}
use Rattle.model.specs.Dispatch.{fresh, steps_from}
use Rattle.model.specs.Statement.{all_within}
use Rattle.model.specs.declared.Counters.{Counters}
use Rattle.graph.specs.declared.Graph.{Graph}
use Rattle.graph.specs.Arrays.{NodesWithin}
use Rattle.choice.specs.declared.Plan.{Plan}
use Rattle.choice.specs.Chosen.{Follows}
use Rattle.runner.specs.declared.Order.{Order as Steps}
use Rattle.runner.specs.declared.Order.TheVariants.{Given, Chosen}
use Rattle.command.specs.Read.{commands_in}
use Rattle.graph.specs.Memory.{Memory, Ready, shown}
use Rattle.state_bytes.specs.declared.Settings.{Settings}
use Rattle.byte_fields.specs.Bytes.{number_at}
use Rattle.state_bytes.specs.Layout.{Lists, state_length, lists_of, setup_in, state_in, count_in, state_fits, handed_back_fit, image_fits}
use Rattle.state_bytes.specs.Written.{Sets}

-- the counters that stand in state bytes
pub record CountersIn (b : List ℕ) (k : Counters) : Type 0 where
  pub free_is : k.free.0 ≡ number_at 1 12 b
  pub loaded_is : k.loaded.0 ≡ number_at 2 8 b
  pub used_is : k.used ≡ number_at 2 10 b
  pub limit_is : k.limit ≡ number_at 1 13 b

-- the settings that stand in state bytes, with as many commands as they say
abbrev pub SettingsIn : List ℕ → Settings → Type 0
SettingsIn b c = (commands : List ℕ) → length (commands_in commands) ≡ count_in b → Sets c (setup_in b commands)

-- ---- the steps

-- the steps to make: those of a schedule, or those that the dispatcher chooses, at most so many
pub data Order : Type 0 where
  given : List ℕ → Order
  chosen : ℕ → Order

-- the steps that an order of src/ asks for
abbrev pub order_of : Steps → Order
order_of (Given schedule) = given schedule.now
order_of (Chosen limit) = chosen limit

unfoldable pub schedule_of : Setup → Order → State → List ℕ
unfolding steps_from fresh
schedule_of o (given ts) s = ts
schedule_of o (chosen limit) s = steps_from o limit (fresh o false s) s

-- the threads of a schedule are there, and chosen steps have room in the lent list
abbrev pub Named : ℕ → Order → List ℕ → Type 0
Named largest (given ts) lent = all_within largest ts ≡ true
Named largest (chosen limit) lent = limit ≤ length lent

-- the lent list after the steps: chosen ones stand in it, and "bytes past the dealing stay untouched" (02, A.6)
abbrev pub written_in : Order → List ℕ → List ℕ → List ℕ
written_in (given ts) steps lent = lent
written_in (chosen limit) steps lent = steps ++ drop (length steps) lent

-- how many steps there are at most
abbrev pub most : Order → ℕ
most (given ts) = length ts
most (chosen limit) = limit

-- what comes next, from the last plan on the graph and threads: a schedule needs no plan
abbrev pub PlannedBy : Order → Plan → Graph → List Thread → ℕ → ℕ → ℕ → Plan → Type 0
PlannedBy (given ts) plan graph threads loaded count largest p = p ≡ plan
PlannedBy (chosen limit) plan graph threads loaded count largest p = Follows plan graph threads loaded count largest p

-- ---- the threads kept ahead

-- of a schedule they are its next ones; one that is chosen stands alone, and is the plan's
abbrev pub Coming : Order → Plan → ℕ → List ℕ → ℕ → Type 0
Coming (given ts) plan done ahead n = (k : ℕ) → k < n → get_or ahead k 0 ≡ get_or ts (done + k) 0
Coming (chosen limit) plan done ahead n = (n ≤ 1) × (0 < n → plan.next ≡ Some (get_or ahead 0 0))

-- none is to come
abbrev pub Over : Order → Plan → ℕ → Type 0
Over (given ts) plan done = length ts ≤ done
Over (chosen limit) plan done = (plan.next ≡ None) ⊎ (limit ≤ done)

-- n of them, where so many steps are done
pub record Ahead (order : Order) (plan : Plan) (done : ℕ) (ahead : List ℕ) (n : ℕ) : Type 0 where
  pub few : n ≤ 256
  pub left : done + n ≤ most order
  pub are : Coming order plan done ahead n
  pub none : n ≡ 0 → Over order plan done

-- the lent list when they are kept: a chosen one is written down before its step
abbrev pub noted_in : Order → List ℕ → ℕ → ℕ → List ℕ → List ℕ
noted_in (given ts) ahead done n lent = lent
noted_in (chosen limit) ahead done n lent = cond (eqb n 0) lent (set lent done (get_or ahead 0 0))

-- ---- the contracts

-- the lists pass the tests of a call
pub record CallPasses (l : Lists) (commands : List ℕ) (order : Order) (lent : List ℕ) : Type 0 where
  pub lengths : handed_back_fit l commands ≡ true
  pub image : image_fits (setup_in l.state commands).capacity l ≡ true
  pub state : state_fits l ≡ true
  pub named : Named (setup_in l.state commands).largest order lent

-- what a call leaves and counts: the lists of the state after the steps, the steps in the lent list, and their number
pub record Ran (l : Lists) (commands : List ℕ) (order : Order) (lent : List ℕ) (after : Lists) (lent' : List ℕ) (count : ℕ) : Type 0 where
  pub lists : after ≡ lists_of (setup_in l.state commands) (steps (setup_in l.state commands) (schedule_of (setup_in l.state commands) order (state_in l)) (state_in l))
  pub written : lent' ≡ written_in order (schedule_of (setup_in l.state commands) order (state_in l)) lent
  pub counted : count ≡ length (schedule_of (setup_in l.state commands) order (state_in l))

-- memory that is ready for a step of any thread, and steps that can be made
pub record Performs (state commands : List ℕ) (order : Order) (lent : List ℕ) (c : Settings) (m : Memory) (threads : List Thread) : Type 0 where
  pub long : length state ≡ state_length
  pub ready : Ready commands m Idle
  pub within : (t : ℕ) → NodesWithin (get_or threads t Idle)
  pub named : Named 64 order lent
  pub largest : c.largest ≤ 64
  pub imaged : length m.image ≡ image_length (length m.keys)

-- the same of the memory, for every setup that the settings are of
abbrev pub Performed : Settings → List ℕ → Order → List ℕ → Memory → List Thread → Lists → List ℕ → ℕ → Type 0
Performed c commands order lent m threads after lent' count =
    (o : Setup) → Sets c o → o.commands ≡ commands_in commands → o.capacity ≡ length m.keys
    → let s : State = shown m (λ t. get_or threads t Idle) in
    (after ≡ lists_of o (steps o (schedule_of o order s) s)) × (lent' ≡ written_in order (schedule_of o order s) lent) × (count ≡ length (schedule_of o order s))

-- The dispatcher's promise (02, A.6) for every state that a schedule reaches: its schedule removes every command, leaves every thread idle, and
-- is within the document's limit. Cites Dispatch and Statement alone; proved in proofs/Dispatching. Assumes nothing.
use Rattle.std.specs.Prelude.{ℕ, suc, ◌≤◌, ◌≡◌, true, not, List, ◌++◌, length}
use Rattle.node_set.specs.Members.{count_below}
use Rattle.model.specs.declared.Thread.TheVariants.{Idle}
use Rattle.model.specs.Setup.{Setup}
use Rattle.model.specs.Step.{opened, steps}
use Rattle.model.specs.Statement.{Accepted, all_within, removed, EachCommand}
use Rattle.model.specs.Dispatch.{commands_left, steps_needed, dispatched}

-- after the schedule ts, of the dispatcher's schedule from there
pub record Dispatches (o : Setup) (ts : List ℕ) : Type 0 where
  -- it names threads that there are
  pub within : all_within o.largest (dispatched o (steps o ts (opened o))) ≡ true
  -- "ending with every command removed and every party idle"
  pub removes : EachCommand o (λ c. removed o c (ts ++ dispatched o (steps o ts (opened o))) (opened o) ≡ true)
  pub idle : (t : ℕ) → t ≤ o.largest → (steps o (ts ++ dispatched o (steps o ts (opened o))) (opened o)).threads t ≡ Idle
  -- "it uses at most (n + w) × (3 × s + 6) turns"
  pub few : length (dispatched o (steps o ts (opened o))) ≤ steps_needed o (steps o ts (opened o))
  -- where n is the number of commands that no step has removed
  pub left : commands_left o (steps o ts (opened o)) ≡ count_below (length o.commands) (λ j. not (removed o (suc j) ts (opened o)))

abbrev pub DispatcherFinishes : Type 0
DispatcherFinishes = (o : Setup) → Accepted o → (ts : List ℕ) → all_within o.largest ts ≡ true → Dispatches o ts

-- "Inserts that let reads through" (02, A.5), as a promise about every schedule: for whom a node waits. Cites Step; proved in
-- proofs/WaitsFor. Assumes nothing.
use Rattle.std.specs.Prelude.{ℕ, ◌<◌, ◌≡◌, true, false, ◌&&◌, ◌⊎◌, List}
use Rattle.std.proofs.Math.Option.{some}
use Rattle.command.specs.declared.Command.{Command}
use Rattle.command.specs.Dependent.{is_insert_or_delete, is_read, has_item}
use Rattle.model.specs.Setup.{Setup}
use Rattle.model.specs.Step.{State, opened, command_of, steps}
use Rattle.model.specs.Statement.{Accepted, all_within}

-- why node x, in a state, has node y in its set
pub record WaitsFor (o : Setup) (s : State) (x y : ℕ) : Type 0 where
  -- both have commands, y's delivered before x's
  pub own : Command
  pub other : Command
  pub own_is : command_of o s.graph x ≡ some own
  pub other_is : command_of o s.graph y ≡ some other
  pub earlier : s.graph.seq y < s.graph.seq x
  -- "inserts and deletes depend on one another [..] and on any command for their own key; reads and updates of other keys are independent
  -- of them": both insert or delete, or both are for one key, or one of them is for no item, as kind 5 (02, A.2)
  pub because : ((is_insert_or_delete own.kind ≡ true) × (is_insert_or_delete other.kind ≡ true)) ⊎ (own.key ≡ other.key) ⊎ (has_item own.kind && has_item other.kind ≡ false)
  -- and they are no two reads
  pub not_reads : is_read own.kind && is_read other.kind ≡ false

-- the statement: after every schedule
abbrev pub WaitsOnlyForDependent : Type 0
WaitsOnlyForDependent =
    (o : Setup) → Accepted o → (ts : List ℕ) → all_within o.largest ts ≡ true → (x y : ℕ)
    → (steps o ts (opened o)).graph.waits x y ≡ true → WaitsFor o (steps o ts (opened o)) x y

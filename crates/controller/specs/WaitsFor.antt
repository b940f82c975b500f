-- "Inserts that let reads through" (02, A.5), over calls: for whom a node waits in the lists that any calls have left. Proved in
-- proofs/WaitsFor. Assumes nothing.
use Rattle.std.specs.Prelude.{ℕ, ◌≡◌, true, List}
use Rattle.model.specs.Setup.{Setup}
use Rattle.model.specs.WaitsFor.{WaitsFor}
use Rattle.state_bytes.specs.Layout.{Lists, state_in}
use Rattle.opening.specs.Calls.{Source, open_on, setup_of}
use Rattle.state_bytes.specs.Outcome.{accepted}
use Rattle.controller.specs.Demand3.{Call, lists_after, Proper}

-- every accepted opening, and every proper list of calls from what it left: a node in another's set is of a command delivered before, and
-- both insert or delete, or both are for one key and no two reads, or one of them is for no item
abbrev pub WaitsOnlyForDependentOverCalls : Type 0
WaitsOnlyForDependentOverCalls =
    (size workers capacity : ℕ) (commands : List ℕ) (source : Source) (lent l : Lists) → open_on size workers capacity commands source lent ≡ accepted l →
    (calls : List Call) → Proper commands l calls → (x y : ℕ) →
    let o : Setup = setup_of size workers capacity commands source in
    (state_in (lists_after calls l)).graph.waits x y ≡ true → WaitsFor o (state_in (lists_after calls l)) x y

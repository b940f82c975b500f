-- One more turn after calls: the call is accepted, and the lists that it leaves are read as what the model's step leaves. Assumes nothing.
use Prim.Native.Nat.{ℕ, ◌*◌, ◌≤◌}
use mathlib.Core.Path.{◌≡◌, sym, subst, ◌∙◌}
use mathlib.Core.Bool.{true}
use mathlib.Core.List.{List, [], ◌∷◌, ◌++◌}
use lib.ListN.{length}
use borrow.Author.Tests.{le-leb}
use Rattle.command.specs.Read.{commands_in}
use Rattle.model.specs.Setup.{Setup}
use Rattle.model.specs.Step.{State, opened, step, steps}
use Rattle.model.specs.Statement.{Accepted, all_within}
use Rattle.model.proofs.Finish.Schedule.{steps_append, within_append}
use Rattle.state_bytes.specs.Layout.{Lists, lists_of, state_in}
use Rattle.state_bytes.specs.Outcome.{accepted}
use Rattle.controller.specs.Calls.{advance_on, AfterTurn}
use Rattle.controller.proofs.Demand3.{Reach, read_back, more_accepted}

module _ (o : Setup) (acc : Accepted o) (commands : List ℕ) (same : o.commands ≡ commands_in commands) (long : length commands ≡ 16 * length o.commands) (l : Lists) (ts : List ℕ)
    (r : Reach o l ts) (t : ℕ) (high : t ≤ o.largest) where
  -- the turn's schedule names a known thread
  known : all_within o.largest (t ∷ []) ≡ true
  unfolding all_within
  known = rw (le-leb t o.largest high)

  -- what the model's step leaves is read of the lists that the call leaves
  pub after_turn : (P : State → Type 0) → P (step o t (steps o ts (opened o))) → AfterTurn commands l t P
  unfolding steps
  after_turn P p =
      let next = ts ++ (t ∷ []) in
      let is : state_in (lists_of o (steps o next (opened o))) ≡ step o t (steps o ts (opened o)) = read_back o acc next (within_append o.largest ts (t ∷ []) r.0 known) ∙ steps_append o ts (t ∷ []) (opened o) in
      (lists_of o (steps o next (opened o)), more_accepted o acc commands same long l ts r (t ∷ []) known, subst P (sym is) p)

  -- and where that step changes nothing, the lists are as they were
  pub turn_waits : step o t (steps o ts (opened o)) ≡ steps o ts (opened o) → advance_on l commands (t ∷ []) ≡ accepted l
  unfolding steps
  turn_waits waits = more_accepted o acc commands same long l ts r (t ∷ []) known ∙ rw (steps_append o ts (t ∷ []) (opened o), waits, ← r.1)

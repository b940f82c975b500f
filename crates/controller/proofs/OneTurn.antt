-- Reads in one turn over calls, proved: the lists that calls leave are those of a state that the model's schedules reach, and one more turn
-- is the model's step. Assumes nothing.
use Prim.Native.Nat.{ℕ, ◌*◌, ◌≤◌}
use mathlib.Core.Path.{◌≡◌, refl, sym, ap, ◌∙◌}
use mathlib.Core.List.{List}
use mathlib.Core.Option.{some}
use lib.ListN.{length}
use Rattle.command.specs.declared.Command.{Command}
use Rattle.command.specs.Read.{commands_in}
use Rattle.node_set.specs.declared.Node.{Node}
use Rattle.model.specs.Setup.{Setup}
use Rattle.model.specs.Step.{State, opened, command_of, steps}
use Rattle.model.specs.Statement.{Accepted}
use Rattle.model.specs.OneTurn as Model
use Rattle.model.proofs.OneTurn.{reads_in_one_turn}
use Rattle.state_bytes.specs.Layout.{Lists, state_in}
use Rattle.controller.specs.Demand3.{lists_after, schedules}
use Rattle.controller.specs.OneTurn.{InTurns, ReadsInOneTurnOverCalls}
use Rattle.controller.proofs.Demand3.{Reach, state_is, opening_and_calls_reach}
use Rattle.controller.proofs.Turn.{after_turn}

module _ (o : Setup) (acc : Accepted o) (commands : List ℕ) (same : o.commands ≡ commands_in commands) (long : length commands ≡ 16 * length o.commands) (l : Lists) (ts : List ℕ)
    (r : Reach o l ts) (t : ℕ) (low : 1 ≤ t) (high : t ≤ o.largest) where
  in_turns : (own : Node) (c : Command) → command_of o (state_in l).graph own.0 ≡ some c → InTurns o commands l t own c
  in_turns own c command = record {
    one = λ read here. rw is (after_turn o acc commands same long l ts r t high (Model.ReadDone o t own (steps o ts (opened o))) (model.one read (sym thread ∙ here)));
    never = λ read found here. model.never read found (sym thread ∙ here);
    two = λ other here. rw is (after_turn o acc commands same long l ts r t high (Model.OnlyLooked t own (steps o ts (opened o))) (model.two other (sym thread ∙ here)));
  }
    where
      is : state_in l ≡ steps o ts (opened o)
      is = state_is o acc commands same long l ts r

      thread : (state_in l).threads t ≡ (steps o ts (opened o)).threads t
      thread = ap (λ (s : State). s.threads t) is

      model : Model.InTurns o (steps o ts (opened o)) t own c
      model = reads_in_one_turn o acc ts r.0 t low high own c (sym (ap (λ (s : State). command_of o s.graph own.0) is) ∙ command)

pub reads_in_one_turn_over_calls : ReadsInOneTurnOverCalls
reads_in_one_turn_over_calls size workers capacity commands source lent l e calls proper t low high own c command =
    let r = opening_and_calls_reach size workers capacity commands source lent l e calls proper in
    in_turns _ r.0.setup commands refl r.0.long (lists_after calls l) (schedules calls) r.1 t low high own c command

-- The promise on the worker count over calls, proved: the lists that calls leave are those of a state that the model's schedules reach.
-- Assumes nothing.
use Prim.Native.Nat.{ℕ, ◌*◌, ◌<◌}
use mathlib.Core.Path.{◌≡◌, refl, sym, ap, ◌∙◌}
use mathlib.Core.List.{List}
use mathlib.Core.Option.{none}
use lib.ListN.{length}
use Rattle.command.specs.Read.{commands_in}
use Rattle.model.specs.Setup.{Setup}
use Rattle.model.specs.Step.{State, opened, step, steps}
use Rattle.model.specs.Statement.{Accepted, wrote}
use Rattle.model.specs.Count as Model
use Rattle.model.specs.Count.{node_of, with_limit}
use Rattle.model.proofs.Count.{count_is_kept}
use Rattle.state_bytes.specs.Layout.{Lists, state_in}
use Rattle.controller.specs.Demand3.{lists_after, schedules}
use Rattle.controller.specs.Count.{CountKept, CountIsKeptOverCalls}
use Rattle.controller.proofs.Demand3.{Reach, state_is, opening_and_calls_reach}
use Rattle.controller.proofs.Turn.{after_turn, turn_waits}

module _ (o : Setup) (acc : Accepted o) (commands : List ℕ) (same : o.commands ≡ commands_in commands) (long : length commands ≡ 16 * length o.commands) (l : Lists) (ts : List ℕ)
    (r : Reach o l ts) where
  -- what the lists show
  is : state_in l ≡ steps o ts (opened o)
  is = state_is o acc commands same long l ts r

  thread : (t : ℕ) → (state_in l).threads t ≡ (steps o ts (opened o)).threads t
  thread t = ap (λ (s : State). s.threads t) is

  above : (t : ℕ) → (state_in l).service.limit < t → (steps o ts (opened o)).service.limit < t
  above t h = rw is at h

  count_kept : CountKept o commands l (λ c. wrote o c ts (opened o))
  count_kept =
      let model : Model.CountKept o (steps o ts (opened o)) (λ c. wrote o c ts (opened o)) = count_is_kept o acc ts r.0 in
      record {
        in_force = ap (λ (s : State). s.service.limit) is ∙ model.in_force;
        taken = λ t x e. rw (ap (λ (s : State). s.graph.seq x) is) (model.taken t x (sym (ap node_of (thread t)) ∙ e));
        waits = λ t high h here. turn_waits o acc commands same long l ts r t high (model.waits t (above t h) (sym (thread t) ∙ here));
        takes_nothing = λ t at high h here.
            after_turn o acc commands same long l ts r t high (λ s. node_of (s.threads t) ≡ none) (model.takes_nothing t at (above t h) (sym (thread t) ∙ here));
        goes_on = λ t x n low high e.
            rw is (after_turn o acc commands same long l ts r t high (λ s. ((step o t (with_limit n (steps o ts (opened o)))).graph ≡ s.graph) × ((step o t (with_limit n (steps o ts (opened o)))).threads ≡ s.threads))
            (model.goes_on t x n low (sym (ap node_of (thread t)) ∙ e)));
      }

pub count_is_kept_over_calls : CountIsKeptOverCalls
count_is_kept_over_calls size workers capacity commands source lent l e calls proper =
    let r = opening_and_calls_reach size workers capacity commands source lent l e calls proper in
    count_kept _ r.0.setup commands refl r.0.long (lists_after calls l) (schedules calls) r.1

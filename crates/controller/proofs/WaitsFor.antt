-- For whom a node waits, over calls, proved: the lists that calls leave are those of a state that the model's schedules reach. Assumes
-- nothing.
use mathlib.Core.Path.{refl, sym, ap, subst, ◌∙◌}
use Rattle.model.specs.Setup.{Setup}
use Rattle.model.specs.Step.{State}
use Rattle.model.specs.WaitsFor.{WaitsFor}
use Rattle.model.proofs.WaitsFor.{waits_only_for_dependent}
use Rattle.controller.specs.Demand3.{lists_after, schedules}
use Rattle.controller.specs.WaitsFor.{WaitsOnlyForDependentOverCalls}
use Rattle.controller.proofs.Demand3.{state_is, opening_and_calls_reach}
use Rattle.opening.specs.Calls.{setup_of}

pub waits_only_for_dependent_over_calls : WaitsOnlyForDependentOverCalls
waits_only_for_dependent_over_calls size workers capacity commands source lent l e calls proper x y waits =
    let o : Setup = setup_of size workers capacity commands source in
    let r = opening_and_calls_reach size workers capacity commands source lent l e calls proper in
    let is = state_is o r.0.setup commands refl r.0.long (lists_after calls l) (schedules calls) r.1 in
    subst (λ (s : State). WaitsFor o s x y) (sym is)
    (waits_only_for_dependent o r.0.setup (schedules calls) r.1.0 x y (sym (ap (λ (s : State). s.graph.waits x y) is) ∙ waits))

-- `dispatcher::steps_needed` meets its contract: the first test that fails decides. Assumes nothing.
use Rattle.std.proofs.Common.{refl, sym, ap, ◌∙◌}
use Rattle.s10.specs.Refusal.{Refusal}
use Rattle.state_bytes.specs.Layout.{Lists, lists}
use Rattle.state_bytes.specs.Outcome.{tested_number}
use Rattle.dispatcher.proofs.Answer.{passed_on, can_need, all_there, needs_refused, needs_so, both_pass}
use Rattle.dispatcher.proofs.steps_needed.Goals as goal

pub returns-in_err-tested : goal.returns-in_err-tested
returns-in_err-tested c =
    let a = c.args in
    let l : Lists = lists a.state.now a.keys.now a.chutes.now a.answers.now in
    let told = needs_refused l a.commands.now _ (sym (ap tested_number c.in_err-tested.was) ∙ c.tested.ensures l a.commands.now refl refl refl refl refl) in
    let on = passed_on _ _ c.from_residual.ensures.1 in
    record { refusal = ap (λ (r : Refusal). r.number) on.0 ∙ told.0; counted = on.1 ∙ told.1 }

pub needed-requires : goal.needed-requires
needed-requires c =
    let a = c.args in
    let l : Lists = lists a.state.now a.keys.now a.chutes.now a.answers.now in
    let p = both_pass l a.commands.now (sym (ap tested_number c.in_ok-tested.was) ∙ c.tested.ensures l a.commands.now refl refl refl refl refl) in
    can_need l a.commands.now p.0 p.1

pub returns : goal.returns
returns c =
    let a = c.args in
    let l : Lists = lists a.state.now a.keys.now a.chutes.now a.answers.now in
    let p = both_pass l a.commands.now (sym (ap tested_number c.in_ok-tested.was) ∙ c.tested.ensures l a.commands.now refl refl refl refl refl) in
    let told = needs_so l a.commands.now p.0 p.1 (c.needed.ensures l a.commands.now refl (all_there l a.commands.now p.0)) in
    record { refusal = told.0; counted = told.1 }

-- `dispatcher::dispatch` meets its contract: the first test that fails decides, and where none fails the chosen steps are made.
-- Assumes nothing.
use Rattle.std.proofs.Common.{◌≡◌, ℕ, List, refl, sym, ap, ◌∙◌}
use Rattle.state_bytes.specs.Layout.{Lists, all_lists}
use Rattle.state_bytes.specs.Outcome.{tested_number}
use Rattle.controller.proofs.Answer.{tests_number, tests_told, passed}
use Rattle.dispatcher.proofs.Answer.{passed_on, can_need, all_there, refuses_state, refuses_short, passes, refused_so, accepted_so}
use Rattle.dispatcher.proofs.dispatch.Goals.{In_ok-tested}
use Rattle.dispatcher.proofs.dispatch.Goals as goal

-- the state's tests pass
told_ok : (c : In_ok-tested) → ◌≡◌ {A = ℕ} 0 (tests_number (all_lists c.args.state.now c.args.keys.now c.args.chutes.now c.args.answers.now c.args.image.now) c.args.commands.now)
told_ok c =
    let a = c.args in
    let l : Lists = all_lists a.state.now a.keys.now a.chutes.now a.answers.now a.image.now in
    sym (ap tested_number c.in_ok-tested.was)
    ∙ tests_told l a.commands.now (c.image_fits.ensures l a.commands.now refl refl) (c.tested.ensures l a.commands.now refl refl refl refl refl)

pub returns-in_err-tested : goal.returns-in_err-tested
returns-in_err-tested c =
    let a = c.args in
    let l : Lists = all_lists a.state.now a.keys.now a.chutes.now a.answers.now a.image.now in
    let e = sym (ap tested_number c.in_err-tested.was)
    ∙ tests_told l a.commands.now (c.image_fits.ensures l a.commands.now refl refl) (c.tested.ensures l a.commands.now refl refl refl refl refl) in
    let on = passed_on _ _ c.from_residual.ensures.1 in
    let told = refused_so l a.commands.now a.schedule.now on.0 on.1 (refuses_state _ _ _ _ e) in
    record { refusal = told.refusal; counted = told.counted; left = told.left; written = told.written }

pub needed-limit-requires : goal.needed-limit-requires
needed-limit-requires c = let p = passed _ _ (told_ok (goal.at.needed-limit-requires c).In_ok-tested) in can_need _ c.args.commands.now p.0 p.2

pub returns-then-schedule-limit : goal.returns-then-schedule-limit
returns-then-schedule-limit c =
    let a = c.args in
    let l : Lists = all_lists a.state.now a.keys.now a.chutes.now a.answers.now a.image.now in
    let e = told_ok (goal.at.returns-then-schedule-limit c).In_ok-tested in
    let needed_is = c.needed-limit.ensures l a.commands.now refl (all_there l a.commands.now (passed _ _ e).0) in
    let told = refused_so l a.commands.now a.schedule.now refl refl (refuses_short _ _ _ e needed_is c.if-schedule-limit.true) in
    record { refusal = told.refusal; counted = told.counted; left = told.left; written = told.written }

pub run-made-requires : goal.run-made-requires
run-made-requires c = passes _ _ _ (told_ok (goal.at.run-made-requires c).In_ok-tested) c.if-schedule-limit.false

pub returns : goal.returns
returns c =
    let a = c.args in
    let l : Lists = all_lists a.state.now a.keys.now a.chutes.now a.answers.now a.image.now in
    let e = told_ok (goal.at.returns c).In_ok-tested in
    let needed_is = c.needed-limit.ensures l a.commands.now refl (all_there l a.commands.now (passed _ _ e).0) in
    let told = accepted_so l a.commands.now a.schedule.now needed_is (passes _ _ _ e c.if-schedule-limit.false) c.run-made.ensures in
    record { refusal = told.refusal; counted = told.counted; left = told.left; written = told.written }

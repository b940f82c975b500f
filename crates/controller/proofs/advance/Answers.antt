-- `controller::advance` meets its contract: the first test that fails decides, and where none fails the schedule's steps are performed.
-- Assumes nothing.
use Rattle.std.proofs.Common.{◌≡◌, ℕ, true, cond, List, [], refl, sym, ap, ◌∙◌, arith}
use Rattle.model.specs.Step.{steps}
use Rattle.state_bytes.specs.Layout.{Lists, all_lists, lists_of, state_length, setup_in, state_in, state_fits}
use Rattle.state_bytes.specs.Outcome.{tested_number}
use Rattle.runner.proofs.Performing.{given_are}
use Rattle.controller.proofs.Answer.{passed_on, tests_number, tests_told, refuses_state, long, refuses_thread, passes, accepts, refused_so, accepted_so}
use Rattle.controller.proofs.advance.Goals.{In_ok-tested}
use Rattle.controller.proofs.advance.Goals as goal

-- the state's tests pass
told_ok : (c : In_ok-tested) → ◌≡◌ {A = ℕ} 0 (tests_number (all_lists c.args.state.now c.args.keys.now c.args.chutes.now c.args.answers.now c.args.image.now) c.args.commands.now)
told_ok c =
    let a = c.args in
    let l : Lists = all_lists a.state.now a.keys.now a.chutes.now a.answers.now a.image.now in
    sym (ap tested_number c.in_ok-tested.was)
    ∙ tests_told l a.commands.now (c.image_fits.ensures l a.commands.now refl refl) (c.tested.ensures l a.commands.now refl refl refl refl refl)

pub returns-in_err-tested : goal.returns-in_err-tested
returns-in_err-tested c =
    let a = c.args in
    let l : Lists = all_lists a.state.now a.keys.now a.chutes.now a.answers.now a.image.now in
    let e = sym (ap tested_number c.in_err-tested.was)
    ∙ tests_told l a.commands.now (c.image_fits.ensures l a.commands.now refl refl) (c.tested.ensures l a.commands.now refl refl refl refl refl) in
    let answer = refused_so l _ _ (passed_on _ _ c.from_residual.ensures.1) (refuses_state l _ _ _ e) in
    record { refusal = answer.0; left = answer.1 }

pub bounds-state-3 : goal.bounds-state-3
unfolding state_length
bounds-state-3 c = omega (arith, long _ _ (told_ok (goal.at.bounds-state-3 c).In_ok-tested))

pub returns-then-not-threads_named : goal.returns-then-not-threads_named
returns-then-not-threads_named c =
    let e = told_ok (goal.at.returns-then-not-threads_named c).In_ok-tested in
    let answer = refused_so _ _ _ refl (refuses_thread _ _ _ e (sym c.threads_named.ensures ∙ c.if-not-threads_named.true)) in
    record { refusal = answer.0; left = answer.1 }

pub run-requires : goal.run-requires
run-requires c = passes _ _ _ [] (told_ok (goal.at.run-requires c).In_ok-tested) (sym c.threads_named.ensures ∙ c.if-not-threads_named.false)

pub returns : goal.returns
returns c =
    let a = c.args in
    let l : Lists = all_lists a.state.now a.keys.now a.chutes.now a.answers.now a.image.now in
    let o = setup_in l.state a.commands.now in
    let p = passes l a.commands.now a.schedule.now [] (told_ok (goal.at.returns c).In_ok-tested) (sym c.threads_named.ensures ∙ c.if-not-threads_named.false) in
    let answer = accepted_so l a.commands.now a.schedule.now _ _
    (c.run.ensures.lists ∙ ap (λ (ts : List ℕ). lists_of o (steps o ts (state_in l))) (given_are o a.schedule.now (state_in l))) (accepts l a.commands.now a.schedule.now p) in
    record { refusal = answer.0; left = answer.1 }

-- `depot_c::dispatch_calls::dispatch_bytes` meets its contract: the numbers are read, the proved call is made, and what it leaves is written. Assumes nothing.
use Prim.Native.Nat.{ℕ}
use mathlib.Core.Path.{refl, ap, ◌∙◌}
use mathlib.Core.List.{List}
use Rattle.state_bytes.specs.Layout.{Lists, all_lists}
use Rattle.dispatcher.specs.Calls.{DispatchOutcome, dispatch_on, refusal_in, count_in, lent_left}
use Rattle.depot_c.specs.Boundary.{decoded, number_lists, made_left}
use Rattle.depot_c.proofs.Refused.{passed_on, state_refused}
use Rattle.depot_c.proofs.Outcomes.{rooms_long, are_rooms, rooms_are}
use Rattle.depot_c.proofs.Dispatched.{unlent_answered, told_refused, left_as, written_as, told_made}
use Rattle.depot_c.proofs.dispatch_calls.dispatch_bytes.Goals as goal

-- the proved call
abbrev outcome : List ℕ → List ℕ → Lists → DispatchOutcome
outcome commands schedule l = dispatch_on l commands schedule

pub returns-in_err-counts-clause-number : goal.returns-in_err-counts-clause-number
unfolding number_lists
returns-in_err-counts-clause-number c =
    let a = c.args in
    let b = all_lists a.state.now a.keys.now a.chutes.now a.answers.now a.image.now in
    let unlent = c.tested.ensures.1 _ c.in_err-counts.was in
    let is = unlent_answered a.state.now a.keys.now a.chutes.now a.answers.now a.image.now a.commands.now a.schedule.now _ _ unlent.0 (λ fit. c.image_fits.ensures _ _ refl refl fit) unlent.1 in
    (told_refused (outcome a.commands.now a.schedule.now (decoded b)) b a.schedule.now a.count.now c.if-count-ne-KEY.false (state_refused _).0 (passed_on _ _ c.from_residual.ensures.1) is).number

pub returns-in_err-counts-clause-left : goal.returns-in_err-counts-clause-left
unfolding number_lists
returns-in_err-counts-clause-left c =
    let a = c.args in
    let b = all_lists a.state.now a.keys.now a.chutes.now a.answers.now a.image.now in
    let unlent = c.tested.ensures.1 _ c.in_err-counts.was in
    let is = unlent_answered a.state.now a.keys.now a.chutes.now a.answers.now a.image.now a.commands.now a.schedule.now _ _ unlent.0 (λ fit. c.image_fits.ensures _ _ refl refl fit) unlent.1 in
    (told_refused (outcome a.commands.now a.schedule.now (decoded b)) b a.schedule.now a.count.now c.if-count-ne-KEY.false (state_refused _).0 (passed_on _ _ c.from_residual.ensures.1) is).left

pub returns-in_err-counts-clause-written : goal.returns-in_err-counts-clause-written
unfolding number_lists
returns-in_err-counts-clause-written c =
    let a = c.args in
    let b = all_lists a.state.now a.keys.now a.chutes.now a.answers.now a.image.now in
    let unlent = c.tested.ensures.1 _ c.in_err-counts.was in
    let is = unlent_answered a.state.now a.keys.now a.chutes.now a.answers.now a.image.now a.commands.now a.schedule.now _ _ unlent.0 (λ fit. c.image_fits.ensures _ _ refl refl fit) unlent.1 in
    (told_refused (outcome a.commands.now a.schedule.now (decoded b)) b a.schedule.now a.count.now c.if-count-ne-KEY.false (state_refused _).0 (passed_on _ _ c.from_residual.ensures.1) is).written

pub returns-in_err-counts-clause-counted : goal.returns-in_err-counts-clause-counted
unfolding number_lists
returns-in_err-counts-clause-counted c =
    let a = c.args in
    let b = all_lists a.state.now a.keys.now a.chutes.now a.answers.now a.image.now in
    let unlent = c.tested.ensures.1 _ c.in_err-counts.was in
    let is = unlent_answered a.state.now a.keys.now a.chutes.now a.answers.now a.image.now a.commands.now a.schedule.now _ _ unlent.0 (λ fit. c.image_fits.ensures _ _ refl refl fit) unlent.1 in
    (told_refused (outcome a.commands.now a.schedule.now (decoded b)) b a.schedule.now a.count.now c.if-count-ne-KEY.false (state_refused _).0 (passed_on _ _ c.from_residual.ensures.1) is).counted_is

pub slice_bounds-dispatch_within-end : goal.slice_bounds-dispatch_within-end
slice_bounds-dispatch_within-end c =
    let a = c.args in
    (rooms_long a.keys.now a.chutes.now a.answers.now _ _ (c.tested.ensures.0 _ c.in_ok-counts.was).1 c.read.ensures).0

pub slice_bounds-dispatch_within-end-2 : goal.slice_bounds-dispatch_within-end-2
slice_bounds-dispatch_within-end-2 c =
    let a = c.args in
    (rooms_long a.keys.now a.chutes.now a.answers.now _ _ (c.tested.ensures.0 _ c.in_ok-counts.was).1 c.read.ensures).1

pub slice_bounds-dispatch_within-end-3 : goal.slice_bounds-dispatch_within-end-3
slice_bounds-dispatch_within-end-3 c =
    let a = c.args in
    (rooms_long a.keys.now a.chutes.now a.answers.now _ _ (c.tested.ensures.0 _ c.in_ok-counts.was).1 c.read.ensures).2

pub dispatch_within-requires : goal.dispatch_within-requires
dispatch_within-requires c =
    let a = c.args in
    are_rooms a.keys.now a.chutes.now a.answers.now _ _ (c.tested.ensures.0 _ c.in_ok-counts.was) c.read.ensures

pub returns-in_err-steps-clause-number : goal.returns-in_err-steps-clause-number
returns-in_err-steps-clause-number c =
    let a = c.args in
    let b = all_lists a.state.now a.keys.now a.chutes.now a.answers.now a.image.now in
    let f = outcome a.commands.now a.schedule.now in
    let same = rooms_are a.state.now a.keys.now a.chutes.now a.answers.now a.image.now _ _ (c.tested.ensures.0 _ c.in_ok-counts.was) c.read.ensures in
    (told_refused (f (decoded b)) b a.schedule.now a.count.now c.if-count-ne-KEY.false (state_refused _).0 (passed_on _ _ c.from_residual-in_err-steps.ensures.1)
    (c.in_err-steps.ensures.refusal ∙ ap (λ (l : Lists). refusal_in (f l)) same)).number

pub returns-in_err-steps-clause-left : goal.returns-in_err-steps-clause-left
returns-in_err-steps-clause-left c =
    let a = c.args in
    let b = all_lists a.state.now a.keys.now a.chutes.now a.answers.now a.image.now in
    let f = outcome a.commands.now a.schedule.now in
    let same = rooms_are a.state.now a.keys.now a.chutes.now a.answers.now a.image.now _ _ (c.tested.ensures.0 _ c.in_ok-counts.was) c.read.ensures in
    left_as (f (decoded b)) b a.schedule.now a.count.now c.if-count-ne-KEY.false (c.in_err-steps.ensures.left ∙ ap (λ (l : Lists). made_left (f l) b) same)

pub returns-in_err-steps-clause-written : goal.returns-in_err-steps-clause-written
returns-in_err-steps-clause-written c =
    let a = c.args in
    let b = all_lists a.state.now a.keys.now a.chutes.now a.answers.now a.image.now in
    let f = outcome a.commands.now a.schedule.now in
    let same = rooms_are a.state.now a.keys.now a.chutes.now a.answers.now a.image.now _ _ (c.tested.ensures.0 _ c.in_ok-counts.was) c.read.ensures in
    written_as (f (decoded b)) b a.schedule.now a.count.now c.if-count-ne-KEY.false (c.in_err-steps.ensures.written ∙ ap (λ (l : Lists). lent_left (f l) a.schedule.now) same)

pub returns-in_err-steps-clause-counted : goal.returns-in_err-steps-clause-counted
returns-in_err-steps-clause-counted c =
    let a = c.args in
    let b = all_lists a.state.now a.keys.now a.chutes.now a.answers.now a.image.now in
    let f = outcome a.commands.now a.schedule.now in
    let same = rooms_are a.state.now a.keys.now a.chutes.now a.answers.now a.image.now _ _ (c.tested.ensures.0 _ c.in_ok-counts.was) c.read.ensures in
    (told_refused (f (decoded b)) b a.schedule.now a.count.now c.if-count-ne-KEY.false (state_refused _).0 (passed_on _ _ c.from_residual-in_err-steps.ensures.1)
    (c.in_err-steps.ensures.refusal ∙ ap (λ (l : Lists). refusal_in (f l)) same)).counted_is

pub returns-clause-number : goal.returns-clause-number
returns-clause-number c =
    let a = c.args in
    let b = all_lists a.state.now a.keys.now a.chutes.now a.answers.now a.image.now in
    let f = outcome a.commands.now a.schedule.now in
    let same = rooms_are a.state.now a.keys.now a.chutes.now a.answers.now a.image.now _ _ (c.tested.ensures.0 _ c.in_ok-counts.was) c.read.ensures in
    let steps = c.in_ok-steps.ensures in
    (told_made (f (decoded b)) b a.schedule.now a.count.now c.if-count-ne-KEY.false (steps.refusal ∙ ap (λ (l : Lists). refusal_in (f l)) same)
    (steps.left ∙ ap (λ (l : Lists). made_left (f l) b) same) (steps.written ∙ ap (λ (l : Lists). lent_left (f l) a.schedule.now) same)
    (steps.counted ∙ ap (λ (l : Lists). count_in (f l)) same) c.write.ensures).number

pub returns-clause-left : goal.returns-clause-left
returns-clause-left c =
    let a = c.args in
    let b = all_lists a.state.now a.keys.now a.chutes.now a.answers.now a.image.now in
    let f = outcome a.commands.now a.schedule.now in
    let same = rooms_are a.state.now a.keys.now a.chutes.now a.answers.now a.image.now _ _ (c.tested.ensures.0 _ c.in_ok-counts.was) c.read.ensures in
    let steps = c.in_ok-steps.ensures in
    (told_made (f (decoded b)) b a.schedule.now a.count.now c.if-count-ne-KEY.false (steps.refusal ∙ ap (λ (l : Lists). refusal_in (f l)) same)
    (steps.left ∙ ap (λ (l : Lists). made_left (f l) b) same) (steps.written ∙ ap (λ (l : Lists). lent_left (f l) a.schedule.now) same)
    (steps.counted ∙ ap (λ (l : Lists). count_in (f l)) same) c.write.ensures).left

pub returns-clause-written : goal.returns-clause-written
returns-clause-written c =
    let a = c.args in
    let b = all_lists a.state.now a.keys.now a.chutes.now a.answers.now a.image.now in
    let f = outcome a.commands.now a.schedule.now in
    let same = rooms_are a.state.now a.keys.now a.chutes.now a.answers.now a.image.now _ _ (c.tested.ensures.0 _ c.in_ok-counts.was) c.read.ensures in
    let steps = c.in_ok-steps.ensures in
    (told_made (f (decoded b)) b a.schedule.now a.count.now c.if-count-ne-KEY.false (steps.refusal ∙ ap (λ (l : Lists). refusal_in (f l)) same)
    (steps.left ∙ ap (λ (l : Lists). made_left (f l) b) same) (steps.written ∙ ap (λ (l : Lists). lent_left (f l) a.schedule.now) same)
    (steps.counted ∙ ap (λ (l : Lists). count_in (f l)) same) c.write.ensures).written

pub returns-clause-counted : goal.returns-clause-counted
returns-clause-counted c =
    let a = c.args in
    let b = all_lists a.state.now a.keys.now a.chutes.now a.answers.now a.image.now in
    let f = outcome a.commands.now a.schedule.now in
    let same = rooms_are a.state.now a.keys.now a.chutes.now a.answers.now a.image.now _ _ (c.tested.ensures.0 _ c.in_ok-counts.was) c.read.ensures in
    let steps = c.in_ok-steps.ensures in
    (told_made (f (decoded b)) b a.schedule.now a.count.now c.if-count-ne-KEY.false (steps.refusal ∙ ap (λ (l : Lists). refusal_in (f l)) same)
    (steps.left ∙ ap (λ (l : Lists). made_left (f l) b) same) (steps.written ∙ ap (λ (l : Lists). lent_left (f l) a.schedule.now) same)
    (steps.counted ∙ ap (λ (l : Lists). count_in (f l)) same) c.write.ensures).counted_is

-- `depot_c::advance_call::advance_bytes` meets its contract: the numbers are read, the proved call is made, and what it leaves is written. Assumes nothing.
use mathlib.Core.Path.{refl, ap, ◌∙◌}
use Rattle.state_bytes.specs.Layout.{Lists, all_lists}
use Rattle.state_bytes.specs.Outcome.{refusal_in}
use Rattle.controller.specs.Calls.{advance_on}
use Rattle.depot_c.specs.Boundary.{number_lists, left}
use Rattle.depot_c.proofs.Refused.{passed_on}
use Rattle.depot_c.proofs.Outcomes.{unlent_answered, rooms_long, are_rooms, rooms_are}
use Rattle.depot_c.proofs.advance_call.advance_bytes.Goals as goal

pub returns-in_err-counts-clause-refusal : goal.returns-in_err-counts-clause-refusal
unfolding number_lists
returns-in_err-counts-clause-refusal c =
    let a = c.args in
    let unlent = c.tested.ensures.1 _ c.in_err-counts.was in
    passed_on _ _ c.from_residual.ensures.1
    ∙ (unlent_answered a.state.now a.keys.now a.chutes.now a.answers.now a.image.now a.commands.now a.schedule.now _ _ unlent.0 (λ fit. c.image_fits.ensures _ _ refl refl fit) unlent.1).0

pub returns-in_err-counts-clause-left : goal.returns-in_err-counts-clause-left
unfolding number_lists
returns-in_err-counts-clause-left c =
    let a = c.args in
    let unlent = c.tested.ensures.1 _ c.in_err-counts.was in
    (unlent_answered a.state.now a.keys.now a.chutes.now a.answers.now a.image.now a.commands.now a.schedule.now _ _ unlent.0 (λ fit. c.image_fits.ensures _ _ refl refl fit) unlent.1).1

pub slice_bounds-advance_within-end : goal.slice_bounds-advance_within-end
slice_bounds-advance_within-end c =
    let a = c.args in
    (rooms_long a.keys.now a.chutes.now a.answers.now _ _ (c.tested.ensures.0 _ c.in_ok-counts.was).1 c.read.ensures).0

pub slice_bounds-advance_within-end-2 : goal.slice_bounds-advance_within-end-2
slice_bounds-advance_within-end-2 c =
    let a = c.args in
    (rooms_long a.keys.now a.chutes.now a.answers.now _ _ (c.tested.ensures.0 _ c.in_ok-counts.was).1 c.read.ensures).1

pub slice_bounds-advance_within-end-3 : goal.slice_bounds-advance_within-end-3
slice_bounds-advance_within-end-3 c =
    let a = c.args in
    (rooms_long a.keys.now a.chutes.now a.answers.now _ _ (c.tested.ensures.0 _ c.in_ok-counts.was).1 c.read.ensures).2

pub advance_within-requires : goal.advance_within-requires
advance_within-requires c =
    let a = c.args in
    are_rooms a.keys.now a.chutes.now a.answers.now _ _ (c.tested.ensures.0 _ c.in_ok-counts.was) c.read.ensures

pub returns-in_err-advance_within-clause-refusal : goal.returns-in_err-advance_within-clause-refusal
returns-in_err-advance_within-clause-refusal c =
    let a = c.args in
    let same = rooms_are a.state.now a.keys.now a.chutes.now a.answers.now a.image.now _ _ (c.tested.ensures.0 _ c.in_ok-counts.was) c.read.ensures in
    passed_on _ _ c.from_residual-in_err-advance_within.ensures.1 ∙ c.in_err-advance_within.ensures.refusal ∙ ap (λ (l : Lists). refusal_in (advance_on l a.commands.now a.schedule.now)) same

pub returns-in_err-advance_within-clause-left : goal.returns-in_err-advance_within-clause-left
returns-in_err-advance_within-clause-left c =
    let a = c.args in
    let b = all_lists a.state.now a.keys.now a.chutes.now a.answers.now a.image.now in
    let same = rooms_are a.state.now a.keys.now a.chutes.now a.answers.now a.image.now _ _ (c.tested.ensures.0 _ c.in_ok-counts.was) c.read.ensures in
    c.in_err-advance_within.ensures.left ∙ ap (λ (l : Lists). left (advance_on l a.commands.now a.schedule.now) b) same

pub returns-clause-refusal : goal.returns-clause-refusal
returns-clause-refusal c =
    let a = c.args in
    let same = rooms_are a.state.now a.keys.now a.chutes.now a.answers.now a.image.now _ _ (c.tested.ensures.0 _ c.in_ok-counts.was) c.read.ensures in
    c.in_ok-advance_within.ensures.refusal ∙ ap (λ (l : Lists). refusal_in (advance_on l a.commands.now a.schedule.now)) same

pub returns-clause-left : goal.returns-clause-left
returns-clause-left c =
    let a = c.args in
    let b = all_lists a.state.now a.keys.now a.chutes.now a.answers.now a.image.now in
    let same = rooms_are a.state.now a.keys.now a.chutes.now a.answers.now a.image.now _ _ (c.tested.ensures.0 _ c.in_ok-counts.was) c.read.ensures in
    c.in_ok-advance_within.ensures.left ∙ ap (λ (l : Lists). left (advance_on l a.commands.now a.schedule.now) b) same

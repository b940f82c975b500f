-- `depot_c::dispatch_calls::count_steps` meets its contract: the number of steps is told of the numbers that were read. Assumes nothing.
use Prim.Native.Nat.{ℕ}
use borrow.Author.Rules.{rules}
use native.Mathlib.Omega.{arith}
use mathlib.Core.Path.{◌≡◌, sym, ap, ◌∙◌}
use mathlib.Core.List.{[]}
use lib.ListN.{length}
use lib.Seq.{length-take-le}
use Rattle.s10.specs.Refusal.{plain}
use Rattle.byte_fields.specs.Bytes.{bytes_of, pasted}
use Rattle.state_bytes.specs.Layout.{Lists, lists}
use Rattle.dispatcher.specs.Calls.{needed_on, count_needed}
use Rattle.depot_c.specs.Boundary.{decoded}
use Rattle.depot_c.proofs.Refused.{passed_on, state_refused, state_plain}
use Rattle.depot_c.proofs.Outcomes.{counts_few, rooms_are}
use Rattle.depot_c.proofs.Dispatched.{unlent_needed, needed_refused, needed_told}
use Rattle.depot_c.proofs.dispatch_calls.count_steps.Goals as goal

pub returns-in_err-counts-clause-number : goal.returns-in_err-counts-clause-number
returns-in_err-counts-clause-number c =
    let a = c.args in
    let l = decoded (lists a.state.now a.keys.now a.chutes.now a.answers.now) in
    let unlent = c.tested.ensures.1 _ c.in_err-counts.was in
    (needed_refused (needed_on l a.commands.now) (count_needed l a.commands.now) a.count.now c.if-count-ne-KEY.false (state_refused _).0 (passed_on _ _ c.from_residual.ensures.1)
    (unlent_needed a.state.now a.keys.now a.chutes.now a.answers.now a.commands.now _ unlent.0 unlent.1)).0

pub returns-in_err-counts-clause-left : goal.returns-in_err-counts-clause-left
returns-in_err-counts-clause-left c =
    let a = c.args in
    let l = decoded (lists a.state.now a.keys.now a.chutes.now a.answers.now) in
    let unlent = c.tested.ensures.1 _ c.in_err-counts.was in
    (needed_refused (needed_on l a.commands.now) (count_needed l a.commands.now) a.count.now c.if-count-ne-KEY.false (state_refused _).0 (passed_on _ _ c.from_residual.ensures.1)
    (unlent_needed a.state.now a.keys.now a.chutes.now a.answers.now a.commands.now _ unlent.0 unlent.1)).1

pub slice_bounds-key_room-end : goal.slice_bounds-key_room-end
slice_bounds-key_room-end c =
    let long : length c.read_lists.new.key_room ≡ 4096 = search rules in
    omega (arith, long, (counts_few _ _ _ _ (c.tested.ensures.0 _ c.in_ok-counts.was)).0)

pub slice_bounds-chute_room-end : goal.slice_bounds-chute_room-end
slice_bounds-chute_room-end c =
    let long : length c.read_lists.new.chute_room ≡ 4096 = search rules in
    omega (arith, long, (counts_few _ _ _ _ (c.tested.ensures.0 _ c.in_ok-counts.was)).1)

pub slice_bounds-answer_room-end : goal.slice_bounds-answer_room-end
slice_bounds-answer_room-end c =
    let long : length c.read_lists.new.answer_room ≡ 4096 = search rules in
    omega (arith, long, (counts_few _ _ _ _ (c.tested.ensures.0 _ c.in_ok-counts.was)).2)

pub slice_bounds-steps_needed-end : goal.slice_bounds-steps_needed-end
slice_bounds-steps_needed-end c =
    let long : length c.read_lists.new.key_room ≡ 4096 = search rules in
    sym (length-take-le c.in_ok-counts.counts.keys c.read_lists.new.key_room (omega (arith, long, (counts_few _ _ _ _ (c.tested.ensures.0 _ c.in_ok-counts.was)).0)))

pub slice_bounds-steps_needed-end-2 : goal.slice_bounds-steps_needed-end-2
slice_bounds-steps_needed-end-2 c =
    let long : length c.read_lists.new.chute_room ≡ 4096 = search rules in
    sym (length-take-le c.in_ok-counts.counts.chutes c.read_lists.new.chute_room (omega (arith, long, (counts_few _ _ _ _ (c.tested.ensures.0 _ c.in_ok-counts.was)).1)))

pub slice_bounds-steps_needed-end-3 : goal.slice_bounds-steps_needed-end-3
slice_bounds-steps_needed-end-3 c =
    let long : length c.read_lists.new.answer_room ≡ 4096 = search rules in
    sym (length-take-le c.in_ok-counts.counts.answers c.read_lists.new.answer_room (omega (arith, long, (counts_few _ _ _ _ (c.tested.ensures.0 _ c.in_ok-counts.was)).2)))

pub returns-in_err-needed-clause-number : goal.returns-in_err-needed-clause-number
returns-in_err-needed-clause-number c =
    let a = c.args in
    let l = decoded (lists a.state.now a.keys.now a.chutes.now a.answers.now) in
    let lent = c.tested.ensures.0 _ c.in_ok-counts.was in
    let number = c.in_err-needed.ensures.refusal in
    let same = rooms_are a.state.now a.keys.now a.chutes.now a.answers.now [] _ _ lent c.read_lists.ensures in
    (needed_refused (needed_on l a.commands.now) (count_needed l a.commands.now) a.count.now c.if-count-ne-KEY.false (state_refused _).0 (passed_on _ _ c.from_residual-in_err-needed.ensures.1)
    (state_plain _ ∙ ap plain (number ∙ ap (λ (m : Lists). needed_on m a.commands.now) same))).0

pub returns-in_err-needed-clause-left : goal.returns-in_err-needed-clause-left
returns-in_err-needed-clause-left c =
    let a = c.args in
    let l = decoded (lists a.state.now a.keys.now a.chutes.now a.answers.now) in
    let lent = c.tested.ensures.0 _ c.in_ok-counts.was in
    let number = c.in_err-needed.ensures.refusal in
    let same = rooms_are a.state.now a.keys.now a.chutes.now a.answers.now [] _ _ lent c.read_lists.ensures in
    (needed_refused (needed_on l a.commands.now) (count_needed l a.commands.now) a.count.now c.if-count-ne-KEY.false (state_refused _).0 (passed_on _ _ c.from_residual-in_err-needed.ensures.1)
    (state_plain _ ∙ ap plain (number ∙ ap (λ (m : Lists). needed_on m a.commands.now) same))).1

pub returns-clause-number : goal.returns-clause-number
returns-clause-number c =
    let a = c.args in
    let lent = c.tested.ensures.0 _ c.in_ok-counts.was in
    let number = c.in_ok-needed.ensures.refusal in
    let counted = c.in_ok-needed.ensures.counted in
    let same = rooms_are a.state.now a.keys.now a.chutes.now a.answers.now [] _ _ lent c.read_lists.ensures in
    (needed_told _ a.count.now c.if-count-ne-KEY.false (number ∙ ap (λ (m : Lists). needed_on m a.commands.now) same)
    (c.write.ensures ∙ ap (λ (n : ℕ). pasted 0 (bytes_of 8 n) a.count.now) (counted ∙ ap (λ (m : Lists). count_needed m a.commands.now) same))).0

pub returns-clause-left : goal.returns-clause-left
returns-clause-left c =
    let a = c.args in
    let lent = c.tested.ensures.0 _ c.in_ok-counts.was in
    let number = c.in_ok-needed.ensures.refusal in
    let counted = c.in_ok-needed.ensures.counted in
    let same = rooms_are a.state.now a.keys.now a.chutes.now a.answers.now [] _ _ lent c.read_lists.ensures in
    (needed_told _ a.count.now c.if-count-ne-KEY.false (number ∙ ap (λ (m : Lists). needed_on m a.commands.now) same)
    (c.write.ensures ∙ ap (λ (n : ℕ). pasted 0 (bytes_of 8 n) a.count.now) (counted ∙ ap (λ (m : Lists). count_needed m a.commands.now) same))).1

-- `depot_c::panel_calls::count_pending` meets its contract: the report is that on the numbers that were read. Assumes nothing.
use borrow.Author.Rules.{rules}
use native.Mathlib.Omega.{arith}
use mathlib.Core.Path.{◌≡◌, sym, ap, ◌∙◌}
use mathlib.Core.List.{[]}
use lib.ListN.{length}
use lib.Seq.{length-take-le}
use Rattle.s10.specs.Refusal.{plain}
use Rattle.state_bytes.specs.Layout.{Lists, state_in}
use Rattle.panel.specs.Reports.{pending_counts}
use Rattle.depot_c.proofs.Refused.{passed_on, state_refused}
use Rattle.depot_c.proofs.Outcomes.{counts_few, rooms_are}
use Rattle.depot_c.proofs.Reporting.{unlent_told, misfit_told, refused_left, report_on}
use Rattle.depot_c.proofs.panel_calls.count_pending.Goals as goal

pub returns-then-counts-ne-COUNTS_LENGTH-clause-number : goal.returns-then-counts-ne-COUNTS_LENGTH-clause-number
returns-then-counts-ne-COUNTS_LENGTH-clause-number c =
    c.from.ensures ∙ ap plain (sym (misfit_told _ c.args.commands.now (length c.args.counts.now) 150 c.if-counts-ne-COUNTS_LENGTH.true))

pub returns-then-counts-ne-COUNTS_LENGTH-clause-left : goal.returns-then-counts-ne-COUNTS_LENGTH-clause-left
returns-then-counts-ne-COUNTS_LENGTH-clause-left c =
    refused_left _ _ c.args.counts.now (omega arith) (ap plain (sym (misfit_told _ c.args.commands.now (length c.args.counts.now) 150 c.if-counts-ne-COUNTS_LENGTH.true)))

pub returns-in_err-lent-clause-number : goal.returns-in_err-lent-clause-number
returns-in_err-lent-clause-number c =
    let a = c.args in
    let unlent = c.tested.ensures.1 _ c.in_err-lent.was in
    let is = unlent_told a.state.now a.keys.now a.chutes.now a.answers.now a.commands.now (length a.counts.now) 150 _ c.if-counts-ne-COUNTS_LENGTH.false unlent.0 unlent.1 in
    passed_on _ _ c.from_residual.ensures.1 ∙ is

pub returns-in_err-lent-clause-left : goal.returns-in_err-lent-clause-left
returns-in_err-lent-clause-left c =
    let a = c.args in
    let unlent = c.tested.ensures.1 _ c.in_err-lent.was in
    let is = unlent_told a.state.now a.keys.now a.chutes.now a.answers.now a.commands.now (length a.counts.now) 150 _ c.if-counts-ne-COUNTS_LENGTH.false unlent.0 unlent.1 in
    refused_left _ _ a.counts.now (state_refused _).0 is

pub slice_bounds-key_room-end : goal.slice_bounds-key_room-end
slice_bounds-key_room-end c =
    let long : length c.read_lists.new.key_room ≡ 4096 = search rules in
    omega (arith, long, (counts_few _ _ _ _ (c.tested.ensures.0 _ c.in_ok-lent.was)).0)

pub slice_bounds-chute_room-end : goal.slice_bounds-chute_room-end
slice_bounds-chute_room-end c =
    let long : length c.read_lists.new.chute_room ≡ 4096 = search rules in
    omega (arith, long, (counts_few _ _ _ _ (c.tested.ensures.0 _ c.in_ok-lent.was)).1)

pub slice_bounds-answer_room-end : goal.slice_bounds-answer_room-end
slice_bounds-answer_room-end c =
    let long : length c.read_lists.new.answer_room ≡ 4096 = search rules in
    omega (arith, long, (counts_few _ _ _ _ (c.tested.ensures.0 _ c.in_ok-lent.was)).2)

pub slice_bounds-pending_counts-end : goal.slice_bounds-pending_counts-end
slice_bounds-pending_counts-end c =
    let long : length c.read_lists.new.key_room ≡ 4096 = search rules in
    sym (length-take-le c.in_ok-lent.lent.keys c.read_lists.new.key_room (omega (arith, long, (counts_few _ _ _ _ (c.tested.ensures.0 _ c.in_ok-lent.was)).0)))

pub slice_bounds-pending_counts-end-2 : goal.slice_bounds-pending_counts-end-2
slice_bounds-pending_counts-end-2 c =
    let long : length c.read_lists.new.chute_room ≡ 4096 = search rules in
    sym (length-take-le c.in_ok-lent.lent.chutes c.read_lists.new.chute_room (omega (arith, long, (counts_few _ _ _ _ (c.tested.ensures.0 _ c.in_ok-lent.was)).1)))

pub slice_bounds-pending_counts-end-3 : goal.slice_bounds-pending_counts-end-3
slice_bounds-pending_counts-end-3 c =
    let long : length c.read_lists.new.answer_room ≡ 4096 = search rules in
    sym (length-take-le c.in_ok-lent.lent.answers c.read_lists.new.answer_room (omega (arith, long, (counts_few _ _ _ _ (c.tested.ensures.0 _ c.in_ok-lent.was)).2)))

pub returns-in_err-pending_counts-clause-number : goal.returns-in_err-pending_counts-clause-number
returns-in_err-pending_counts-clause-number c =
    let a = c.args in
    let lent = c.tested.ensures.0 _ c.in_ok-lent.was in
    let refusal = c.in_err-pending_counts.ensures.refusal in
    let left = c.in_err-pending_counts.ensures.left in
    let same = rooms_are a.state.now a.keys.now a.chutes.now a.answers.now [] _ _ lent c.read_lists.ensures in
    let told = report_on (λ (m : Lists). pending_counts (state_in m)) a.commands.now a.counts.now 150 same refusal left in
    passed_on _ _ c.from_residual-in_err-pending_counts.ensures.1 ∙ told.0

pub returns-in_err-pending_counts-clause-left : goal.returns-in_err-pending_counts-clause-left
returns-in_err-pending_counts-clause-left c =
    let a = c.args in
    let lent = c.tested.ensures.0 _ c.in_ok-lent.was in
    let refusal = c.in_err-pending_counts.ensures.refusal in
    let left = c.in_err-pending_counts.ensures.left in
    let same = rooms_are a.state.now a.keys.now a.chutes.now a.answers.now [] _ _ lent c.read_lists.ensures in
    let told = report_on (λ (m : Lists). pending_counts (state_in m)) a.commands.now a.counts.now 150 same refusal left in
    told.1

pub returns-clause-number : goal.returns-clause-number
returns-clause-number c =
    let a = c.args in
    let lent = c.tested.ensures.0 _ c.in_ok-lent.was in
    let refusal = c.in_ok-pending_counts.ensures.refusal in
    let left = c.in_ok-pending_counts.ensures.left in
    let same = rooms_are a.state.now a.keys.now a.chutes.now a.answers.now [] _ _ lent c.read_lists.ensures in
    let told = report_on (λ (m : Lists). pending_counts (state_in m)) a.commands.now a.counts.now 150 same refusal left in
    told.0

pub returns-clause-left : goal.returns-clause-left
returns-clause-left c =
    let a = c.args in
    let lent = c.tested.ensures.0 _ c.in_ok-lent.was in
    let refusal = c.in_ok-pending_counts.ensures.refusal in
    let left = c.in_ok-pending_counts.ensures.left in
    let same = rooms_are a.state.now a.keys.now a.chutes.now a.answers.now [] _ _ lent c.read_lists.ensures in
    let told = report_on (λ (m : Lists). pending_counts (state_in m)) a.commands.now a.counts.now 150 same refusal left in
    told.1

-- `depot::perform::open_and_advance` meets its contract: the first refusal of the two calls is passed on, and else the report is that of the lists
-- that are left. Assumes nothing.
use mathlib.Core.Path.{refl, ◌∙◌}
use mathlib.Core.List.{[]}
use Rattle.std.proofs.lemmas.Result.{err_from_is_err_and}
use Rattle.state_bytes.specs.Layout.{Lists, all_lists, lists}
use Rattle.opening.specs.Calls.{nothing, open_on}
use Rattle.controller.specs.Calls.{advance_on}
use Rattle.depot.specs.Program.{report, advanced}
use Rattle.depot.proofs.Chain.{report_by_bytes}
use Rattle.depot.proofs.Outcome.{open_numbered, advance_numbered, open_refused, open_accepted, advance_refused, advance_accepted}
use Rattle.depot.proofs.perform.open_and_advance.Goals as goal

pub returns-in_err-open-clause-refused : goal.returns-in_err-open-clause-refused
returns-in_err-open-clause-refused c =
    let a = c.args in
    let lent : Lists = all_lists a.state.now a.keys.now a.chutes.now a.answers.now a.image.now in
    let p = err_from_is_err_and c.from_residual.result c.from_residual.ensures.1 in
    rw p.1 (open_refused (advanced a.commands.now a.schedule.now) (open_on a.size a.workers a.capacity a.commands.now nothing lent) c.open.result _ p.0 c.in_err-open.was c.open.ensures.refusal p.2)

pub returns-in_err-advance-clause-refused : goal.returns-in_err-advance-clause-refused
unfolding advanced
returns-in_err-advance-clause-refused c =
    let a = c.args in
    let commands = a.commands.now in
    let lent : Lists = all_lists a.state.now a.keys.now a.chutes.now a.answers.now a.image.now in
    let n = c.open.new in
    let left : Lists = all_lists n.state n.keys n.chutes n.answers n.image in
    let opened = open_accepted (advanced commands a.schedule.now) (open_on a.size a.workers a.capacity commands nothing lent) lent left c.open.result _
    (open_numbered a.size a.workers a.capacity commands nothing lent) c.in_ok-open.was c.open.ensures.refusal c.open.ensures.left in
    let p = err_from_is_err_and c.from_residual-in_err-advance.result c.from_residual-in_err-advance.ensures.1 in
    let r = advance_refused (report commands) (advance_on left commands a.schedule.now) c.advance.result _ p.0 c.in_err-advance.was c.advance.ensures.refusal p.2 in
    rw p.1 (r.0, opened ∙ r.1)

pub returns-clause-done : goal.returns-clause-done
unfolding advanced
returns-clause-done c =
    let a = c.args in
    let commands = a.commands.now in
    let lent : Lists = all_lists a.state.now a.keys.now a.chutes.now a.answers.now a.image.now in
    let n = c.open.new in
    let left : Lists = all_lists n.state n.keys n.chutes n.answers n.image in
    let m = c.advance.new in
    let last : Lists = all_lists m.state m.keys m.chutes m.answers m.image in
    let opened = open_accepted (advanced commands a.schedule.now) (open_on a.size a.workers a.capacity commands nothing lent) lent left c.open.result _
    (open_numbered a.size a.workers a.capacity commands nothing lent) c.in_ok-open.was c.open.ensures.refusal c.open.ensures.left in
    let performed = advance_accepted (report commands) (advance_on left commands a.schedule.now) left last c.advance.result _
    (advance_numbered left commands a.schedule.now) c.in_ok-advance.was c.advance.ensures.refusal c.advance.ensures.left in
    opened ∙ performed ∙ report_by_bytes commands last (lists m.state [] [] m.answers) refl refl

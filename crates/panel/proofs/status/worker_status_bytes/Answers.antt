-- `panel::status::worker_status_bytes` meets its contract: a byte list of another length is refused, and the tests of the others are those of the
-- report in structs. Assumes nothing.
use Rattle.std.proofs.Common.{length, refl, sym, ap, ◌∙◌}
use Rattle.s10.specs.Refusal.{plain}
use Rattle.state_bytes.specs.Layout.{Lists, lists, state_in}
use Rattle.panel.specs.Reports.{report_of, report_left, largest_in}
use Rattle.panel.proofs.Reporting.{refuses_report, as_wanted, number_told, refused_for, left_old, left_report, made_report}
use Rattle.panel.proofs.status.worker_status_bytes.Goals as goal

pub returns-then-bytes-ne-STATUS_BYTES : goal.returns-then-bytes-ne-STATUS_BYTES
unfolding report_left
returns-then-bytes-ne-STATUS_BYTES c =
    record { refusal = ap plain (refuses_report (lists c.args.state.now c.args.keys.now c.args.chutes.now c.args.answers.now) c.args.commands.now (length c.args.bytes.now) 128 c.if-bytes-ne-STATUS_BYTES.true); left = refl }

pub returns-in_err-worker_status : goal.returns-in_err-worker_status
returns-in_err-worker_status c =
    let a = c.args in
    let l : Lists = lists a.state.now a.keys.now a.chutes.now a.answers.now in
    let e = sym (ap report_of c.in_err-worker_status.was) ∙ number_told _ c.worker_status.ensures.refusal ∙ as_wanted l a.commands.now (length a.bytes.now) 128 c.if-bytes-ne-STATUS_BYTES.false in
    record { refusal = refused_for _ _ c.from_residual.ensures.1 e; left = left_old _ _ _ _ c.from_residual.ensures.1 }

pub returns : goal.returns
returns c =
    let a = c.args in
    let l : Lists = lists a.state.now a.keys.now a.chutes.now a.answers.now in
    let e = sym (ap report_of c.in_ok-worker_status.was) ∙ number_told _ c.worker_status.ensures.refusal ∙ as_wanted l a.commands.now (length a.bytes.now) 128 c.if-bytes-ne-STATUS_BYTES.false in
    record { refusal = ap plain e; left = left_report _ (c.write_entries.ensures (largest_in a.state.now) (state_in l) (made_report _ _ c.worker_status.ensures.left c.in_ok-worker_status.was)) }

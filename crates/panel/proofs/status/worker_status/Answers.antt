-- `panel::status::worker_status` meets its contract: where the tests pass the report is written, and a refusal leaves the list. Assumes nothing.
use Rattle.std.proofs.Common.{◌≡◌, ℕ, length, refl, sym, ap, ◌∙◌}
use Rattle.s10.specs.Refusal.{plain}
use Rattle.state_bytes.specs.Layout.{Lists, lists}
use Rattle.state_bytes.specs.Outcome.{tested_number}
use Rattle.panel.specs.Reports.{report_number}
use Rattle.panel.proofs.Reporting.{tests_told, passed_lengths, refused_for, left_old, left_report}
use Rattle.panel.proofs.status.worker_status.Goals.{In_ok-tested}
use Rattle.panel.proofs.status.worker_status.Goals as goal

-- the tests pass
told_ok : (c : In_ok-tested) → let l : Lists = lists c.args.state.now c.args.keys.now c.args.chutes.now c.args.answers.now in ◌≡◌ {A = ℕ} 0 (report_number l c.args.commands.now (length c.args.status.now) 64)
told_ok c = sym (ap tested_number c.in_ok-tested.was) ∙ tests_told _ _ _ _ (c.tested.ensures _ _ refl refl refl refl refl)

pub returns-in_err-tested : goal.returns-in_err-tested
returns-in_err-tested c =
    let e = sym (ap tested_number c.in_err-tested.was) ∙ tests_told (lists c.args.state.now c.args.keys.now c.args.chutes.now c.args.answers.now) c.args.commands.now _ _ (c.tested.ensures _ _ refl refl refl refl refl) in
    record { refusal = refused_for _ _ c.from_residual.ensures.1 e; left = left_old _ _ _ _ c.from_residual.ensures.1 }

pub write_status-requires : goal.write_status-requires
write_status-requires c = passed_lengths _ _ _ _ (told_ok (goal.at.write_status-requires c).In_ok-tested)

pub returns : goal.returns
returns c = record { refusal = ap plain (told_ok (goal.at.returns c).In_ok-tested); left = left_report _ (c.write_status.ensures _ refl) }

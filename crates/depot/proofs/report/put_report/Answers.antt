-- `depot::report::put_report` meets its contract: two texts one behind the other. Assumes nothing.
use native.Mathlib.Omega.{arith}
use mathlib.Core.Path.{refl}
use mathlib.Core.List.{[]}
use Rattle.state_bytes.specs.Layout.{lists}
use Rattle.depot.specs.Program.{report}
use Rattle.depot.proofs.Chain.{totals_by_bytes}
use Rattle.depot.proofs.Wrote.{wrote_then}
use Rattle.depot.proofs.report.put_report.Goals as goal

pub returns : goal.returns
unfolding report
returns c =
    let a = c.args in
    rw (totals_by_bytes (lists a.state.now [] [] a.answers.now) (lists a.state.now [] [] []) refl)
    (wrote_then (omega arith) c.put_lines-at.ensures.wrote c.put_totals.ensures)

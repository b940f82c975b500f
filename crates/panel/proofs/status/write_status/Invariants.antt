-- `panel::status::write_status` meets its contract. The loop's invariant: the status of the first i workers is written. Assumes nothing.
use Rattle.panel.proofs.Entries.{Wrote}
use Rattle.panel.proofs.status.write_status.Given as goal

abbrev pub invariant-loop-i : goal.invariant-loop-i
invariant-loop-i l = Wrote l.state l.initial.status l.i l.status

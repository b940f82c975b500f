-- `depot::report::put_lines` meets its contract. The loop's invariant: the lines of the commands before what the iterator has left stand at the
-- start. Assumes nothing.
use Prim.Native.Nat.{◌≤◌}
use mathlib.Core.Path.{◌≡◌}
use lib.ListN.{length}
use Rattle.depot.proofs.Lines.{Lined}
use Rattle.depot.proofs.report.put_lines.Given as goal

abbrev pub invariant-loop-i : goal.invariant-loop-i
invariant-loop-i l = record {
  size : l.i-iterator.iter.size ≡ 16;
  same : length l.out ≡ length l.initial.out;
  lined : Lined l.commands l.answers l.i-iterator.iter.rest.now l.i-iterator.count l.at l.initial.out l.out;
}

-- `panel::pending::write_counts` meets its contract: each pass writes one more entry, and stays at 0 behind the last node. Assumes nothing.
use native.Mathlib.Omega.{arith}
use mathlib.Core.Path.{◌≡◌}
use lib.ListN.{length}
use Rattle.panel.proofs.Counts.{counted_none, counted_end, counted_more, counted_all}
use Rattle.panel.proofs.pending.write_counts.Goals as goal
use Rattle.panel.proofs.pending.write_counts.Goals.{then-node-eq0, else-node-eq0}

pub loop-count-init : goal.loop-count-init
loop-count-init c l same = counted_none (c.next_at-node.ensures l same) c.requires.1

pub loop-count-preserved : goal.loop-count-preserved
loop-count-preserved c l same =
    let counted = c.loop-count.invariant l same in
    let long : length c.loop-count.count-items ≡ 150 = counted.filled.long in
    elim c.if-node-eq0.branch [
      | then-node-eq0 w ↦ rw (w.count-items-is, w.node-is) (counted_end counted (omega arith) w.if-node-eq0.true)
      | else-node-eq0 w ↦ rw (w.count-items-is, w.node-is) (counted_more counted (omega arith) w.if-node-eq0.false (w.count_of.ensures l same) (w.next_at-node-else-node-eq0.ensures l same))
    ]

pub returns : goal.returns
returns c l same = counted_all (c.loop-count.invariant l same) (omega arith)

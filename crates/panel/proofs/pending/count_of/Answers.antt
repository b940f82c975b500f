-- `panel::pending::count_of` meets its contract: a set has at most 192 members, so that their count is a byte. Assumes nothing.
use native.Mathlib.Omega.{arith}
use Rattle.node_set.specs.Members.{member}
use Rattle.panel.proofs.Counts.{count_within, count_past, count_read}
use Rattle.panel.proofs.pending.count_of.Goals as goal

pub returns-then-n-gt-LAST_NODE : goal.returns-then-n-gt-LAST_NODE
returns-then-n-gt-LAST_NODE c l same = count_past l c.args.node.0 c.if-n-gt-LAST_NODE.true

pub overflow_cast-result : goal.overflow_cast-result
overflow_cast-result c = omega (arith, c.count.ensures, count_within 192 (member c.set_at.result))

pub returns : goal.returns
returns c l same =
    let args = c.args in
    count_read l args.node.0 args.state.now same c.if-n-gt-LAST_NODE.false c.set_at.ensures c.count.ensures

-- `panel::pending::write_counts` meets its contract. The loop's invariant: the first entries are the counts of the first nodes, with 0 past the
-- last, and node is the one after them. Assumes nothing.
use mathlib.Core.Path.{◌≡◌}
use Rattle.state_bytes.specs.Layout.{Lists, state_in}
use Rattle.panel.proofs.Counts.{Counted}
use Rattle.panel.proofs.pending.write_counts.Given as goal

abbrev pub invariant-loop-count : goal.invariant-loop-count
invariant-loop-count l = (shown : Lists) → shown.state ≡ l.state → Counted (state_in shown) l.count-items l.node.0 l.count-index

-- `dispatcher::used_nodes` meets its contract. The loop's invariant: the nodes below n that have a command are counted. Assumes nothing.
use Prim.Native.Nat.{◌≤◌}
use mathlib.Core.Path.{◌≡◌}
use Rattle.node_set.specs.Members.{count_below}
use Rattle.dispatcher.proofs.Bound.{has_one}
use Rattle.dispatcher.proofs.used_nodes.Given as goal

abbrev pub invariant-loop-n : goal.invariant-loop-n
invariant-loop-n l = (l.n ≤ l.last) × (l.used ≤ l.n) × (l.used ≡ count_below l.n (has_one l.state))

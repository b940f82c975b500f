-- `runner::perform` meets its contract. The outer loop's invariant: after so many steps memory and threads show the state after them, and with what
-- is left, the rest of the schedule or what the dispatcher still chooses, they are all. The inner loop's: the steps of the first j threads kept
-- ahead are made. Assumes nothing.
use Prim.Native.Nat.{◌-◌}
use mathlib.Core.Path.{◌≡◌}
use lib.ListN.{length}
use Rattle.graph.specs.Memory.{memory}
use Rattle.runner.specs.Performed.{order_of, most}
use Rattle.runner.proofs.Performing.{Along, Block}
use Rattle.runner.proofs.perform.Given as goal

abbrev pub invariant-loop-j : goal.invariant-loop-j
invariant-loop-j l = Block l.commands l.ahead (memory l.initial.graph l.initial.keys l.initial.chutes l.initial.answers l.initial.image l.initial.counters) l.initial.threads (memory l.graph l.keys l.chutes l.answers l.image l.counters) l.threads l.j

abbrev pub invariant-loop-plan : goal.invariant-loop-plan
invariant-loop-plan l = Along l.settings l.commands (order_of l.order) l.initial.lent (memory l.initial.graph l.initial.keys l.initial.chutes l.initial.answers l.initial.image l.initial.counters) l.initial.threads (memory l.graph l.keys l.chutes l.answers l.image l.counters) l.threads l.lent l.plan l.done
    × (length l.ahead ≡ 256)

abbrev pub decreases-loop-plan : goal.decreases-loop-plan
decreases-loop-plan l = most (order_of l.order) - l.done

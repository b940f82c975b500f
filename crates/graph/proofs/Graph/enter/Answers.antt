-- `Graph::enter` meets its contract: the two cases of entering. Assumes nothing.
use mathlib.Core.Bool.{true, false}
use mathlib.Core.Path.{sym, ◌∙◌}
use borrow.Author.Rules.{rules}
use Rattle.graph.proofs.Bridge.{set_is_upd}
use Rattle.graph.proofs.Steps.{enter_waits, enter_locks}
use Rattle.graph.proofs.Graph.enter.Goals as goal

pub returns-then-is_locked-clause-steps : goal.returns-then-is_locked-clause-steps
returns-then-is_locked-clause-steps c =
    enter_waits c.args.thread c.args.entered c.args.self.now (sym c.is_locked.ensures ∙ c.if-is_locked.true)

pub returns-clause-steps : goal.returns-clause-steps
returns-clause-steps c =
    enter_locks c.args.thread c.args.entered c.args.self.now _ (sym c.is_locked.ensures ∙ c.if-is_locked.false) (set_is_upd c.args.self.now.locked 0 true false (search rules))

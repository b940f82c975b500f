-- `Graph::search` meets its contract: each return is one of the cases of searching. Assumes nothing.
use mathlib.Core.Path.{sym, ◌∙◌}
use mathlib.Core.Bool.{false}
use borrow.Author.Rules.{rules}
use Rattle.graph.proofs.Bridge.{set_is_upd}
use Rattle.graph.proofs.Steps.{search_ends, search_waits, search_takes, search_steps}
use Rattle.graph.proofs.Graph.search.Goals as goal

pub returns-then-n-eq0-clause-steps : goal.returns-then-n-eq0-clause-steps
returns-then-n-eq0-clause-steps c =
    let a = c.args in
    search_ends a.allowed a.at a.self.now _ c.behind-y.ensures.0 _ c.if-n-eq0.true (set_is_upd a.self.now.locked a.at.0 false false (search rules))

pub returns-then-is_locked-clause-steps : goal.returns-then-is_locked-clause-steps
returns-then-is_locked-clause-steps c =
    let a = c.args in
    search_waits a.allowed a.at a.self.now _ c.behind-y.ensures.0 c.if-n-eq0.false (sym c.is_locked.ensures ∙ c.if-is_locked.true)

pub returns-then-takes-clause-steps : goal.returns-then-takes-clause-steps
returns-then-takes-clause-steps c =
    let a = c.args in
    search_takes a.allowed a.at a.self.now _ c.behind-y.ensures.0 c.if-n-eq0.false c.step_on.new.self c.step_on.ensures (search rules) (search rules) c.requires.1 c.behind-y.ensures.1
    (sym c.is_locked.ensures ∙ c.if-is_locked.false) (sym c.takes.ensures ∙ c.if-takes.true)

pub returns-clause-steps : goal.returns-clause-steps
returns-clause-steps c =
    let a = c.args in
    search_steps a.allowed a.at a.self.now _ c.behind-y.ensures.0 c.if-n-eq0.false c.step_on.new.self c.step_on.ensures (search rules) c.requires.1 c.behind-y.ensures.1
    (sym c.is_locked.ensures ∙ c.if-is_locked.false) (sym c.takes.ensures ∙ c.if-takes.false)

-- `Graph::loader_walk` meets its contract: each way out is a case of the model's walk. Assumes nothing.
use mathlib.Core.Path.{sym, ◌∙◌}
use borrow.Author.Rules.{rules}
use Rattle.graph.proofs.Bridge.{nodes_stored}
use Rattle.graph.proofs.Loading.{loader_links, loader_waits, loader_steps}
use Rattle.graph.proofs.Graph.loader_walk.Goals as goal

pub returns-then-y-eq0-clause-within : goal.returns-then-y-eq0-clause-within
returns-then-y-eq0-clause-within c =
    let a = c.args in
    (tt, nodes_stored a.self.now.next c.link.new.self.next a.at.0 a.own.0 c.requires.0 c.requires.2 c.link.ensures.next_is)

pub returns-then-y-eq0-clause-steps : goal.returns-then-y-eq0-clause-steps
returns-then-y-eq0-clause-steps c =
    let a = c.args in
    loader_links a.at a.own a.self.now _ c.behind-y.ensures.0 c.link.new.self c.if-y-eq0.true c.link.ensures

pub returns-then-is_locked-clause-steps : goal.returns-then-is_locked-clause-steps
returns-then-is_locked-clause-steps c =
    let a = c.args in
    loader_waits a.at a.own a.self.now _ c.behind-y.ensures.0 c.if-y-eq0.false (sym c.is_locked.ensures ∙ c.if-is_locked.true)

pub returns-clause-steps : goal.returns-clause-steps
returns-clause-steps c =
    let a = c.args in
    loader_steps a.at a.own a.self.now _ c.behind-y.ensures.0 c.if-y-eq0.false c.step_on.new.self c.add_dependence.new.self c.step_on.ensures c.add_dependence.ensures (search rules) c.requires.1 c.behind-y.ensures.1
    c.requires.2 (sym c.is_locked.ensures ∙ c.if-is_locked.false)

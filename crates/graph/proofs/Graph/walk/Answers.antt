-- `Graph::walk` meets its contract: each return is one of the cases of walking. Assumes nothing.
use mathlib.Core.Path.{sym, ◌∙◌}
use borrow.Author.Rules.{rules}
use borrow.Author.Tests.{eq-eqb, ne_eqb}
use Rattle.graph.proofs.Bridge.{set_is_upd}
use Rattle.graph.proofs.Steps.{walk_waits, walk_bypasses, walk_steps}
use Rattle.graph.proofs.Graph.walk.Goals as goal
use Rattle.graph.proofs.Graph.walk.Goals.{then-n-eq0-via-then-n-eq0, then-n-eq0-via-else-n-eq0+then-is_locked}

pub returns-then-n-eq0-clause-steps : goal.returns-then-n-eq0-clause-steps
returns-then-n-eq0-clause-steps c =
    let a = c.args in
    walk_waits a.at a.own a.self.now _ c.behind-y.ensures.0
    (elim c.then-n-eq0.branch [
      | then-n-eq0-via-then-n-eq0 w ↦ rw (eq-eqb _ 0 w.if-n-eq0.true)
      | then-n-eq0-via-else-n-eq0+then-is_locked w ↦ rw (ne_eqb _ 0 w.if-n-eq0.false) (sym w.is_locked.ensures ∙ w.if-is_locked.true)
    ])

pub returns-then-y-own-clause-steps : goal.returns-then-y-own-clause-steps
returns-then-y-own-clause-steps c =
    let a = c.args in
    walk_bypasses a.at a.own a.self.now _ c.behind-y.ensures.0 c.if-n-eq0.false (sym c.is_locked.ensures ∙ c.if-is_locked.false) _ c.if-y-own.true (set_is_upd a.self.now.next a.at.0 _ 0 (search rules))

pub returns-clause-steps : goal.returns-clause-steps
returns-clause-steps c =
    let a = c.args in
    walk_steps a.at a.own a.self.now _ c.behind-y.ensures.0 c.if-n-eq0.false (sym c.is_locked.ensures ∙ c.if-is_locked.false) c.step_on.new.self c.step_on.ensures (search rules) c.requires.1 c.behind-y.ensures.1 c.if-y-own.false

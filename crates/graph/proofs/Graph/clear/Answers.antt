-- `Graph::clear` meets its contract: each return is one of the cases of clearing. Assumes nothing.
use mathlib.Core.Path.{◌≡◌, refl, sym, ap, ◌∙◌}
use mathlib.Core.Bool.{false}
use mathlib.Core.List.{[]}
use lib.ListN.{get_or}
use borrow.Author.Rules.{rules}
use Rattle.std.proofs.lemmas.List.{get_or_default}
use Rattle.node_set.specs.Members.{member}
use Rattle.model.specs.Upd.{upd}
use Rattle.graph.specs.declared.Graph.{Graph}
use Rattle.graph.specs.Arrays.{sets}
use Rattle.graph.proofs.Bridge.{set_is_upd, nodes_stored, removed_is_upd}
use Rattle.graph.proofs.Commands.{kept_forgotten}
use Rattle.graph.proofs.Steps.{clear_returns, clear_waits, clear_steps, clears_on}
use Rattle.graph.proofs.Graph.clear.Goals as goal

pub returns-then-y-eq0-clause-within : goal.returns-then-y-eq0-clause-within
returns-then-y-eq0-clause-within c =
    let a = c.args in
    (tt, c.requires.2, nodes_stored a.self.now.next c.put_back.new.self.next a.own.0 a.free.0 c.requires.0 c.requires.3 c.put_back.ensures.next_is)

pub returns-then-y-eq0-clause-steps : goal.returns-then-y-eq0-clause-steps
returns-then-y-eq0-clause-steps c =
    let a = c.args in
    clear_returns a.at a.own a.free.0 a.self.now _ c.behind-y.ensures.0 _ _ c.if-y-eq0.true (set_is_upd a.self.now.locked a.at.0 false false (search rules)) c.put_back.ensures

pub returns-then-y-eq0-clause-kept : goal.returns-then-y-eq0-clause-kept
returns-then-y-eq0-clause-kept c =
    let a = c.args in
    λ cs. kept_forgotten cs a.self.now c.put_back.new.self a.own.0 (search rules) c.put_back.ensures.seq_is c.put_back.ensures.items_are

pub returns-then-y-eq0-clause-items : goal.returns-then-y-eq0-clause-items
returns-then-y-eq0-clause-items c = (λ e. c.put_back.ensures.items_are, λ busy. absurd (busy refl))

pub returns-then-is_locked-clause-steps : goal.returns-then-is_locked-clause-steps
returns-then-is_locked-clause-steps c =
    let a = c.args in
    clear_waits a.at a.own a.free.0 a.self.now _ c.behind-y.ensures.0 c.if-y-eq0.false (sym c.is_locked.ensures ∙ c.if-is_locked.true)

pub returns-then-is_locked-clause-items : goal.returns-then-is_locked-clause-items
returns-then-is_locked-clause-items c = (λ e. absurd (clears_on e), λ busy. refl)

pub returns-clause-steps : goal.returns-clause-steps
returns-clause-steps c =
    let a = c.args in
    let y = c.behind-y.result.0 in
    let at_y : get_or c.step_on.new.self.waits y c.index-self-n.result ≡ get_or c.step_on.new.self.waits y [] = get_or_default _ y _ [] (search rules) in
    let removed : member c.remove.result ≡ upd (sets c.step_on.new.self.waits y) a.own.0 false = rw at_y at (removed_is_upd _ _ _ c.remove.ensures) in
    clear_steps a.at a.own a.free.0 a.self.now y c.behind-y.ensures.0 c.if-y-eq0.false c.step_on.new.self c.step_on.ensures (search rules) (search rules) c.requires.1 c.behind-y.ensures.1 (sym c.is_locked.ensures ∙ c.if-is_locked.false)
    c.remove.result removed

pub returns-clause-items : goal.returns-clause-items
returns-clause-items c = (λ e. absurd (clears_on e), λ busy. ap (λ (g : Graph). g.items) c.step_on.ensures)

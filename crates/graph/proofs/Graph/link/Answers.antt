-- `Graph::link` meets its contract: each of its stores is one of the updates. Assumes nothing.
use mathlib.Core.Bool.{false}
use borrow.Author.Rules.{rules}
use Rattle.graph.proofs.Bridge.{set_is_upd}
use Rattle.graph.proofs.Graph.link.Goals as goal

pub returns : goal.returns
returns c =
    let a = c.args in
    let g = a.self.now in record {
      next_is = set_is_upd g.next a.at.0 a.own.0 0 (search rules);
      executing_is = set_is_upd g.executing a.own.0 false false (search rules);
      locked_is = set_is_upd g.locked a.at.0 false false (search rules);
      others = search rules;
    }

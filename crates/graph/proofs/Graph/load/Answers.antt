-- `Graph::load` meets its contract: each of its stores is one of the updates. Assumes nothing.
use mathlib.Core.Bool.{true, false}
use borrow.Author.Rules.{rules}
use Rattle.graph.proofs.Bridge.{set_is_upd}
use Rattle.graph.proofs.Graph.load.Goals as goal

pub returns : goal.returns
returns c =
    let g = c.args.self.now in record {
      next_is = set_is_upd g.next c.args.free.0 0 0 (search rules);
      seq_is = set_is_upd g.seq c.args.free.0 c.args.place.0 0 (search rules);
      locked_is = set_is_upd g.locked 0 true false (search rules);
      rest_is = search rules;
      items_are = search rules;
      others = search rules;
    }

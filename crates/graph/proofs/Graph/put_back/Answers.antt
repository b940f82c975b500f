-- `Graph::put_back` meets its contract: each of its stores is one of the updates. Assumes nothing.
use mathlib.Core.Path.{◌∙◌, ap}
use mathlib.Core.Bool.{false}
use borrow.Author.Rules.{rules}
use Rattle.model.specs.Upd.{upd}
use Rattle.graph.specs.Arrays.{sets}
use Rattle.graph.proofs.Bridge.{set_is_upd, set_is_upd_members, empty_is_none}
use Rattle.graph.proofs.Graph.put_back.Goals as goal

pub returns : goal.returns
returns c =
    let g = c.args.self.now in
    let own = c.args.own.0 in record {
      next_is = set_is_upd g.next own c.args.free.0 0 (search rules);
      seq_is = set_is_upd g.seq own 0 0 (search rules);
      executing_is = set_is_upd g.executing own false false (search rules);
      locked_is = set_is_upd g.locked own false false (search rules);
      waits_is = set_is_upd_members g.waits own _ (search rules) ∙ ap (upd (sets g.waits) own) (empty_is_none _ c.empty.ensures);
      items_are = search rules;
    }

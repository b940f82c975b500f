-- `Graph::add_dependence` meets its contract: the set is stored with the node where the commands are dependent. Assumes nothing.
use mathlib.Core.Path.{◌≡◌, ap, ◌∙◌}
use mathlib.Core.Bool.{true}
use mathlib.Core.List.{[]}
use native.Mathlib.Omega.{arith}
use borrow.Author.Rules.{rules}
use borrow.Author.Tests.{lt-ltb}
use Rattle.std.proofs.lemmas.List.{get_or_default}
use Rattle.node_set.specs.Members.{member}
use Rattle.model.specs.Upd.{upd}
use Rattle.graph.specs.Arrays.{sets}
use Rattle.graph.proofs.Bridge.{set_is_upd_members}
use Rattle.graph.proofs.Loading.{added_is_upd}
use Rattle.graph.proofs.Graph.add_dependence.Goals as goal

pub returns-then-dependent : goal.returns-then-dependent
returns-then-dependent c =
    let a = c.args in
    let waits = a.self.now.waits in
    let added : member c.add.result ≡ upd (sets waits a.own.0) a.y.0 true =
    rw (get_or_default waits a.own.0 c.index-self-n.result [] (search rules)) at (added_is_upd _ c.add.result a.y.0 (lt-ltb a.y.0 192 (omega arith)) c.add.ensures) in
    record {
      waits_is = rw (← c.item.ensures, ← c.item-2.ensures, ← c.dependent.ensures, c.if-dependent.true) (set_is_upd_members waits a.own.0 c.add.result (search rules) ∙ ap (upd (sets waits) a.own.0) added);
      others = search rules;
    }

pub returns-else-dependent : goal.returns-else-dependent
returns-else-dependent c = record {
  waits_is = rw (← c.item.ensures, ← c.item-2.ensures, ← c.dependent.ensures, c.if-dependent.false);
  others = search rules;
}

-- `depot::report::chain_length` meets its contract: the walk goes on, ends, or is cut. Assumes nothing.
use native.Mathlib.Omega.{arith}
use mathlib.Core.Path.{◌≡◌, refl, sym, ◌∙◌}
use Rattle.state_bytes.specs.Layout.{state_length}
use Rattle.depot.proofs.Chain.{walk_begins, walk_goes_on, walk_ends, walk_is_cut}
use Rattle.depot.proofs.report.chain_length.Goals as goal

pub loop-count-init : goal.loop-count-init
loop-count-init c = walk_begins _

pub next_at-node-requires : goal.next_at-node-requires
unfolding state_length
next_at-node-requires c = omega arith

pub returns-then-node-eq0 : goal.returns-then-node-eq0
returns-then-node-eq0 c =
    let l = c.loop-count in
    record {
      value = walk_ends _ l.node.0 l.count l.invariant (sym (c.next_at-node.ensures _ refl) ∙ c.if-node-eq0.true);
      upper_bound = l.invariant.0;
    }

pub loop-count-preserved : goal.loop-count-preserved
loop-count-preserved c =
    let l = c.loop-count in
    walk_goes_on _ l.node.0 c.next_at-node.result.0 l.count l.invariant (omega arith) (c.next_at-node.ensures _ refl) c.if-node-eq0.false

pub returns-clause-value : goal.returns-clause-value
returns-clause-value c =
    let l = c.loop-count in
    let end : l.count ≡ 150 = omega arith in
    sym end ∙ walk_is_cut _ l.node.0 l.count l.invariant (omega arith)

-- `opening::first_next` meets its contract. The loop's invariant: the next indexes are those of a graph of n nodes. Assumes nothing.
use Prim.Native.Nat.{ℕ}
use native.Mathlib.Omega.{arith}
use mathlib.Core.Path.{◌≡◌, ap, ◌∙◌}
use Rattle.model.specs.Graph.{first_next}
use Rattle.opening.proofs.FirstState.{first_none, first_more}
use Rattle.opening.proofs.first_next.Goals as goal

pub loop-n-init : goal.loop-n-init
loop-n-init c = first_none

pub loop-n-preserved : goal.loop-n-preserved
loop-n-preserved c = first_more c.loop-n.n c.loop-n.next (omega arith) c.loop-n.invariant

pub returns : goal.returns
returns c n =
    let whole : c.loop-n.n ≡ c.args.size = omega arith in
    c.loop-n.invariant.is n ∙ ap (λ (size : ℕ). first_next size n) whole

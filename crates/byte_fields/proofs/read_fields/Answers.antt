-- `byte_fields::read_fields` meets its contract. The loop's invariant: the first n values are filled. Assumes nothing.
use Prim.Native.Nat.{ℕ, ◌+◌, ◌*◌}
use mathlib.Core.Path.{refl, ap, ◌∙◌}
use Rattle.byte_fields.proofs.Fill.{filled_none, filled_more}
use Rattle.byte_fields.proofs.read_fields.Goals as goal

pub loop-n-init : goal.loop-n-init
loop-n-init g c = filled_none refl

pub loop-n-preserved : goal.loop-n-preserved
loop-n-preserved g c =
    let place : (w : ℕ) → ℕ = λ w. c.args.at + w * c.loop-n.n in
    filled_more c.read.result c.loop-n.invariant c.loop-n-test.true
    (c.read.ensures ∙ ap (λ (w : ℕ). g.F.Field.value_at (place w) c.args.list.now) c.WIDTH.ensures)

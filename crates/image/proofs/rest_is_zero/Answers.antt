-- `image::rest_is_zero` meets its contract: four bytes are zeros where both halves are. Assumes nothing.
use Rattle.image.proofs.Slots.{rest_passes, rest_fails}
use Rattle.image.proofs.rest_is_zero.Goals as goal

pub returns-then-number_at-eq0 : goal.returns-then-number_at-eq0
returns-then-number_at-eq0 c =
    rest_passes c.args.image.now c.args.i c.requires c.number_at.result c.number_at-then-number_at-eq0.result c.number_at.ensures c.number_at-then-number_at-eq0.ensures c.if-number_at-eq0.true

pub returns-else-number_at-eq0 : goal.returns-else-number_at-eq0
returns-else-number_at-eq0 c =
    rest_fails c.args.image.now c.args.i c.requires c.number_at.result c.number_at.ensures c.if-number_at-eq0.false

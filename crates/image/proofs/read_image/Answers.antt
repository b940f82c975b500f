-- `image::read_image` meets its contract. The loop's invariant: the chain was followed for `used` indexes, whose entries are laid out. Assumes
-- nothing.
use Rattle.std.proofs.Common.{refl, arith}
use Rattle.image.proofs.Reading.{along_begins, along_in_image, along_goes_on, along_ends, along_full, laid_none, laid_entry, laid_zeros, laid_full, filled_behind}
use Rattle.model.specs.Image.{image_length}
use Rattle.image.proofs.read_image.Goals as goal

pub loop-used-init : goal.loop-used-init
loop-used-init c = (along_begins _ _ c.requires.2 c.next_in-index.ensures, laid_none _ refl c.requires.1)

pub returns-then-index-eq0 : goal.returns-then-index-eq0
returns-then-index-eq0 c =
    let inv = c.loop-used.invariant in
    laid_zeros inv.1 (along_ends inv.0 c.if-index-eq0.true)
    (filled_behind c.loop-used.used c.loop-used.keys inv.1.keys_read.long (c.fill.ensures.after (λ y e. e)))
    (filled_behind c.loop-used.used c.loop-used.chutes inv.1.chutes_read.long (c.fill-then-index-eq0.ensures.after (λ y e. e)))

pub key_in-requires : goal.key_in-requires
key_in-requires c =
    along_in_image c.loop-used.invariant.0 c.loop-used-test.true c.if-index-eq0.false c.requires.0

pub chute_in-requires : goal.chute_in-requires
chute_in-requires c =
    along_in_image c.loop-used.invariant.0 c.loop-used-test.true c.if-index-eq0.false c.requires.0

pub next_in-index-requires-in-loop-used : goal.next_in-index-requires-in-loop-used
unfolding image_length
next_in-index-requires-in-loop-used c =
    omega (arith, along_in_image c.loop-used.invariant.0 c.loop-used-test.true c.if-index-eq0.false c.requires.0)

pub loop-used-preserved : goal.loop-used-preserved
loop-used-preserved c =
    let inv = c.loop-used.invariant in
    let met = c.loop-used-test.true in (
      along_goes_on inv.0 met c.if-index-eq0.false c.next_in-index-in-loop-used.ensures,
      laid_entry inv.1 inv.0 met c.if-index-eq0.false c.key_in.ensures c.chute_in.ensures,
    )

pub returns : goal.returns
returns c =
    let inv = c.loop-used.invariant in
    laid_full inv.1 (along_full inv.0 c.loop-used-test.false) (omega arith)

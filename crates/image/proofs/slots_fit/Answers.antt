-- `image::slots_fit` meets its contract. The loop's invariant: the chain was followed for n indexes, which passed, and those from i on decide.
-- Assumes nothing.
use Rattle.std.proofs.Common.{sym, ◌∙◌}
use Rattle.image.proofs.Reading.{along_begins, along_in_image, along_goes_on, along_ends, along_full, head_fails, head_passes, slots_pass, slot_fails, slot_passes}
use Rattle.image.proofs.slots_fit.Goals as goal

pub returns-then-not-head_fits : goal.returns-then-not-head_fits
returns-then-not-head_fits c = head_fails _ _ (sym c.head_fits.ensures ∙ c.if-not-head_fits.true)

pub loop-init : goal.loop-init
loop-init c =
    (along_begins _ _ c.requires.1 c.next_in-i.ensures, head_passes _ _ (sym c.head_fits.ensures ∙ c.if-not-head_fits.false))

pub slot_fits-requires : goal.slot_fits-requires
slot_fits-requires c =
    along_in_image c.loop.invariant.0 c.loop-test.true c.if-i-eq0.false c.requires.0

pub returns-then-not-slot_fits : goal.returns-then-not-slot_fits
returns-then-not-slot_fits c =
    let loop = c.loop in
    slot_fails loop.invariant.0 loop.invariant.1 c.loop-test.true c.if-i-eq0.false (sym c.slot_fits.ensures ∙ c.if-not-slot_fits.true)

pub next_in-i-requires-in-loop : goal.next_in-i-requires-in-loop
next_in-i-requires-in-loop c =
    along_in_image c.loop.invariant.0 c.loop-test.true c.if-i-eq0.false c.requires.0

pub loop-preserved : goal.loop-preserved
loop-preserved c =
    let loop = c.loop in
    let met = c.loop-test.true in (
      along_goes_on loop.invariant.0 met c.if-i-eq0.false c.next_in-i-in-loop.ensures,
      slot_passes loop.invariant.0 loop.invariant.1 met c.if-i-eq0.false (sym c.slot_fits.ensures ∙ c.if-not-slot_fits.false),
    )

pub returns-then-i-eq0 : goal.returns-then-i-eq0
returns-then-i-eq0 c =
    let inv = c.loop.invariant in
    slots_pass inv.0 inv.1 (along_ends inv.0 c.if-i-eq0.true)

pub returns-after-loop : goal.returns-after-loop
returns-after-loop c =
    let inv = c.loop.invariant in
    slots_pass inv.0 inv.1 (along_full inv.0 c.loop-test.false)

-- `image::slots_fit` meets its contract. The loop's invariant: the chain was followed for n indexes, which passed, and those from i on decide.
-- Assumes nothing.
use Rattle.std.proofs.Common.{◌≡◌, drop}
use Rattle.model.specs.Image.{chain_in, all, slot_fits, slots_fit}
use Rattle.image.proofs.Reading.{Along}
use Rattle.image.proofs.slots_fit.Given as goal

abbrev pub invariant-loop : goal.invariant-loop
invariant-loop l = Along l.capacity l.image l.i l.counter × (slots_fit l.capacity l.image ≡ all (slot_fits l.image) (drop l.counter (chain_in l.capacity l.image)))

-- `image::chain_fits` meets its contract. The loop's invariant: the first n indexes passed, and those from i on decide. Assumes nothing.
use Rattle.image.proofs.Chain.{Testing}
use Rattle.image.proofs.chain_fits.Given as goal

abbrev pub invariant-loop : goal.invariant-loop
invariant-loop l = Testing l.capacity l.image l.i l.counter l.last

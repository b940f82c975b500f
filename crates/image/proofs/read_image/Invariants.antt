-- `image::read_image` meets its contract. The loop's invariant: the chain was followed for `used` indexes, whose entries are laid out. Assumes
-- nothing.
use Rattle.image.proofs.Reading.{Along, Laid}
use Rattle.image.proofs.read_image.Given as goal

abbrev pub invariant-loop-used : goal.invariant-loop-used
invariant-loop-used l = Along l.room l.image l.index l.used × Laid l.room l.image l.keys l.chutes l.used

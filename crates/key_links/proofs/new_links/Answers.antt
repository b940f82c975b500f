-- In a list of zeros there is no other. Assumes nothing.
use Rattle.std.proofs.Common.{refl}
use Rattle.key_links.proofs.Links.{zeros}
use Rattle.key_links.proofs.new_links.Goals as goal

pub returns : goal.returns
returns c = (refl, zeros 4096)

-- No key is linked, and every bucket is empty. Assumes nothing.
use Rattle.std.proofs.Common.{arith}
use Rattle.key_links.proofs.Links.{indexed_none}
use Rattle.key_links.proofs.KeyLinks.new.Goals as goal

pub invariant_of-result : goal.invariant_of-result
invariant_of-result c = (omega arith, indexed_none _ _ _ c.new_links-2.ensures.1)

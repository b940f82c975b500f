-- The loop's invariant: the key's last stands up to the link, which leads to a key of the bucket. Assumes nothing.
use Rattle.key_links.proofs.Links.{Walked}
use Rattle.key_links.proofs.last_of.Given as goal

abbrev pub invariant-loop-link : goal.invariant-loop-link
invariant-loop-link l = Walked l.keys l.key l.k l.link

abbrev pub decreases-loop-link : goal.decreases-loop-link
decreases-loop-link l = l.link

-- The walk begins at the last of the key's bucket, and ends at the last of the key. Assumes nothing.
use Rattle.std.proofs.Common.{arith}
use Rattle.key_links.proofs.Links.{walk_begins, walk_goes, walk_ends, walk_fails}
use Rattle.key_links.proofs.last_of.Goals as goal

pub loop-link-init : goal.loop-link-init
loop-link-init c = walk_begins c.args.keys.now c.args.key c.args.k c.args.last c.requires.2

pub offset_bounds-keys-j : goal.offset_bounds-keys-j
offset_bounds-keys-j c = omega (arith, c.loop-link.invariant.0, c.requires.0)

pub bounds-keys-j : goal.bounds-keys-j
bounds-keys-j c = omega (arith, c.loop-link.invariant.0, c.requires.0)

pub returns-then-keys-j : goal.returns-then-keys-j
returns-then-keys-j c = walk_ends c.args.keys.now c.args.key c.args.k c.loop-link.link c.loop-link.invariant c.loop-link-test.true c.if-keys-j.true

pub offset_bounds-previous-j : goal.offset_bounds-previous-j
offset_bounds-previous-j c = omega (arith, c.loop-link.invariant.0, c.requires.0)

pub bounds-previous-j : goal.bounds-previous-j
bounds-previous-j c = omega (arith, c.loop-link.invariant.0, c.requires.0, c.requires.1)

pub loop-link-smaller : goal.loop-link-smaller
loop-link-smaller c = (walk_goes c.args.keys.now c.args.previous.now c.args.key c.args.k c.loop-link.link c.requires.3 c.loop-link.invariant c.loop-link-test.true c.if-keys-j.false).0

pub loop-link-preserved : goal.loop-link-preserved
loop-link-preserved c = (walk_goes c.args.keys.now c.args.previous.now c.args.key c.args.k c.loop-link.link c.requires.3 c.loop-link.invariant c.loop-link-test.true c.if-keys-j.false).1

pub returns : goal.returns
returns c = walk_fails c.args.keys.now c.args.key c.args.k c.loop-link.link c.loop-link.invariant c.loop-link-test.false

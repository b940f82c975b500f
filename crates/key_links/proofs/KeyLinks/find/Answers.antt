-- The last of the first of the table is the last of those entered. Assumes nothing.
use Rattle.std.proofs.Common.{◌≡◌, length, arith, rules}
use Rattle.key_links.proofs.Links.{last_of_taken, place_of_none, place_of_link}
use Rattle.key_links.proofs.KeyLinks.find.Goals as goal

pub returns-then-link-eq0 : goal.returns-then-link-eq0
returns-then-link-eq0 c =
    let a = c.self.inside in
    let long : length a.keys ≡ 4096 = search rules in
    rw (← c.self.view_is, last_of_taken a.keys c.args.key a.count (omega (arith, c.self.invariant.0)), ← c.find-link.ensures) (place_of_none c.find-link.result c.if-link-eq0.true)

pub returns : goal.returns
returns c =
    let a = c.self.inside in
    let long : length a.keys ≡ 4096 = search rules in
    rw (← c.self.view_is, last_of_taken a.keys c.args.key a.count (omega (arith, c.self.invariant.0)), ← c.find-link.ensures) (place_of_link c.find-link.result c.if-link-eq0.false)

-- The key goes to the front of its bucket. Assumes nothing.
use Rattle.std.proofs.Common.{◌≡◌, ◌<◌, length, ap, arith, rules}
use native.Mathlib.Numerals.{add-one}
use Rattle.std.proofs.lemmas.List.{length-take-le}
use Rattle.key_links.proofs.KeyLinks.enter.Goals as goal

pub invariant_of-self : goal.invariant_of-self
invariant_of-self c =
    let a = c.self.inside in
    let long : length a.keys ≡ 4096 = search rules in
    let count = length-take-le a.count a.keys (omega (arith, c.self.invariant.0)) in
    let room : a.count < 4096 = omega (arith, ap length c.self.view_is, c.requires) in
    (omega arith, rw add-one c.enter.ensures.index)

-- `key_links::enter` meets its contract: the key goes to the front of its bucket. Assumes nothing.
use mathlib.Core.Path.{refl}
use native.Mathlib.Numerals.{add-one}
use native.Mathlib.Omega.{arith}
use Rattle.key_links.proofs.Links.{indexed_more}
use Rattle.key_links.proofs.enter.Goals as goal

pub returns : goal.returns
returns c =
    let a = c.args in
    let p = c.requires in
    let b = c.bucket_of-bucket.ensures in
    let index = indexed_more a.keys.now a.previous.now a.heads.now a.i a.key p.4 p.0 (omega (arith, p.0, p.2)) p.3 (rw b.0 at b.1) in
    record { entered = refl; index = rw (b.0, add-one) index }

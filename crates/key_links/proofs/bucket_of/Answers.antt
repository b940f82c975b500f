-- `key_links::bucket_of` meets its contract. Assumes nothing.
use Prim.Native.Nat.{◌%◌, ◌<◌}
use mathlib.Core.Path.{refl}
use native.Mathlib.Nat.{mod-lt}
use native.Mathlib.Omega.{arith}
use Rattle.key_links.specs.Links.{bucket_of}
use Rattle.key_links.proofs.bucket_of.Goals as goal

pub returns : goal.returns
unfolding bucket_of
returns c = let low : c.args.key % 4093 < 4093 = mod-lt c.args.key (omega arith) in (refl, omega (arith, low))

-- `key_links::find` meets its contract: the walk begins at the last of the key's bucket. Assumes nothing.
use Rattle.key_links.specs.Links.{bucket_of}
use Rattle.key_links.proofs.find.Goals as goal

pub last_of-requires : goal.last_of-requires
last_of-requires c =
    let p = c.requires in
    let b = c.bucket_of.ensures in
    (p.0, p.1, rw b.0 (p.3.1 (bucket_of c.args.key) (rw b.0 at b.1)), p.3.0)

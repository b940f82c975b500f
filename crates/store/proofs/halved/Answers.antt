-- `store::halved` meets its contract. Assumes nothing.
use Rattle.std.proofs.Common.{refl, rules}
use Rattle.store.proofs.Halve.{leads_once}
use Rattle.store.proofs.halved.Goals as goal

pub returns : goal.returns
returns c =
    (leads_once c.args.keys.now c.args.key c.args.left c.if-keys-middle.result c.requires.0 (search rules), refl)

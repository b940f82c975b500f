-- `store::thrice` meets its contract: each halving leaves at most half and one. Assumes nothing.
use native.Mathlib.Omega.{arith}
use Rattle.store.proofs.Halve.{leads_trans}
use Rattle.store.proofs.thrice.Goals as goal

pub returns : goal.returns
returns c =
    let keys = c.args.keys.now in
    let key = c.args.key in
    let two = leads_trans keys key c.args.left c.halved-once.result c.halved-twice.result c.halved-once.ensures.0 c.halved-twice.ensures.0 in
    (leads_trans keys key c.args.left c.halved-twice.result c.halved.result two c.halved.ensures.0, omega (arith, c.halved-once.ensures.1, c.halved-twice.ensures.1, c.halved.ensures.1))

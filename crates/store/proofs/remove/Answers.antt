-- `store::remove` meets its contract: both lists are shifted down from the place found, where the key is held. Assumes nothing.
use Rattle.std.proofs.Common.{arith}
use Rattle.model.specs.Store.{shift_down}
use Rattle.store.specs.Lists.{store_of}
use Rattle.store.proofs.Operations.{held_within, removed, not_removed}
use Rattle.store.proofs.remove.Goals as goal

pub shift_down-requires : goal.shift_down-requires
shift_down-requires c = omega (arith, held_within c.args.key (store_of c.args.keys.now c.args.chutes.now c.args.used) c.in_use-n.ensures.counted c.in-Ok.ensures)

pub returns-in-Ok : goal.returns-in-Ok
unfolding shift_down
returns-in-Ok c = removed c.args.key (store_of c.args.keys.now c.args.chutes.now c.args.used) c.in_use-n.ensures.counted c.in-Ok.ensures c.shift_down.ensures c.shift_down-in-Ok.ensures

pub returns-in-Err : goal.returns-in-Err
returns-in-Err c = not_removed c.args.key (store_of c.args.keys.now c.args.chutes.now c.args.used) c.in_use-n.ensures.counted c.in-Err.ensures

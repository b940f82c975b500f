-- `store::replace` meets its contract: the chute is stored at the place found, where the key is held. Assumes nothing.
use Rattle.std.proofs.Common.{arith}
use Rattle.store.specs.Lists.{store_of}
use Rattle.store.proofs.Operations.{held_within, replaced, not_replaced}
use Rattle.store.proofs.replace.Goals as goal

pub offset_bounds-chutes-place : goal.offset_bounds-chutes-place
offset_bounds-chutes-place c = omega (arith, held_within c.args.key (store_of c.args.keys.now c.args.chutes.now c.args.used) c.in_use-n.ensures.counted c.in-Ok.ensures)

pub bounds-chutes-place : goal.bounds-chutes-place
bounds-chutes-place c = omega (arith, held_within c.args.key (store_of c.args.keys.now c.args.chutes.now c.args.used) c.in_use-n.ensures.counted c.in-Ok.ensures)

pub returns-in-Ok : goal.returns-in-Ok
returns-in-Ok c = replaced c.args.key (store_of c.args.keys.now c.args.chutes.now c.args.used) c.in_use-n.ensures.counted c.in-Ok.ensures c.args.chute

pub returns-in_default : goal.returns-in_default
returns-in_default c = not_replaced c.args.key (store_of c.args.keys.now c.args.chutes.now c.args.used) c.in_use-n.ensures.counted c.in_default.ensures c.args.chute

-- `store::insert` meets its contract: a key that is held gets the chute at the place found; else both lists are shifted up from there, where
-- both have a place left. Assumes nothing.
use Rattle.std.proofs.Common.{arith}
use Rattle.model.specs.Store.{room, shift_up}
use Rattle.store.specs.Lists.{store_of}
use Rattle.store.proofs.Operations.{held_within, room_within, inserted, not_inserted, inserted_again}
use Rattle.store.proofs.insert.Goals as goal

pub offset_bounds-chutes-at : goal.offset_bounds-chutes-at
offset_bounds-chutes-at c = omega (arith, held_within c.args.key (store_of c.args.keys.now c.args.chutes.now c.args.used) c.in_use-n.ensures.counted c.in-Ok.ensures)

pub bounds-chutes-at : goal.bounds-chutes-at
bounds-chutes-at c = omega (arith, held_within c.args.key (store_of c.args.keys.now c.args.chutes.now c.args.used) c.in_use-n.ensures.counted c.in-Ok.ensures)

pub returns-in-Ok : goal.returns-in-Ok
returns-in-Ok c = inserted_again c.args.key (store_of c.args.keys.now c.args.chutes.now c.args.used) c.in_use-n.ensures.counted c.in-Ok.ensures c.args.chute

pub returns-in-Err : goal.returns-in-Err
unfolding room
returns-in-Err c = not_inserted c.args.key (store_of c.args.keys.now c.args.chutes.now c.args.used) c.in_use-n.ensures.counted c.in-Err.ensures c.args.chute (omega arith)

pub shift_up-requires : goal.shift_up-requires
unfolding room
shift_up-requires c = omega (arith, room_within c.args.key (store_of c.args.keys.now c.args.chutes.now c.args.used) c.in_use-n.ensures.counted c.in-Err.ensures (omega arith))

pub returns-in-Err-2 : goal.returns-in-Err-2
unfolding room shift_up
returns-in-Err-2 c = inserted c.args.key (store_of c.args.keys.now c.args.chutes.now c.args.used) c.in_use-n.ensures.counted c.in-Err.ensures c.args.chute (omega arith) c.shift_up.ensures c.shift_up-in-Err-2.ensures

-- `store::look_up` meets its contract: the chute stands at the place found, where the key is held. Assumes nothing.
use Rattle.std.proofs.Common.{◌<◌, length, arith}
use Rattle.store.proofs.Operations.{chosen_within, looked_up, none_held}
use Rattle.store.specs.Lists.{store_of}
use Rattle.store.proofs.look_up.Goals as goal

pub returns-then-entries-eq0 : goal.returns-then-entries-eq0
returns-then-entries-eq0 c = none_held c.args.key (store_of c.args.keys.now c.args.chutes.now c.args.used) c.in_use-entries.ensures.counted c.if-entries-eq0.true

pub offset_bounds-chutes-unwrap_or : goal.offset_bounds-chutes-unwrap_or
offset_bounds-chutes-unwrap_or c =
    let within : c.unwrap_or.result < length c.args.chutes.now
    = rw c.unwrap_or.ensures (chosen_within c.args.key (store_of c.args.keys.now c.args.chutes.now c.args.used) c.in_use-entries.ensures.counted c.if-entries-eq0.false c.find-found.result c.find-found.ensures) in
    omega arith

pub bounds-chutes-unwrap_or : goal.bounds-chutes-unwrap_or
bounds-chutes-unwrap_or c =
    rw c.unwrap_or.ensures (chosen_within c.args.key (store_of c.args.keys.now c.args.chutes.now c.args.used) c.in_use-entries.ensures.counted c.if-entries-eq0.false c.find-found.result c.find-found.ensures)

pub returns-then-is_ok : goal.returns-then-is_ok
returns-then-is_ok c =
    let found = looked_up c.args.key (store_of c.args.keys.now c.args.chutes.now c.args.used) c.in_use-entries.ensures.counted c.find-found.result c.find-found.ensures in
    let held = c.if-is_ok.ensures.value in
    rw c.unwrap_or.ensures (rw (← held) at found)

pub returns-else-is_ok : goal.returns-else-is_ok
returns-else-is_ok c =
    let found = looked_up c.args.key (store_of c.args.keys.now c.args.chutes.now c.args.used) c.in_use-entries.ensures.counted c.find-found.result c.find-found.ensures in
    let held = c.if-is_ok.ensures.value in
    rw (← held) at found

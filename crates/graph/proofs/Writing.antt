-- The writing of a command's answer: from what was served and stored, the model's. Assumes nothing.
use Prim.Native.Nat.{ℕ, zero, suc, ◌-◌, ◌≤◌}
use mathlib.Core.Path.{◌≡◌, refl}
use mathlib.Core.Bool.{true, false}
use mathlib.Core.List.{List, ◌∷◌}
use mathlib.Core.Option.{Option, none, some}
use native.Mathlib.Omega.{arith}
use lib.ListN.{length, set}
use Rattle.command.specs.declared.Kind.{Kind}
use Rattle.command.specs.declared.Kind.TheVariants.{Insert, Delete, Read, Update, Workers, Checkpoint}
use Rattle.command.specs.declared.Command.{Command}
use Rattle.command.specs.Dependent.{is_read, is_checkpoint}
use Rattle.command.proofs.Laws.{read_has_item}
use Rattle.command.proofs.Count.{item_keeps_count}
use Rattle.model.specs.Upd.{upd}
use Rattle.model.specs.Store.{Store}
use Rattle.model.specs.Image.{image_of}
use Rattle.model.specs.Service.{in_one_step, write, write_kind, image_after, write_for}
use Rattle.command.proofs.Tests.{true_false}
use Rattle.store.specs.Lists.{store_of}
use Rattle.graph.specs.Memory.{answers_of, limit_after, image_for, Writes}
use Rattle.graph.proofs.Bridge.{set_is_upd}

-- the answer to the command of a place stands one before the place in the list: answers are counted from 0, places from 1
answered : (answers : List ℕ) (place v : ℕ) → 1 ≤ place → place ≤ length answers → answers_of (set answers (place - 1) v) ≡ upd (answers_of answers) place v
answered answers zero v from to = absurd (omega arith)
answered answers (suc p) v from to =
    let before : suc p - 1 ≡ p = omega arith in
    rw before (set_is_upd (0 ∷ answers) (suc p) v 0 (omega arith))

-- a node with no command: nothing is written
pub writes_none : (place found : ℕ) (keys chutes answers : List ℕ) (used : ℕ) → Writes none place found keys chutes answers used keys chutes answers used
unfolding write_for
writes_none place found keys chutes answers used o limit image capacity = refl

-- a command that is served: its store, and its answer at its place
pub writes_served : (c : Command) (place found : ℕ) (keys chutes answers : List ℕ) (used : ℕ) (keys' chutes' : List ℕ) (answer used' : ℕ)
    → 1 ≤ place → place ≤ length answers
    → write_kind c.kind (length keys) c.key c.chute found (store_of keys chutes used) ≡ write answer (store_of keys' chutes' used')
    → Writes (some c) place found keys chutes answers used keys' chutes' (set answers (place - 1) answer) used'
unfolding write_for
writes_served c place found keys chutes answers used keys' chutes' answer used' from to served o limit image capacity =
    rw (capacity, served, answered answers place answer from to)

-- a command that is written in the step of its lookup is a read: the store stays
pub writes_read : (c : Option Command) → in_one_step c ≡ true → (place found : ℕ) (keys chutes answers : List ℕ) (used answer : ℕ)
    → 1 ≤ place → place ≤ length answers → ((capacity key chute : ℕ) (st : Store) → write_kind Read capacity key chute found st ≡ write answer st)
    → Writes c place found keys chutes answers used keys chutes (set answers (place - 1) answer) used
unfolding is_read in_one_step
writes_read none one place found keys chutes answers used answer from to read = absurd (true_false false one refl)
writes_read (some c) one place found keys chutes answers used answer from to read =
    writes_served c place found keys chutes answers used keys chutes answer used from to (go c.kind one)
  where
    go : (k : Kind) → is_read k ≡ true → write_kind k (length keys) c.key c.chute found (store_of keys chutes used) ≡ write answer (store_of keys chutes used)
    go Insert e = absurd (true_false false e refl)
    go Delete e = absurd (true_false false e refl)
    go Read e = read (length keys) c.key c.chute (store_of keys chutes used)
    go Update e = absurd (true_false false e refl)
    go Workers e = absurd (true_false false e refl)
    go Checkpoint e = absurd (true_false false e refl)

-- and so does the worker count in force
pub read_keeps_limit : (c : Option Command) → in_one_step c ≡ true → (limit : ℕ) → limit_after c limit ≡ limit
unfolding in_one_step
read_keeps_limit none one limit = refl
read_keeps_limit (some c) one limit = item_keeps_count c limit (read_has_item c.kind one)

-- and the image
pub read_keeps_image : (c : Option Command) → in_one_step c ≡ true → (capacity place : ℕ) (st : Store) (image : List ℕ) → image_for c capacity place st image ≡ image
unfolding in_one_step image_after is_checkpoint is_read
read_keeps_image none one capacity place st image = refl
read_keeps_image (some c) one capacity place st image = go c.kind one
  where
    go : (k : Kind) → is_read k ≡ true → image_after k capacity place st image ≡ image
    go Insert e = refl
    go Delete e = refl
    go Read e = refl
    go Update e = refl
    go Workers e = refl
    go Checkpoint e = absurd (true_false false e refl)

-- a checkpoint puts the store into the image, and any other command leaves it
pub image_saved : (k : Kind) (capacity place : ℕ) (st : Store) (image image' : List ℕ) → is_checkpoint k ≡ true → image' ≡ image_of capacity place st
    → image' ≡ image_after k capacity place st image
unfolding image_after
image_saved k capacity place st image image' is written = rw is written

pub image_left : (k : Kind) (capacity place : ℕ) (st : Store) (image : List ℕ) → is_checkpoint k ≡ false → image ≡ image_after k capacity place st image
unfolding image_after
image_left k capacity place st image other = rw other

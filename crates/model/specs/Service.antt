-- What commands read and write: the store, the answers, the worker count in force and the image, and what a lookup finds and a write changes. Nothing
-- here knows of a chain or of threads. Assumes nothing.
use Rattle.std.specs.Prelude.{ℕ, Bool, false, cond, List, eqb, leb}
use Rattle.std.proofs.Math.Option.{Option, none, some}
use Rattle.command.specs.declared.Kind.{Kind}
use Rattle.command.specs.declared.Kind.TheVariants.{Insert, Delete, Read, Update, Workers, Checkpoint}
use Rattle.command.specs.declared.Command.{Command}
use Rattle.command.specs.Dependent.{is_read, is_checkpoint, has_item}
use Rattle.command.specs.Count.{count_after}
use Rattle.model.specs.Upd.{upd}
use Rattle.model.specs.Setup.{Setup}
use Rattle.model.specs.Image.{image_of, empty_image}
use Rattle.model.specs.Store.{Store, lay_out, look_up, insert, remove, replace}

-- the store, the answer to the command of each place, 0 for "not yet given", the worker count in force, and the image of the last checkpoint
pub record Service : Type 0 where
  pub store : Store
  pub answers : ℕ → ℕ
  pub limit : ℕ
  pub image : List ℕ

-- "Opening sets store and answers to 0", or the store to an image's entries; the opening's count is in force; "Opening leaves this image all
-- zeros" (02, A.3)
unfoldable pub opened_service : Setup → Service
unfolding lay_out empty_image
opened_service o = record { store = lay_out o.capacity o.entries; answers = λ c. 0; limit = o.workers; image = empty_image o.capacity }

-- what a lookup finds for a command: the chute of its item, 0 where there is none
unfoldable pub found_for : Option Command → Store → ℕ
unfolding has_item
found_for none st = 0
found_for (some c) st = cond (has_item c.kind) (look_up c.key st) 0

-- whether a command is written in the step of its lookup: "A worker's look and writing become one turn for kind 3; other kinds keep two."
-- (02, A.8)
unfoldable pub in_one_step : Option Command → Bool
unfolding is_read
in_one_step none = false
in_one_step (some c) = is_read c.kind

-- an answer, and the store after it
pub record Write : Type 0 where
  pub answer : ℕ
  pub store : Store

abbrev pub write : ℕ → Store → Write
write answer st = record { answer = answer; store = st }

-- what a command answers and writes, after its lookup: "1 to 512 the chute read; 1000 done"; "An insert of a present item sets its chute
-- and answers 1004" (02, A.7), "tested before full"; "1002 delete, read or update, no such item; 1003 insert, store full", which "change no
-- store entry"
unfoldable pub write_kind : Kind → ℕ → ℕ → ℕ → ℕ → Store → Write
write_kind Insert capacity key chute found st =
    cond (eqb found 0) (cond (leb capacity st.used) (write 1003 st) (write 1000 (insert key chute st))) (write 1004 (replace key chute st))
write_kind Delete capacity key chute found st = cond (eqb found 0) (write 1002 st) (write 1000 (remove key st))
write_kind Read capacity key chute found st = cond (eqb found 0) (write 1002 st) (write found st)
write_kind Update capacity key chute found st = cond (eqb found 0) (write 1002 st) (write 1000 (replace key chute st))
write_kind Workers capacity key chute found st = write 1000 st
write_kind Checkpoint capacity key chute found st = write 1000 st

-- kind 6 "at its writing turn puts the store into a lent image; the last one stands" (02, A.3)
unfoldable pub image_after : Kind → ℕ → ℕ → Store → List ℕ → List ℕ
unfolding is_checkpoint image_of
image_after kind capacity place st image = cond (is_checkpoint kind) (image_of capacity place st) image

-- "Write store and answer": the command of place c, after its lookup found something; kind 5's count is in force "from its writing turn"
-- (02, A.2)
unfoldable pub write_for : Setup → Option Command → ℕ → ℕ → Service → Service
unfolding write_kind count_after image_after
write_for o none c found v = v
write_for o (some cmd) c found v =
    let w : Write = write_kind cmd.kind o.capacity cmd.key cmd.chute found v.store in
    record {
      store = w.store;
      answers = upd v.answers c w.answer;
      limit = count_after cmd v.limit;
      image = image_after cmd.kind o.capacity c v.store v.image;
    }

-- Demand 3 over the calls of a host in C: "a single claim about the whole list of dealing calls, and not one for each call", said of the
-- byte lists that it lends and the numbers that it is answered. What `depot_open`, `depot_open_from` and `depot_advance` answer and leave is what
-- their contracts say: `open_answer`, `open_left`, `advance_answer` and `advance_left`. A call is accepted if it answers 0, and refused if not. Assumes nothing.
use Rattle.std.specs.Prelude.{ℕ, ◌+◌, ◌-◌, ◌*◌, ◌≤◌, ◌≡◌, true, cond, List, [], ◌∷◌, ◌++◌, take, drop, eqb}
use Rattle.model.specs.declared.Thread.TheVariants.{Idle}
use Rattle.model.specs.Serial.{serial_entries}
use Rattle.model.specs.Store.{Store, lay_out}
use Rattle.model.specs.Setup.{Setup}
use Rattle.model.specs.Step.{opened}
use Rattle.model.specs.Moment.{table_of, last_checkpoint, image_at}
use Rattle.model.specs.Statement.{wrote, removed, EachCommand, serial_answer}
use Rattle.byte_fields.specs.Bytes.{number_at}
use Rattle.state_bytes.specs.Layout.{Lists, thread_bytes}
use Rattle.controller.specs.Demand3.{Call}
use Rattle.depot_c.specs.Numbers.{bytes_in}
use Rattle.depot_c.specs.Boundary.{open_answer, open_left, advance_answer, advance_left}
use Rattle.opening.specs.Calls.{Source, setup_of}

-- ---- lists of calls

-- what `depot_advance` answers to a call, which hands over byte lists, commands and a schedule
unfoldable pub answer_to : Call → ℕ
answer_to call = advance_answer call.lists call.commands call.schedule

-- the byte lists that the host has after a call, where it had b: those that an accepted call leaves. "A refused call, even one handed
-- something else in their place, leaves run and lists as they were."
unfoldable pub after_call : Call → Lists → Lists
after_call call b = cond (eqb (answer_to call) 0) (advance_left call.lists call.commands call.schedule) b

unfoldable pub bytes_after : List Call → Lists → Lists
bytes_after [] b = b
bytes_after (call ∷ calls) b = bytes_after calls (after_call call b)

-- "Each accepted call gets the run and lists as those before it left them": the byte lists b, and the opening's commands. A refused call
-- may be handed anything.
abbrev pub ProperBytes : List ℕ → Lists → List Call → Type 0
ProperBytes commands b [] = Unit {0}
ProperBytes commands b (call ∷ calls) = (answer_to call ≡ 0 → (call.lists ≡ b) × (call.commands ≡ commands)) × ProperBytes commands (after_call call b) calls

-- the schedules of the accepted calls, one after the other
unfoldable pub bytes_schedules : List Call → List ℕ
bytes_schedules [] = []
bytes_schedules (call ∷ calls) = cond (eqb (answer_to call) 0) call.schedule [] ++ bytes_schedules calls

-- ---- what is read of byte lists

-- the answer to command c, from 1 on: the two bytes at its place
unfoldable pub answer_at : ℕ → Lists → ℕ
answer_at c b = number_at 2 (2 * (c - 1)) b.answers

-- the chute table is a store: the bytes of its keys, the bytes of its chutes, and at byte 10 of the run how many entries it uses
pub record TableIs (store : Store) (b : Lists) : Type 0 where
  pub keys : b.keys ≡ bytes_in 8 store.keys
  pub chutes : b.chutes ≡ bytes_in 2 store.chutes
  pub used : number_at 2 10 b.state ≡ store.used

-- thread t is idle: its five bytes, from byte 4393 of the run on, are an idle one's
abbrev pub IsIdle : ℕ → Lists → Type 0
IsIdle t b = take 5 (drop (4393 + 5 * t) b.state) ≡ thread_bytes Idle

-- ---- the claim

-- the five parts, of the byte lists that the calls leave and the schedules that were performed
pub record BytesHoldAfter (o : Setup) (commands : List ℕ) (b : Lists) (ts : List ℕ) : Type 0 where
  -- "Each answer is 0 before its command's writing turn, and from that turn on the one that running the whole list of commands [..] gives."
  pub answer : EachCommand o (λ c. answer_at c b ≡ cond (wrote o c ts (opened o)) (serial_answer o c) 0)
  -- "When all commands are removed, every answer is given and the chute table is that run's, entry for entry."
  pub table : EachCommand o (λ c. removed o c ts (opened o) ≡ true) →
      EachCommand o (λ c. 1 ≤ answer_at c b) × TableIs (lay_out o.capacity (serial_entries o.capacity o.entries o.commands)) b
  -- "And some further dealing is accepted and leaves every command removed and every party idle"
  pub finish : (more : List ℕ) × (advance_answer b commands more ≡ 0) × EachCommand o (λ c. removed o c (ts ++ more) (opened o) ≡ true)
      × ((t : ℕ) → t ≤ o.largest → IsIdle t (advance_left b commands more))
  -- "the store shall equal what the commands already written give when run alone in delivery order, from the opening store or the image" (02, A.10)
  pub moment : TableIs (table_of o (λ c. wrote o c ts (opened o))) b
  -- "the image written holds what the commands delivered before the last written kind 6 leave, with its place, and zeros before any"
  pub image : b.image ≡ image_at o (last_checkpoint o (λ c. wrote o c ts (opened o)))

-- every opening, from an image or not, that is answered 0 and leaves b, and every proper list of calls from there
abbrev pub Demand3OverBytes : Type 0
Demand3OverBytes =
    (size workers capacity : ℕ) (commands : List ℕ) (source : Source) (lent b : Lists) →
    open_answer size workers capacity commands source lent ≡ 0 → open_left size workers capacity commands source lent ≡ b →
    (calls : List Call) → ProperBytes commands b calls →
    BytesHoldAfter (setup_of size workers capacity commands source) commands (bytes_after calls b) (bytes_schedules calls)

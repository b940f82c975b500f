-- Demand 3 over calls: "a single claim about the whole list of dealing calls, and not one for each call"; with document 02's A.10, the table and
-- the image at any moment. Assumes nothing.
use Rattle.std.specs.Prelude.{ℕ, ◌≤◌, ◌≡◌, true, cond, List, [], ◌∷◌, ◌++◌, get_or}
use Rattle.model.specs.declared.Thread.TheVariants.{Idle}
use Rattle.model.specs.Serial.{serial_entries}
use Rattle.model.specs.Store.{lay_out}
use Rattle.model.specs.Setup.{Setup}
use Rattle.model.specs.Step.{opened}
use Rattle.model.specs.Moment.{table_of, last_checkpoint, image_at}
use Rattle.model.specs.Statement.{wrote, removed, EachCommand, serial_answer}
use Rattle.state_bytes.specs.Layout.{Lists, state_in}
use Rattle.opening.specs.Calls.{Source, open_on, setup_of}
use Rattle.state_bytes.specs.Outcome.{CallOutcome, accepted, refused, kept}
use Rattle.controller.specs.Calls.{advance_on}

-- what is handed over: the caller's lists, commands and a schedule
pub record Call : Type 0 where
  pub lists : Lists
  pub commands : List ℕ
  pub schedule : List ℕ

unfoldable pub call_on : Call → CallOutcome
call_on call = advance_on call.lists call.commands call.schedule

-- "A refused call, even one handed something else in their place, leaves run and lists as they were."
unfoldable pub lists_after : List Call → Lists → Lists
lists_after [] l = l
lists_after (call ∷ calls) l = lists_after calls (kept (call_on call) l)

-- "Each accepted call gets the run and lists as those before it left them": lists l, and the opening's commands
abbrev pub ProperCall : List ℕ → Lists → Call → CallOutcome → Type 0
ProperCall commands l call (accepted m) = (call.lists ≡ l) × (call.commands ≡ commands)
ProperCall commands l call (refused r) = Unit {0}

abbrev pub Proper : List ℕ → Lists → List Call → Type 0
Proper commands l [] = Unit {0}
Proper commands l (call ∷ calls) = ProperCall commands l call (call_on call) × Proper commands (kept (call_on call) l) calls

-- the schedules of the accepted calls, one after the other
abbrev pub accepts : CallOutcome → List ℕ → List ℕ
accepts (accepted m) schedule = schedule
accepts (refused r) schedule = []

unfoldable pub schedules : List Call → List ℕ
schedules [] = []
schedules (call ∷ calls) = accepts (call_on call) call.schedule ++ schedules calls

-- the five parts, of the lists that the calls leave and the schedules that were performed
pub record HoldsAfter (o : Setup) (commands : List ℕ) (l : Lists) (ts : List ℕ) : Type 0 where
  -- "Each answer is 0 before its command's writing turn, and from that turn on the one that running the whole list of commands [..] gives."
  pub answer : EachCommand o (λ c. get_or (0 ∷ l.answers) c 0 ≡ cond (wrote o c ts (opened o)) (serial_answer o c) 0)
  -- "When all commands are removed, every answer is given and the chute table is that run's, entry for entry."
  pub table : EachCommand o (λ c. removed o c ts (opened o) ≡ true) →
      EachCommand o (λ c. 1 ≤ get_or (0 ∷ l.answers) c 0) × ((state_in l).service.store ≡ lay_out o.capacity (serial_entries o.capacity o.entries o.commands))
  -- "And some further dealing is accepted and leaves every command removed and every party idle"
  pub finish : (more : List ℕ) × (m : Lists) × (advance_on l commands more ≡ accepted m) × EachCommand o (λ c. removed o c (ts ++ more) (opened o) ≡ true)
      × ((t : ℕ) → t ≤ o.largest → (state_in m).threads t ≡ Idle)
  -- "after every turn of every dealing, the store shall equal what the commands already written give when run alone in delivery order, from the
  -- opening store or the image": keys, chutes and the number used
  pub moment : (state_in l).service.store ≡ table_of o (λ c. wrote o c ts (opened o))
  -- "the image written holds what the commands delivered before the last written kind 6 leave, with its place, and zeros before any"
  pub image : l.image ≡ image_at o (last_checkpoint o (λ c. wrote o c ts (opened o)))

-- every accepted opening, and every proper list of calls from what it left
abbrev pub Demand3OverCalls : Type 0
Demand3OverCalls =
    (size workers capacity : ℕ) (commands : List ℕ) (source : Source) (lent l : Lists) → open_on size workers capacity commands source lent ≡ accepted l →
    (calls : List Call) → Proper commands l calls →
    HoldsAfter (setup_of size workers capacity commands source) commands (lists_after calls l) (schedules calls)

-- What opening answers and leaves, in the numbers of document 01, "Numbers of refusal", and document 02, A.1, A.2 and A.3. Assumes nothing.
use Rattle.std.specs.Prelude.{ℕ, ◌/◌, ◌%◌, Bool, true, cond, ◌&&◌, List, [], length, eqb, leb, ◌≡◌, Result, Ok, Err}
use Rattle.s10.specs.Refusal.{Refusal, plain}
use Rattle.command.specs.Read.{ListOutcome, all_accepted, list_refused, first_refusal, readings, commands_in}
use Rattle.command.specs.Read as Command
use Rattle.command.specs.declared.Refused.{Refused}
use Rattle.command.specs.Count.{largest_count}
use Rattle.model.specs.Serial.{Entry}
use Rattle.model.specs.Setup.{Setup}
use Rattle.model.specs.Image.{image_length, chain_fits, slots_fit, entries_in}
use Rattle.model.specs.Step.{opened}
use Rattle.opening.specs.declared.Reason.{Reason}
use Rattle.opening.specs.declared.Reason.TheVariants.{WrongGraphSize, WrongWorkers, WrongCapacity, WrongListLength, TooManyCommands, WrongLength, WrongChain, WrongSlot, WrongCommand}
use Rattle.state_bytes.specs.Layout.{Lists, lists_of, lengths_fit, image_fits}
use Rattle.state_bytes.specs.Outcome.{CallOutcome, accepted, refused}

-- the document's values for each reason
abbrev pub refusal_for : Reason → Refusal
refusal_for WrongGraphSize = plain 1
refusal_for WrongWorkers = plain 2
refusal_for WrongCapacity = plain 3
refusal_for WrongListLength = plain 4
refusal_for TooManyCommands = plain 5
refusal_for WrongLength = plain 6
refusal_for WrongChain = plain 15
refusal_for WrongSlot = plain 16
refusal_for (WrongCommand first) = Command.refusal_at first

-- and for each answer
abbrev pub opening_refusal : Result Unit Reason → Refusal
opening_refusal (Ok _) = plain 0
opening_refusal (Err reason) = refusal_for reason

-- what `Refusal::from` gives for a reason, and `Reason::from` for a refused command
abbrev pub RefusedFor : Reason → Refusal → Type 0
RefusedFor reason r = r ≡ refusal_for reason

abbrev pub IsWrongCommand : Refused → Reason → Type 0
IsWrongCommand first reason = reason ≡ WrongCommand first

unfoldable pub opened_with : ListOutcome → Setup → CallOutcome
opened_with all_accepted o = accepted (lists_of o (opened o))
opened_with (list_refused r) o = refused r

-- what a run is opened from: no image, or one, which "is another list, only read" (02, A.3)
pub data Source : Type 0 where
  nothing : Source
  image_from : List ℕ → Source

-- "An image of wrong length is 6"; 15 is "tested after 6", 16 "after 15 and before 7"
unfoldable pub source_long : ℕ → Source → Bool
source_long capacity nothing = true
source_long capacity (image_from image) = eqb (length image) (image_length capacity)

unfoldable pub source_chained : ℕ → Source → Bool
unfolding chain_fits
source_chained capacity nothing = true
source_chained capacity (image_from image) = chain_fits capacity image

unfoldable pub source_fits : ℕ → Source → Bool
unfolding slots_fit
source_fits capacity nothing = true
source_fits capacity (image_from image) = slots_fit capacity image

-- the entries that the run starts from: "the serial run starts, from that store"
unfoldable pub first_entries : ℕ → Source → List Entry
unfolding entries_in
first_entries capacity nothing = []
first_entries capacity (image_from image) = entries_in capacity image

-- what an opening's numbers and bytes fix
abbrev pub setup_of : ℕ → ℕ → ℕ → List ℕ → Source → Setup
setup_of size workers capacity commands source = record {
  size = size;
  workers = workers;
  largest = largest_count workers (commands_in commands);
  capacity = capacity;
  entries = first_entries capacity source;
  commands = commands_in commands;
}

-- "Opening tests 1 to 6 in order, then each command in order for 7 to 10", 13 "in 8's place and before 9", 14 "where 10 is for other kinds";
-- 15 and 16 of an image that it is opened from between 6 and 7.
unfoldable pub open_on : ℕ → ℕ → ℕ → List ℕ → Source → Lists → CallOutcome
open_on size workers capacity commands source l =
    cond (leb 1 size && leb size 150) (cond (leb 1 workers && leb workers 64) (cond (leb 1 capacity && leb capacity 4096)
    (cond (eqb (length commands % 16) 0) (cond (leb (length commands / 16) 4096)
    (cond (lengths_fit capacity (length commands / 16) l && image_fits capacity l && source_long capacity source)
    (cond (source_chained capacity source) (cond (source_fits capacity source)
    (opened_with (first_refusal 1 (readings commands)) (setup_of size workers capacity commands source))
    (refused (plain 16))) (refused (plain 15))) (refused (plain 6))) (refused (plain 5))) (refused (plain 4))) (refused (plain 3))) (refused (plain 2))) (refused (plain 1))

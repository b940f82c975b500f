-- What the parts of opening promise: the outcome that the tests' answer stands for, and the bytes of the opening state. Assumes nothing.
use Rattle.std.specs.Prelude.{ℕ, ◌≡◌, ◌≤◌, ◌/◌, ◌%◌, true, cond, ◌&&◌, eqb, leb, List, length, Option, Some, None, Result, Ok, Err}
use Rattle.s10.specs.Refusal.{plain}
use Rattle.model.specs.Image.{image_length}
use Rattle.model.specs.Setup.{Setup}
use Rattle.model.specs.Statement.{Accepted}
use Rattle.model.specs.Step.{opened}
use Rattle.opening.specs.declared.Reason.{Reason}
use Rattle.state_bytes.specs.declared.Settings.{Settings}
use Rattle.state_bytes.specs.Layout.{Lists, state_length, state_bytes, lists_of, lengths_fit, image_fits}
use Rattle.state_bytes.specs.Written.{Sets}
use Rattle.state_bytes.specs.Outcome.{CallOutcome, accepted, refused}
use Rattle.opening.specs.Calls.{refusal_for, Source, nothing, image_from, source_long, source_chained, source_fits}

-- what the tests say of an opening: that it leaves the lists of the opening state, or why it is refused
abbrev pub outcome_of : Result ℕ Reason → Setup → CallOutcome
outcome_of (Ok largest) o = accepted (lists_of o (opened o))
outcome_of (Err reason) o = refused (refusal_for reason)

-- some of the tests and the rest: what the rest comes to where they passed
abbrev pub outcome_after : {T : Type 0} → Result T Reason → CallOutcome → CallOutcome
outcome_after (Ok value) rest = rest
outcome_after (Err reason) rest = refused (refusal_for reason)

-- tests 1 to 5, then the rest
abbrev pub after_numbers : ℕ → ℕ → ℕ → List ℕ → CallOutcome → CallOutcome
after_numbers size workers capacity commands rest =
    cond (leb 1 size && leb size 150) (cond (leb 1 workers && leb workers 64) (cond (leb 1 capacity && leb capacity 4096)
    (cond (eqb (length commands % 16) 0) (cond (leb (length commands / 16) 4096) rest
    (refused (plain 5))) (refused (plain 4))) (refused (plain 3))) (refused (plain 2))) (refused (plain 1))

-- tests 15 and 16 of an image to open from, then the rest; 6 before them
abbrev pub after_chain : ℕ → Source → CallOutcome → CallOutcome
after_chain capacity source rest =
    cond (source_chained capacity source) (cond (source_fits capacity source) rest (refused (plain 16))) (refused (plain 15))

abbrev pub after_source : ℕ → Source → CallOutcome → CallOutcome
after_source capacity source rest = cond (source_long capacity source) (after_chain capacity source rest) (refused (plain 6))

-- test 6 of the lent lists too, then the rest
abbrev pub after_lists : ℕ → ℕ → Source → Lists → CallOutcome → CallOutcome
after_lists capacity count source l rest =
    cond (lengths_fit capacity count l && image_fits capacity l && source_long capacity source) (after_chain capacity source rest) (refused (plain 6))

-- an accepted setup and its largest count, lent lists of its lengths, and an image to open from that passed
pub record Admitted (largest : ℕ) (o : Setup) (source : Source) (l : Lists) : Type 0 where
  pub setup : Accepted o
  pub largest_is : largest ≡ o.largest
  pub largest_fits : largest ≤ 64
  pub state_long : length l.state ≡ state_length
  pub answers_long : length l.answers ≡ length o.commands
  pub keys_long : length l.keys ≡ o.capacity
  pub chutes_long : length l.chutes ≡ o.capacity
  pub image_long : length l.image ≡ image_length o.capacity
  pub source_is_long : source_long o.capacity source ≡ true
  pub source_is_chained : source_chained o.capacity source ≡ true

-- bytes of the opening state, on every setup with these numbers and as many entries
abbrev pub LaysOpened : Settings → ℕ → List ℕ → Type 0
LaysOpened c used bytes = (o : Setup) → Sets c o → length o.entries ≡ used → bytes ≡ state_bytes o (opened o)

-- the image that a run is opened from, if there is one
abbrev pub source_of : Option (List ℕ) → Source
source_of None = nothing
source_of (Some image) = image_from image

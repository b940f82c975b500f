-- What a call that writes the caller's lists comes to. Assumes nothing.
use Rattle.s10.specs.declared.Refusal.{Refusal}
use Rattle.s10.specs.Refusal.{plain}
use Rattle.std.specs.Prelude.{ℕ, ◌≡◌, Result, Ok, Err}
use Rattle.state_bytes.specs.declared.Reason.{Reason}
use Rattle.state_bytes.specs.declared.Reason.TheVariants.{WrongLength, WrongState}
use Rattle.state_bytes.specs.Layout.{Lists}

-- A call leaves lists, or is refused.
pub data CallOutcome : Type 0 where
  accepted : Lists → CallOutcome
  refused : Refusal → CallOutcome

-- "A refusal returns its number and the command's place ..", and A.1's character: all 0 for accepted
unfoldable pub refusal_in : CallOutcome → Refusal
refusal_in (accepted l) = plain 0
refusal_in (refused r) = r

-- ".. and writes nothing"
unfoldable pub kept : CallOutcome → Lists → Lists
kept (accepted l) old = l
kept (refused r) old = old

-- the document's values for each reason of the tests of a state
abbrev pub refusal_for : Reason → Refusal
refusal_for WrongLength = plain 6
refusal_for WrongState = plain 12

-- what `Refusal::from` gives for it
abbrev pub RefusedFor : Reason → Refusal → Type 0
RefusedFor reason r = r ≡ refusal_for reason

-- the number of the tests' answer, 0 for passed
abbrev pub tested_number : Result Unit Reason → ℕ
tested_number (Ok _) = 0
tested_number (Err reason) = (refusal_for reason).number

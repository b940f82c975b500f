-- What the call answers and leaves: document 02, A.9. Assumes nothing.
use Rattle.std.specs.Prelude.{ℕ, ◌/◌, ◌%◌, cond, List, length, eqb, leb, ◌≡◌, Result, Ok, Err}
use Rattle.s10.specs.Refusal.{Refusal, plain}
use Rattle.command.specs.Read.{ListOutcome, all_accepted, list_refused, first_refusal, readings, commands_in}
use Rattle.command.specs.Read as Command
use Rattle.rounds.specs.declared.Reason.{Reason}
use Rattle.rounds.specs.declared.Reason.TheVariants.{WrongListLength, TooManyCommands, WrongLength, WrongCommand}
use Rattle.command.specs.declared.Refused.{Refused}
use Rattle.rounds.specs.Rounds.{rounds_of, round_count}

-- the document's values for each reason
abbrev pub refusal_for : Reason → Refusal
refusal_for WrongListLength = plain 4
refusal_for TooManyCommands = plain 5
refusal_for WrongLength = plain 6
refusal_for (WrongCommand first) = Command.refusal_at first

-- and for each answer
abbrev pub finding_refusal : Result ℕ Reason → Refusal
finding_refusal (Ok n) = plain 0
finding_refusal (Err reason) = refusal_for reason

abbrev pub finding_count : Result ℕ Reason → ℕ
finding_count (Ok n) = n
finding_count (Err reason) = 0

-- what `Refusal::from` gives for a reason, and `Reason::from` for a refused command
abbrev pub RefusedFor : Reason → Refusal → Type 0
RefusedFor reason r = r ≡ refusal_for reason

abbrev pub IsWrongCommand : Refused → Reason → Type 0
IsWrongCommand first reason = reason ≡ WrongCommand first

-- what a call comes to: the rounds and their number, or a refusal
pub data Outcome : Type 0 where
  found : List ℕ → ℕ → Outcome
  refused : Refusal → Outcome

-- what it refuses, `plain 0` for found
abbrev pub refusal_in : Outcome → Refusal
refusal_in (found rounds n) = plain 0
refusal_in (refused r) = r

unfoldable pub found_in : ListOutcome → List ℕ → Outcome
found_in all_accepted bytes = found (rounds_of (commands_in bytes)) (round_count (commands_in bytes))
found_in (list_refused r) bytes = refused r

-- "A call given commands but neither settings nor a run tests from 4 on as opening does": 4, 5, 6 of "a lent list of one entry a command", then each
-- command in order
unfoldable pub rounds_on : List ℕ → ℕ → Outcome
unfolding found_in
rounds_on commands lent =
    cond (eqb (length commands % 16) 0) (cond (leb (length commands / 16) 4096) (cond (eqb lent (length commands / 16))
    (found_in (first_refusal 1 (readings commands)) commands) (refused (plain 6))) (refused (plain 5))) (refused (plain 4))

-- the answer, and the lent list after the call: a refusal leaves it as it was
abbrev pub answer_of : Result ℕ Reason → List ℕ → Outcome
answer_of (Ok n) rounds = found rounds n
answer_of (Err reason) rounds = refused (refusal_for reason)

unfoldable pub left_by : Outcome → List ℕ → List ℕ
left_by (found rounds n) old = rounds
left_by (refused r) old = old

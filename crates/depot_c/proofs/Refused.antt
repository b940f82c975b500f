-- Each reason's refusal has a number from 1 to 16, and those of texts, states and schedules name no command. Assumes nothing.
use Prim.Native.Nat.{◌≤◌, ◌<◌}
use native.Mathlib.Omega.{arith}
use Rattle.s10.specs.declared.Refusal.{Refusal}
use Rattle.s10.specs.declared.Reason.{Reason as TextReason}
use Rattle.s10.specs.declared.Reason.TheVariants as text
use Rattle.s10.specs.declared.WriteError.{WriteError}
use Rattle.s10.specs.declared.WriteError.TheVariants as writing
use Rattle.s10.specs.Outcome as Text
use Rattle.command.specs.declared.Reason.{Reason as CommandReason}
use Rattle.command.specs.declared.Reason.TheVariants as command
use Rattle.command.specs.Read as Command
use Rattle.state_bytes.specs.declared.Reason.{Reason as StateReason}
use Rattle.state_bytes.specs.declared.Reason.TheVariants as state
use Rattle.state_bytes.specs.Outcome as State
use Rattle.opening.specs.declared.Reason.{Reason as OpeningReason}
use Rattle.opening.specs.declared.Reason.TheVariants as opening
use Rattle.opening.specs.Calls as Opening
use Rattle.controller.specs.declared.Reason.{Reason as AdvanceReason}
use Rattle.controller.specs.declared.Reason.TheVariants as advance
use Rattle.controller.specs.Calls as Advance
use Rattle.rounds.specs.declared.Reason.{Reason as RoundsReason}
use Rattle.rounds.specs.declared.Reason.TheVariants as rounds
use Rattle.rounds.specs.Calls as Rounds
use Rattle.std.specs.Prelude.{Result, Ok, Err, IsErrAnd}
use mathlib.Core.Path.{◌≡◌, refl}
use Rattle.s10.specs.Refusal.{plain}
use Rattle.depot_c.specs.Boundary.{Fits, refusal_of}

-- a refusal that `?` passes on
pub passed_on : (r : Result Unit Refusal) (x : Refusal) → IsErrAnd r (λ y. y ≡ x) → refusal_of r ≡ x
passed_on (Ok _) x e = absurd e
passed_on (Err y) x e = e

abbrev pub Numbered : Refusal → Type 0
Numbered r = (0 < r.number) × (r.number ≤ 16)

-- such a refusal that names no command
abbrev pub Plain : Refusal → Type 0
Plain r = (0 < r.number) × Fits r

pub text_refused : (reason : TextReason) → Plain (Text.refusal_for reason)
text_refused text.WrongLength = (omega arith, (omega arith, omega arith))
text_refused (text.WrongLetter character) = (omega arith, (omega arith, omega arith))
text_refused (text.WrongDigit character) = (omega arith, (omega arith, omega arith))
text_refused text.WrongCheckDigit = (omega arith, (omega arith, omega arith))

pub writing_refused : (error : WriteError) → Plain (Text.unwritten_for error)
writing_refused writing.WrongLength = (omega arith, (omega arith, omega arith))
writing_refused writing.KeyTooLarge = (omega arith, (omega arith, omega arith))

pub state_refused : (reason : StateReason) → Plain (State.refusal_for reason)
state_refused state.WrongLength = (omega arith, (omega arith, omega arith))
state_refused state.WrongState = (omega arith, (omega arith, omega arith))

-- it is that of its number
pub state_plain : (reason : StateReason) → State.refusal_for reason ≡ plain (State.refusal_for reason).number
state_plain state.WrongLength = refl
state_plain state.WrongState = refl

pub advance_refused : (reason : AdvanceReason) → Plain (Advance.refusal_for reason)
advance_refused advance.WrongLength = (omega arith, (omega arith, omega arith))
advance_refused advance.UnknownThread = (omega arith, (omega arith, omega arith))
advance_refused advance.WrongState = (omega arith, (omega arith, omega arith))

command_refused : (reason : CommandReason) → Numbered (Command.refusal_for reason)
command_refused command.UnknownKind = (omega arith, omega arith)
command_refused (command.WrongIdentifier reason) = let r = text_refused reason in (r.0, r.1.0)
command_refused (command.NotZero character) = (omega arith, omega arith)
command_refused command.WrongChute = (omega arith, omega arith)
command_refused command.WrongCount = (omega arith, omega arith)

pub opening_refused : (reason : OpeningReason) → Numbered (Opening.refusal_for reason)
opening_refused opening.WrongGraphSize = (omega arith, omega arith)
opening_refused opening.WrongWorkers = (omega arith, omega arith)
opening_refused opening.WrongCapacity = (omega arith, omega arith)
opening_refused opening.WrongListLength = (omega arith, omega arith)
opening_refused opening.TooManyCommands = (omega arith, omega arith)
opening_refused opening.WrongLength = (omega arith, omega arith)
opening_refused opening.WrongChain = (omega arith, omega arith)
opening_refused opening.WrongSlot = (omega arith, omega arith)
opening_refused (opening.WrongCommand first) = command_refused first.reason

pub rounds_refused : (reason : RoundsReason) → Numbered (Rounds.refusal_for reason)
rounds_refused rounds.WrongListLength = (omega arith, omega arith)
rounds_refused rounds.TooManyCommands = (omega arith, omega arith)
rounds_refused rounds.WrongLength = (omega arith, omega arith)
rounds_refused (rounds.WrongCommand first) = command_refused first.reason

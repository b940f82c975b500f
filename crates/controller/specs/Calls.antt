-- What a call on a handed-back state answers and leaves, in the numbers of document 01, "Numbers of refusal", and document 02, A.2. Assumes nothing.
use Rattle.std.specs.Prelude.{ℕ, cond, ◌&&◌, ◌≡◌, List, [], ◌∷◌, Result, Ok, Err}
use Rattle.s10.specs.Refusal.{Refusal, plain}
use Rattle.model.specs.Setup.{Setup}
use Rattle.model.specs.Step.{State, steps}
use Rattle.model.specs.Statement.{all_within}
use Rattle.controller.specs.declared.Reason.{Reason}
use Rattle.controller.specs.declared.Reason.TheVariants.{WrongLength, UnknownThread, WrongState}
use Rattle.state_bytes.specs.declared.Reason.{Reason as StateReason}
use Rattle.state_bytes.specs.Outcome as State
use Rattle.state_bytes.specs.Layout.{Lists, lists_of, setup_in, state_in, state_fits, handed_back_fit, image_fits}
use Rattle.state_bytes.specs.Outcome.{CallOutcome, accepted, refused}

-- the document's values for each reason
abbrev pub refusal_for : Reason → Refusal
refusal_for WrongLength = plain 6
refusal_for UnknownThread = plain 11
refusal_for WrongState = plain 12

-- and for each answer
abbrev pub advance_refusal : Result Unit Reason → Refusal
advance_refusal (Ok _) = plain 0
advance_refusal (Err reason) = refusal_for reason

-- what `Refusal::from` gives for a reason, and `Reason::from` for one of the tests of the state
abbrev pub RefusedFor : Reason → Refusal → Type 0
RefusedFor reason r = r ≡ refusal_for reason

abbrev pub IsOfState : StateReason → Reason → Type 0
IsOfState of_state reason = refusal_for reason ≡ State.refusal_for of_state

-- "Any call on a handed-back run tests 6, then 12, then 11." "It is checked whole before its first turn"; it "may name parties up to the
-- largest count of the opening and the list" (02, A.2)
unfoldable pub advance_on : Lists → List ℕ → List ℕ → CallOutcome
advance_on l commands schedule =
    let o : Setup = setup_in l.state commands in
    cond (handed_back_fit l commands && image_fits o.capacity l) (cond (state_fits l) (cond (all_within o.largest schedule)
    (accepted (lists_of o (steps o schedule (state_in l)))) (refused (plain 11))) (refused (plain 12))) (refused (plain 6))

-- a call with one turn of thread t is accepted, and leaves lists of which this holds
abbrev pub AfterTurn : List ℕ → Lists → ℕ → (State → Type 0) → Type 0
AfterTurn commands l t P = (m : Lists) × (advance_on l commands (t ∷ []) ≡ accepted m) × P (state_in m)

-- A call answers 0 exactly if it was accepted: a refusal has a number or a place. Assumes nothing.
use Prim.Native.Nat.{ℕ, ◌+◌, ◌/◌, ◌%◌, ◌<◌}
use native.Mathlib.Omega.{arith}
use mathlib.Core.Path.{◌≡◌, refl}
use mathlib.Core.Bool.{Bool, true, false, cond, ◌&&◌}
use mathlib.Core.List.{List, [], ◌∷◌}
use lib.ListN.{length}
use lib.Dec.{eqb, leb}
use Rattle.s10.specs.Refusal.{plain}
use Rattle.command.specs.Read.{first_refusal, readings}
use Rattle.command.specs.Read as Command
use Rattle.model.specs.Setup.{Setup}
use Rattle.model.specs.Statement.{all_within}
use Rattle.command.proofs.Tests.{cond_cases}
use Rattle.state_bytes.specs.Layout.{Lists, setup_in, lengths_fit, state_fits, handed_back_fit, image_fits}
use Rattle.state_bytes.specs.Outcome.{CallOutcome, accepted, refused, refusal_in}
use Rattle.opening.specs.Calls.{Source, source_long, source_chained, source_fits, opened_with, open_on, setup_of}
use Rattle.controller.specs.Calls.{advance_on}
use Rattle.dispatcher.specs.Calls.{needed_now, Made, DispatchOutcome, made, dispatch_on}
use Rattle.dispatcher.specs.Calls as Dispatcher
use Rattle.depot_c.specs.Boundary.{decoded, packed, answer_of, count_long, dispatch_answer}

-- an accepted call answers 0
pub accepted_answers : (l : Lists) → answer_of (accepted l) ≡ 0
unfolding answer_of refusal_in
accepted_answers l = refl

-- an outcome that answers 0 leaves lists
abbrev pub IsAccepted : CallOutcome → Type 0
IsAccepted outcome = answer_of outcome ≡ 0 → (l : Lists) × (outcome ≡ accepted l)

-- a number from 1 on is no answer 0
refused_number : (n : ℕ) → 0 < n → IsAccepted (refused (plain n))
unfolding answer_of refusal_in
refused_number n some e = absurd (omega arith)

-- nor is a place from 1 on
refused_place : (place : ℕ) (rs : List Command.CommandOutcome) (o : Setup) → 0 < place → IsAccepted (opened_with (first_refusal place rs) o)
unfolding first_refusal opened_with answer_of refusal_in
refused_place place [] o some e = (_, refl)
refused_place place (Command.accepted command ∷ rs) o some e = refused_place (place + 1) rs o (omega arith) e
refused_place place (Command.refused r ∷ rs) o some e = absurd (omega arith)

-- test by test
pub opening_accepted : (size workers capacity : ℕ) (commands : List ℕ) (source : Source) (l : Lists) → IsAccepted (open_on size workers capacity commands source l)
unfolding open_on
opening_accepted size workers capacity commands source l =
    cond_cases IsAccepted (leb 1 size && leb size 150) (λ _.
    cond_cases IsAccepted (leb 1 workers && leb workers 64) (λ _.
    cond_cases IsAccepted (leb 1 capacity && leb capacity 4096) (λ _.
    cond_cases IsAccepted (eqb (length commands % 16) 0) (λ _.
    cond_cases IsAccepted (leb (length commands / 16) 4096) (λ _.
    cond_cases IsAccepted (lengths_fit capacity (length commands / 16) l && image_fits capacity l && source_long capacity source) (λ _.
    cond_cases IsAccepted (source_chained capacity source) (λ _.
    cond_cases IsAccepted (source_fits capacity source)
    (λ _. refused_place 1 (readings commands) (setup_of size workers capacity commands source) (omega arith))
    (λ _. refused_number 16 (omega arith))) (λ _. refused_number 15 (omega arith))) (λ _. refused_number 6 (omega arith))) (λ _. refused_number 5 (omega arith))) (λ _. refused_number 4 (omega arith)))
    (λ _. refused_number 3 (omega arith))) (λ _. refused_number 2 (omega arith))) (λ _. refused_number 1 (omega arith))

pub advance_accepted : (l : Lists) (commands schedule : List ℕ) → IsAccepted (advance_on l commands schedule)
unfolding advance_on
advance_accepted l commands schedule =
    cond_cases IsAccepted (handed_back_fit l commands && image_fits (setup_in l.state commands).capacity l) (λ _.
    cond_cases IsAccepted (state_fits l) (λ _.
    cond_cases IsAccepted (all_within _ schedule) (λ _ _. (_, refl))
    (λ _. refused_number 11 (omega arith))) (λ _. refused_number 12 (omega arith))) (λ _. refused_number 6 (omega arith))

-- ---- dispatching

-- an outcome of the dispatcher that answers 0 is no refusal
abbrev pub IsMade : DispatchOutcome → Type 0
IsMade outcome = packed (Dispatcher.refusal_in outcome) ≡ 0 → (d : Made) × (outcome ≡ made d)

-- a number from 1 on is no answer 0
unmade_number : (n : ℕ) → 0 < n → IsMade (Dispatcher.refused (plain n))
unfolding Dispatcher.refusal_in
unmade_number n some e = absurd (omega arith)

-- test by test, as above
pub dispatch_made : (l : Lists) (commands lent : List ℕ) → IsMade (dispatch_on l commands lent)
unfolding dispatch_on
dispatch_made l commands lent =
    cond_cases IsMade (handed_back_fit l commands && image_fits (setup_in l.state commands).capacity l) (λ _.
    cond_cases IsMade (state_fits l) (λ _.
    cond_cases IsMade (leb (needed_now l commands) (length lent)) (λ _ _. (_, refl))
    (λ _. unmade_number 6 (omega arith))) (λ _. unmade_number 12 (omega arith))) (λ _. unmade_number 6 (omega arith))

-- a count of another length than eight bytes answers 6
long_if_zero : (long : Bool) (n : ℕ) → cond long n 6 ≡ 0 → (long ≡ true) × (n ≡ 0)
long_if_zero true n e = (refl, e)
long_if_zero false n e = absurd (omega arith)

-- so a call that answers 0 was lent eight bytes for the count, and dispatched
pub dispatch_accepted : (b : Lists) (commands lent count : List ℕ) → dispatch_answer b commands lent count ≡ 0
    → (count_long count ≡ true) × (d : Made) × (dispatch_on (decoded b) commands lent ≡ made d)
dispatch_accepted b commands lent count e =
    let both = long_if_zero (count_long count) _ e in
    let is = dispatch_made (decoded b) commands lent both.1 in
    (both.0, is.0, is.1)

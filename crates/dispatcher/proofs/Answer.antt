-- What the dispatcher's calls answer and leave, by their tests. Assumes nothing.
use Prim.Native.Nat.{ℕ, ◌≤◌, ◌<◌}
use mathlib.Core.Path.{◌≡◌, refl, ap, ◌∙◌}
use mathlib.Core.Bool.{Bool, true, false, cond, ◌&&◌, and-true}
use native.Mathlib.Omega.{arith}
use Rattle.std.specs.Prelude.{Result, Ok, Err, IsErrAnd}
use mathlib.Core.List.{List, ◌++◌}
use lib.ListN.{length, drop}
use lib.Dec.{leb}
use borrow.Author.Tests.{lt-leb, le-leb}
use Rattle.s10.specs.Refusal.{Refusal, plain}
use Rattle.byte_fields.specs.Bytes.{number_at}
use Rattle.command.specs.Read.{commands_in}
use Rattle.model.specs.Step.{steps}
use Rattle.model.specs.Dispatch as Dispatch
use Rattle.model.specs.Dispatch.{fresh, dispatched}
use Rattle.state_bytes.specs.Layout as Layout
use Rattle.state_bytes.specs.Layout.{Lists, state_length, lists_of, setup_in, state_in, state_fits, handed_back_fit, image_fits}
use Rattle.state_bytes.specs.declared.Reason.{Reason}
use Rattle.state_bytes.specs.declared.Reason.TheVariants.{WrongLength, WrongState}
use Rattle.state_bytes.specs.Outcome as State
use Rattle.state_bytes.specs.Outcome.{tested_number}
use Rattle.state_bytes.proofs.Passed.{lengths_passed, state_passed}
use Rattle.controller.proofs.Answer.{tests_passed, tests_refuse, tests_number, passed}
use Rattle.runner.specs.Performed.{CallPasses, Ran, chosen, schedule_of}
use Rattle.runner.proofs.Handed.{fit_count}
use Rattle.runner.proofs.Performing.{chosen_are}
use Rattle.dispatcher.specs.Calls.{call_refusal, call_count, DispatchOutcome, made, refused, needed_now, needed_on, count_needed, made_from, dispatch_on, refusal_in, count_in, lists_left, lent_left}

-- the reason of the state's tests is passed on, and no number of steps
pub passed_on : (r : Result ℕ Reason) (reason : Reason) → IsErrAnd r (λ of_state. of_state ≡ reason) → (call_refusal r ≡ State.refusal_for reason) × (call_count r ≡ 0)
passed_on (Ok n) reason h = absurd h
passed_on (Err e) reason h = (ap State.refusal_for h, refl)

none_told : (fit whole : Bool) (n : ℕ) (reason : Reason) → tested_number (Err reason) ≡ cond fit (cond whole 0 12) 6 → ◌≡◌ {A = ℕ} 0 (cond (fit && whole) n 0)
none_told true true n WrongLength e = absurd (omega arith)
none_told true true n WrongState e = absurd (omega arith)
none_told true false n reason e = refl
none_told false whole n reason e = refl

module _ (l : Lists) (commands : List ℕ) where
  -- ---- how long the lent list must be

  -- the bound can be read where the tests pass
  pub can_need : handed_back_fit l commands ≡ true → state_fits l ≡ true → (length l.state ≡ state_length) × (number_at 1 1 l.state ≤ 150) × (number_at 1 3 l.state ≤ 64)
  can_need e f = ((lengths_passed l commands e).state, (state_passed l f).size, (state_passed l f).largest)

  -- and there are as many commands as the state says
  pub all_there : handed_back_fit l commands ≡ true → length (commands_in commands) ≡ Layout.count_in l.state
  all_there e = fit_count l commands (lengths_passed l commands e)

  -- the first test that fails decides
  pub needs_refused : (reason : Reason) → tested_number (Err reason) ≡ cond (handed_back_fit l commands && true) (cond (state_fits l) 0 12) 6
      → ((State.refusal_for reason).number ≡ needed_on l commands) × (0 ≡ count_needed l commands)
  unfolding needed_on count_needed
  needs_refused reason e =
      let same = rw (and-true (handed_back_fit l commands)) at e in
      (same, none_told (handed_back_fit l commands) (state_fits l) (needed_now l commands) reason same)

  -- where none fails, the bound is told
  pub both_pass : ◌≡◌ {A = ℕ} 0 (cond (handed_back_fit l commands && true) (cond (state_fits l) 0 12) 6) → (handed_back_fit l commands ≡ true) × (state_fits l ≡ true)
  both_pass e = tests_passed (handed_back_fit l commands) (state_fits l) (rw (and-true (handed_back_fit l commands)) at e)

  pub needs_so : {n : ℕ} → handed_back_fit l commands ≡ true → state_fits l ≡ true → n ≡ needed_now l commands → (0 ≡ needed_on l commands) × (n ≡ count_needed l commands)
  unfolding needed_on count_needed
  needs_so e f is = (rw (e, f), rw (e, f) is)

  -- ---- dispatching

  module _ (lent : List ℕ) where
    -- the first test that fails decides
    pub refuses_state : (reason : Reason) → tested_number (Err reason) ≡ tests_number l commands → dispatch_on l commands lent ≡ refused (State.refusal_for reason)
    unfolding dispatch_on
    refuses_state reason e = tests_refuse refused _ (handed_back_fit l commands && image_fits (setup_in l.state commands).capacity l) (state_fits l) reason e

    -- and where none of them fails, the room decides, and the chosen steps are made
    abbrev decided_by : Bool → Bool → Bool → Bool → DispatchOutcome
    decided_by fit image state room =
        cond (fit && image) (cond state (cond room (made (made_from (setup_in l.state commands) (state_in l) lent)) (refused (plain 6))) (refused (plain 12))) (refused (plain 6))

    pub decided : {fit image state room : Bool} → handed_back_fit l commands ≡ fit → image_fits (setup_in l.state commands).capacity l ≡ image → state_fits l ≡ state
        → leb (needed_now l commands) (length lent) ≡ room → dispatch_on l commands lent ≡ decided_by fit image state room
    unfolding dispatch_on
    decided e i f g = λ k. decided_by (e k) (i k) (f k) (g k)

    -- a list shorter than the bound is refused
    pub refuses_short : {limit : ℕ} → ◌≡◌ {A = ℕ} 0 (tests_number l commands) → limit ≡ needed_now l commands → length lent < limit → dispatch_on l commands lent ≡ refused (plain 6)
    refuses_short e is short = let p = passed l commands e in decided p.0 p.1 p.2 (lt-leb (needed_now l commands) (length lent) (rw is at short))

    -- and one that is as long has room
    pub passes : {limit : ℕ} → ◌≡◌ {A = ℕ} 0 (tests_number l commands) → limit ≤ length lent → CallPasses l commands (chosen limit) lent
    passes e room = let p = passed l commands e in record { lengths = p.0; image = p.1; state = p.2; named = room }

    accepts : {limit : ℕ} → limit ≡ needed_now l commands → CallPasses l commands (chosen limit) lent
        → dispatch_on l commands lent ≡ made (made_from (setup_in l.state commands) (state_in l) lent)
    accepts is p = decided p.lengths p.image p.state (le-leb (needed_now l commands) (length lent) (rw is at p.named))

    -- what a call answers and leaves: its refusal, its count, its lists and the lent list
    pub record Answers (answer : Refusal) (count : ℕ) (after : Lists) (lent' : List ℕ) : Type 0 where
      pub refusal : answer ≡ refusal_in (dispatch_on l commands lent)
      pub counted : count ≡ count_in (dispatch_on l commands lent)
      pub left : after ≡ lists_left (dispatch_on l commands lent) l
      pub written : lent' ≡ lent_left (dispatch_on l commands lent) lent

    -- a refusal answers its number and leaves every list
    pub refused_so : {answer r : Refusal} {count : ℕ} → answer ≡ r → ◌≡◌ {A = ℕ} count 0 → dispatch_on l commands lent ≡ refused r → Answers answer count l lent
    unfolding refusal_in count_in lists_left lent_left
    refused_so same none e = record { refusal = rw e same; counted = rw e none; left = rw e; written = rw e }

    -- the steps of a call with this limit are the dispatcher's
    steps_are : {limit : ℕ} → limit ≡ needed_now l commands → schedule_of (setup_in l.state commands) (chosen limit) (state_in l) ≡ dispatched (setup_in l.state commands) (state_in l)
    unfolding dispatched needed_now
    steps_are is =
        let o = setup_in l.state commands in
        chosen_are o _ (state_in l) ∙ ap (λ (k : ℕ). Dispatch.steps_from o k (fresh o false (state_in l)) (state_in l)) is

    -- an accepted call answers 0 and the number of the steps, and leaves what they leave
    pub accepted_so : {limit count : ℕ} {after : Lists} {lent' : List ℕ} → limit ≡ needed_now l commands → CallPasses l commands (chosen limit) lent
        → Ran l commands (chosen limit) lent after lent' count → Answers (plain 0) count after lent'
    unfolding refusal_in count_in lists_left lent_left made_from
    accepted_so is p ran =
        let o = setup_in l.state commands in
        let e = accepts is p in
        let ts = steps_are is in
        let counted = ran.counted ∙ ap length ts in
        let after = ran.lists ∙ ap (λ (ts : List ℕ). lists_of o (steps o ts (state_in l))) ts in
        let written = ran.written ∙ ap (λ (ts : List ℕ). ts ++ drop (length ts) lent) ts in
        record { refusal = rw e; counted = rw e counted; left = rw e after; written = rw e written }

-- What a call on handed-back lists answers and leaves, by its tests. Assumes nothing.
use mathlib.Core.Bool.{and-eq-true_iff}
use Rattle.std.proofs.Common.{◌≡◌, ℕ, Bool, true, false, cond, ◌&&◌, List, length, get_or, Result, Ok, Err, IsErrAnd, refl, sym, ap, ◌∙◌, arith}
use Rattle.s10.specs.Refusal.{Refusal, plain}
use Rattle.model.specs.Step.{steps}
use Rattle.model.specs.Statement.{all_within}
use Rattle.state_bytes.specs.declared.Reason.{Reason as StateReason}
use Rattle.state_bytes.specs.declared.Reason.TheVariants.{WrongLength, WrongState}
use Rattle.state_bytes.specs.Outcome as State
use Rattle.state_bytes.specs.Layout.{Lists, state_length, lists_of, setup_in, state_in, state_fits, handed_back_fit, image_fits}
use Rattle.state_bytes.specs.Outcome.{CallOutcome, accepted, refused, refusal_in, kept, tested_number}
use Rattle.controller.specs.declared.Reason.{Reason}
use Rattle.controller.specs.Calls.{advance_refusal, IsOfState, advance_on}
use Rattle.runner.specs.Performed.{CallPasses, given}
use Rattle.runner.proofs.Handed.{largest_in_lem}
use Rattle.state_bytes.proofs.Passed.{lengths_passed}

-- ---- the tests of a state

-- where they answer no number, they have passed
pub tests_passed : (fit whole : Bool) → ◌≡◌ {A = ℕ} 0 (cond fit (cond whole 0 12) 6) → (fit ≡ true) × (whole ≡ true)
tests_passed true true e = (refl, refl)
tests_passed true false e = absurd (omega arith)
tests_passed false whole e = absurd (omega arith)

-- where they answer a reason, the call is refused for it
pub tests_refuse : {A : Type 0} (refuses : Refusal → A) (passes : A) (fit whole : Bool) (reason : StateReason) → tested_number (Err reason) ≡ cond fit (cond whole 0 12) 6
    → cond fit (cond whole passes (refuses (plain 12))) (refuses (plain 6)) ≡ refuses (State.refusal_for reason)
tests_refuse refuses passes true true WrongLength e = absurd (omega arith)
tests_refuse refuses passes true true WrongState e = absurd (omega arith)
tests_refuse refuses passes true false WrongLength e = absurd (omega arith)
tests_refuse refuses passes true false WrongState e = refl
tests_refuse refuses passes false whole WrongLength e = refl
tests_refuse refuses passes false whole WrongState e = absurd (omega arith)

-- the image's test tells only where the lengths fit
with_image : {fit imaged b : Bool} → (fit ≡ true → imaged ≡ b) → (fit && b) ≡ (fit && imaged)
with_image {fit = true} same = sym (same refl)
with_image {fit = false} same = refl

module _ (l : Lists) (commands : List ℕ) where
  -- the number that the tests of the state answer
  abbrev pub tests_number : ℕ
  tests_number = cond (handed_back_fit l commands && image_fits (setup_in l.state commands).capacity l) (cond (state_fits l) 0 12) 6

  -- they do so where the image is told to fit or not
  pub tests_told : {n : ℕ} {imaged : Bool} → (handed_back_fit l commands ≡ true → image_fits (setup_in l.state commands).capacity l ≡ imaged)
      → n ≡ cond (handed_back_fit l commands && imaged) (cond (state_fits l) 0 12) 6 → n ≡ tests_number
  tests_told same e = e ∙ ap (λ (b : Bool). cond b (cond (state_fits l) 0 12) 6) (with_image same)

  -- what they say, where they pass
  pub passed : ◌≡◌ {A = ℕ} 0 tests_number → (handed_back_fit l commands ≡ true) × (image_fits (setup_in l.state commands).capacity l ≡ true) × (state_fits l ≡ true)
  passed e =
      let both = tests_passed _ (state_fits l) e in
      let fit = (and-eq-true_iff (handed_back_fit l commands) (image_fits (setup_in l.state commands).capacity l)).0 both.0 in
      (fit.0, fit.1, both.1)

  pub long : ◌≡◌ {A = ℕ} 0 tests_number → length l.state ≡ state_length
  long e = (lengths_passed l commands (passed e).0).state

-- ---- the answer

-- the reason of the state's tests is passed on
pub passed_on : (r : Result Unit Reason) (reason : StateReason) → IsErrAnd r (IsOfState reason) → advance_refusal r ≡ State.refusal_for reason
passed_on (Ok u) reason h = absurd h
passed_on (Err e) reason h = h

module _ (l : Lists) (commands schedule : List ℕ) where
  -- the first test that fails decides
  pub refuses_state : (reason : StateReason) → tested_number (Err reason) ≡ tests_number l commands → advance_on l commands schedule ≡ refused (State.refusal_for reason)
  unfolding advance_on
  refuses_state reason e = tests_refuse refused _ (handed_back_fit l commands && image_fits (setup_in l.state commands).capacity l) (state_fits l) reason e

  -- the largest worker count is a byte of the state
  named_is : handed_back_fit l commands ≡ true → all_within (setup_in l.state commands).largest schedule ≡ all_within (get_or l.state 3 0) schedule
  named_is fit = ap (λ (n : ℕ). all_within n schedule) (largest_in_lem l.state commands (lengths_passed l commands fit).state)

  pub refuses_thread : ◌≡◌ {A = ℕ} 0 (tests_number l commands) → all_within (get_or l.state 3 0) schedule ≡ false → advance_on l commands schedule ≡ refused (plain 11)
  unfolding advance_on
  refuses_thread e unknown = let p = passed l commands e in rw (p.0, p.1, p.2, named_is p.0, unknown)

  -- where none fails, the schedule's steps are performed
  pub passes : (lent : List ℕ) → ◌≡◌ {A = ℕ} 0 (tests_number l commands) → all_within (get_or l.state 3 0) schedule ≡ true → CallPasses l commands (given schedule) lent
  passes lent e known = let p = passed l commands e in record { lengths = p.0; image = p.1; state = p.2; named = named_is p.0 ∙ known }

  pub accepts : {lent : List ℕ} → CallPasses l commands (given schedule) lent → advance_on l commands schedule ≡ accepted (lists_of (setup_in l.state commands) (steps (setup_in l.state commands) schedule (state_in l)))
  unfolding advance_on
  accepts p = rw (p.lengths, p.image, p.state, p.named)

  -- a refusal answers its number and leaves the lists
  pub refused_so : {r answer : Refusal} → answer ≡ r → advance_on l commands schedule ≡ refused r
      → (answer ≡ refusal_in (advance_on l commands schedule)) × (l ≡ kept (advance_on l commands schedule) l)
  unfolding refusal_in kept
  refused_so same e = (same ∙ sym (ap refusal_in e), sym (ap (λ (x : CallOutcome). kept x l) e))

  -- an accepted call answers 0 and leaves its lists
  pub accepted_so : (m after : Lists) → m ≡ after → advance_on l commands schedule ≡ accepted after
      → (plain 0 ≡ refusal_in (advance_on l commands schedule)) × (m ≡ kept (advance_on l commands schedule) l)
  unfolding refusal_in kept
  accepted_so m after is e = (sym (ap refusal_in e), rw (is, e))

-- What a report answers and leaves, by its tests. Assumes nothing.
use native.Mathlib.Omega.{arith}
use mathlib.Core.Bool.{and-false, and-eq-true_iff}
use borrow.Author.Tests.{eq-eqb, ne_eqb, eqb-true}
use Rattle.std.proofs.Common.{◌≡◌, ℕ, Bool, true, false, cond, ◌&&◌, eqb, List, length, Result, Ok, Err, IsErrAnd, refl, ap, ◌∙◌}
use Rattle.s10.specs.Refusal.{Refusal, plain}
use Rattle.state_bytes.specs.Layout.{Lists, state_length, handed_back_fit, state_fits}
use Rattle.state_bytes.specs.Outcome.{refusal_for, tested_number}
use Rattle.state_bytes.specs.declared.Reason.{Reason}
use Rattle.state_bytes.specs.declared.Reason.TheVariants.{WrongLength, WrongState}
use Rattle.state_bytes.proofs.Passed.{lengths_passed}
use Rattle.panel.specs.Reports.{report_of, report_refusal, report_number, report_left}

-- ---- the tests

-- an answer 0 is not that of a test that fails
not_six : (t : Bool) (n : ℕ) → ◌≡◌ {A = ℕ} 0 (cond t n 6) → t ≡ true
not_six true n e = refl
not_six false n e = absurd (omega arith)

module _ (l : Lists) (commands : List ℕ) (lent wanted : ℕ) where
  -- the tests of the state and of the report list's length give the number
  pub tests_told : {n : ℕ} → n ≡ cond (handed_back_fit l commands && eqb lent wanted) (cond (state_fits l) 0 12) 6 → n ≡ report_number l commands lent wanted
  unfolding report_number
  tests_told e = e

  -- a report list of another length than the one wanted is refused
  pub refuses_report : (lent ≡ wanted → ⊥) → 6 ≡ report_number l commands lent wanted
  unfolding report_number
  refuses_report other = rw (ne_eqb lent wanted other, and-false (handed_back_fit l commands))

  -- a report list of the length wanted passes, whatever length that is
  pub as_wanted : lent ≡ wanted → report_number l commands 64 64 ≡ report_number l commands lent wanted
  unfolding report_number
  as_wanted same = rw (eq-eqb lent wanted same)

  -- where the answer is 0, the lists have the lengths asked for
  pub passed_lengths : ◌≡◌ {A = ℕ} 0 (report_number l commands lent wanted) → (length l.state ≡ state_length) × (lent ≡ wanted)
  unfolding report_number
  passed_lengths e =
      let both = (and-eq-true_iff (handed_back_fit l commands) (eqb lent wanted)).0 (not_six (handed_back_fit l commands && eqb lent wanted) (cond (state_fits l) 0 12) e) in
      ((lengths_passed l commands both.0).state, eqb-true lent wanted both.1)

-- ---- what is answered

-- an answer's number is all that it says
number_is_all : (reason : Reason) → refusal_for reason ≡ plain (refusal_for reason).number
number_is_all WrongLength = refl
number_is_all WrongState = refl

pub number_told : {n : ℕ} (r : Result Unit Reason) → report_refusal r ≡ plain n → report_of r ≡ n
number_told r e = ap (λ (x : Refusal). x.number) e

-- the reason of the tests is passed on, with their number
pub refused_for : {n : ℕ} (r : Result Unit Reason) (reason : Reason) → IsErrAnd r (λ of_state. of_state ≡ reason) → tested_number (Err reason) ≡ n → report_refusal r ≡ plain n
refused_for (Ok u) reason h e = absurd h
refused_for (Err x) reason h e = ap refusal_for h ∙ (number_is_all reason ∙ ap plain e)

-- ---- what is left

-- a refusal leaves the list
pub left_old {ℓ} : {A : Type ℓ} (r : Result Unit Reason) (reason : Reason) (report old : List A) → IsErrAnd r (λ of_state. of_state ≡ reason) → old ≡ report_left (report_of r) report old
unfolding report_left
left_old (Ok u) reason report old h = absurd h
left_old (Err WrongLength) reason report old h = refl
left_old (Err WrongState) reason report old h = refl

-- a report that is made is left
pub left_report {ℓ} : {A : Type ℓ} {left report : List A} (old : List A) → left ≡ report → left ≡ report_left 0 report old
unfolding report_left
left_report old is = is

-- where it is made, what is left is the report
pub made_report {ℓ} : {A : Type ℓ} {left report : List A} (r : Result Unit Reason) (old : List A) → left ≡ report_left (report_of r) report old → r ≡ Ok tt → left ≡ report
unfolding report_left
made_report r old is e = rw e at is

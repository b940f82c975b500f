-- Laws of the panel's reports at the boundary: what lists that are not lent answer, and what a report on the numbers that were read is.
-- Assumes nothing.
use Prim.Native.Nat.{ℕ, ◌<◌}
use native.Mathlib.Omega.{arith}
use mathlib.Core.Path.{◌≡◌, refl, sym, ap, subst, ◌∙◌}
use mathlib.Core.Bool.{Bool, true, false, cond, ◌&&◌, and-false, and-eq-true_iff}
use mathlib.Core.List.{List, []}
use lib.ListN.{length}
use lib.Dec.{eqb}
use borrow.Author.Tests.{eq-eqb, ne_eqb}
use Rattle.s10.specs.declared.Refusal.{Refusal}
use Rattle.s10.specs.Refusal.{plain}
use Rattle.state_bytes.specs.declared.Reason.{Reason}
use Rattle.state_bytes.specs.Outcome.{refusal_for}
use Rattle.state_bytes.specs.Layout.{Lists, lists, state_length, state_fits, lengths_fit, handed_back_fit}
use Rattle.panel.specs.Reports.{report_number, report_left}
use Rattle.depot_c.specs.Boundary.{are_whole, decoded, number_lists}
use Rattle.depot_c.specs.Lent.{are_lent, UnlentFor}
use Rattle.depot_c.proofs.Outcomes.{long_unfit, unlent_cases, unlent_as, decoded_none, decoded_whole}

-- no lists are refused 6
nothing_reported : (commands : List ℕ) (lent wanted : ℕ) → report_number (lists [] [] [] []) commands lent wanted ≡ 6
unfolding report_number handed_back_fit lengths_fit state_length
nothing_reported commands lent wanted = refl

-- lists that fit only with a state that does not are refused
pub unfit_refused : (fit whole : Bool) → (fit ≡ true → whole ≡ false) → ◌≡◌ {A = ℕ} (cond fit 12 6) (cond fit (cond whole 0 12) 6)
unfit_refused true whole unfit = rw (unfit refl)
unfit_refused false whole unfit = refl

-- so are lists that are not lent
unlent_reported : (s k c a commands : List ℕ) (lent wanted : ℕ) (reason : Reason) → are_lent (length k) (length c) (length a) ≡ false
    → UnlentFor s (length k) (length c) (length a) (length commands) (eqb lent wanted) reason
    → refusal_for reason ≡ plain (report_number (decoded (lists s k c a)) commands lent wanted)
unfolding report_number
unlent_reported s k c a commands lent wanted reason e said =
    let b = lists s k c a in
    let whole = are_whole (length k) (length c) (length a) in
    let fit = handed_back_fit (number_lists b) commands in
    let is : report_number (decoded b) commands lent wanted ≡ cond (whole && (fit && eqb lent wanted)) 12 6 =
    unlent_cases b e (λ broken. rw (broken, decoded_none b broken) (nothing_reported commands lent wanted))
    (λ w long. rw (w, decoded_whole b w) (sym (unfit_refused (fit && eqb lent wanted) (state_fits (number_lists b)) (λ both. long_unfit b commands long ((and-eq-true_iff fit (eqb lent wanted)).0 both).0)))) in
    unlent_as s k c a [] commands (eqb lent wanted) reason said ∙ ap plain (sym is)

-- so are lists that are not lent with a report list of the length that is asked for
pub unlent_told : (s k c a commands : List ℕ) (lent wanted : ℕ) (reason : Reason) → lent ≡ wanted → are_lent (length k) (length c) (length a) ≡ false
    → UnlentFor s (length k) (length c) (length a) (length commands) true reason
    → refusal_for reason ≡ plain (report_number (decoded (lists s k c a)) commands lent wanted)
unlent_told s k c a commands lent wanted reason same e said =
    unlent_reported s k c a commands lent wanted reason e
    (subst (λ (b : Bool). UnlentFor s (length k) (length c) (length a) (length commands) b reason) (sym (eq-eqb lent wanted same)) said)

-- and a report list of another length
pub misfit_told : (l : Lists) (commands : List ℕ) (lent wanted : ℕ) → (lent ≡ wanted → ⊥) → report_number l commands lent wanted ≡ 6
unfolding report_number
misfit_told l commands lent wanted other = rw (ne_eqb lent wanted other, and-false (handed_back_fit l commands))

-- a refusal leaves the report list
pub refused_left : {x : Refusal} (n : ℕ) (report old : List ℕ) → 0 < x.number → x ≡ plain n → old ≡ report_left n report old
unfolding report_left
refused_left {x} n report old some is = rw (ne_eqb n 0 (λ z. omega (arith, some, z, ap (λ (r : Refusal). r.number) is)))

-- a report on lists is that on the same lists
pub report_on : (f : Lists → List ℕ) {l m : Lists} (commands old : List ℕ) {new : List ℕ} (wanted : ℕ) {x : Refusal} → l ≡ m
    → x ≡ plain (report_number l commands (length old) wanted) → new ≡ report_left x.number (f l) old
    → (x ≡ plain (report_number m commands (length old) wanted)) × (new ≡ report_left (report_number m commands (length old) wanted) (f m) old)
report_on f {l} {m} commands old {new} wanted {x} same refusal left =
    let told = refusal ∙ ap (λ (k : Lists). plain (report_number k commands (length old) wanted)) same in
    let number : x.number ≡ report_number m commands (length old) wanted = ap (λ (y : Refusal). y.number) told in
    (told, left ∙ rw (number, same) refl)

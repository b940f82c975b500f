-- The laws of `specs/Laws.antt`. Assumes nothing.
use Prim.Native.Nat.{ℕ, ◌+◌, ◌-◌, ◌<◌}
use mathlib.Core.Path.{◌≡◌, refl, sym, ap, ◌∙◌}
use mathlib.Core.Bool.{Bool, true, false, cond}
use mathlib.Core.List.{List}
use native.Mathlib.Nat.{zero-add}
use native.Mathlib.Omega.{arith}
use borrow.Author.Tests.{eqb-true, eqb-false, eq-eqb, ne_eqb}
use lib.Dec.{eqb}
use lib.ListN.{length, get_or}
use Rattle.s10.specs.Text.{is_allowed, first_fault, serial_digits, check_digit, key_of, untested_key, text_of}
use Rattle.s10.specs.Parts.{is_well_formed}
use Rattle.s10.specs.Refusal.{Refusal, plain, at_character}
use Rattle.s10.specs.Outcome.{TextOutcome, accepted, refused, fault_at, read_text, refusal_read}
use Rattle.s10.specs.Laws.{WrittenReadsBack, ReadWritesBack, EveryKeyHasText, KeyHasOneText, AcceptedIsAtMostLargest, AcceptedAsUntested, CharacterZero, BeforeIsInOrder, NamedIsFaulty, LaterChangesNothing}
use Rattle.s10.proofs.Fault.{fault_within, fault_well_formed, allowed_before, fault_at_lem, fault_agrees}
use Rattle.s10.proofs.KeyOf.{sum_of_key, text_of_key, key_at_most_largest}
use Rattle.s10.proofs.TextOf.{length_text, well_formed_written, serial_digits_written, check_written, key_written}
use Rattle.s10.proofs.WellFormed.{well_formed}

-- ---- what a reading has passed

-- the four ways out of the tests
data Read (text : List ℕ) : TextOutcome → Type 0 where
  wrong_length : (length text ≡ 13 → ⊥) → Read text (refused (plain 8))
  faulty : length text ≡ 13 → first_fault 0 text < 13 → Read text (refused (fault_at (first_fault 0 text)))
  wrong_check : length text ≡ 13 → first_fault 0 text ≡ 13 → Read text (refused (at_character 11 (plain 9)))
  read : length text ≡ 13 → first_fault 0 text ≡ 13 → get_or text 10 0 - 48 ≡ check_digit (serial_digits text) → Read text (accepted (key_of text))

read_by : (text : List ℕ) → Read text (read_text text)
unfolding read_text
read_by text = lengths (eqb (length text) 13) refl
  where
    checks : length text ≡ 13 → first_fault 0 text ≡ 13 → (b : Bool) → eqb (get_or text 10 0 - 48) (check_digit (serial_digits text)) ≡ b →
        Read text (cond b (accepted (key_of text)) (refused (at_character 11 (plain 9))))
    checks long none true e = read long none (eqb-true _ _ e)
    checks long none false e = wrong_check long none

    faults : length text ≡ 13 → (b : Bool) → eqb (first_fault 0 text) 13 ≡ b →
        Read text (cond b (cond (eqb (get_or text 10 0 - 48) (check_digit (serial_digits text))) (accepted (key_of text)) (refused (at_character 11 (plain 9)))) (refused (fault_at (first_fault 0 text))))
    faults long true e = checks long (eqb-true _ _ e) _ refl
    faults long false e = faulty long (let other = eqb-false (first_fault 0 text) 13 e in omega (arith, (fault_within 0 text).1))

    lengths : (b : Bool) → eqb (length text) 13 ≡ b →
        Read text (cond b (cond (eqb (first_fault 0 text) 13) (cond (eqb (get_or text 10 0 - 48) (check_digit (serial_digits text)))
        (accepted (key_of text)) (refused (at_character 11 (plain 9)))) (refused (fault_at (first_fault 0 text)))) (refused (plain 8)))
    lengths true e = faults (eqb-true _ _ e) _ refl
    lengths false e = wrong_length (eqb-false _ _ e)

-- ---- keys and texts

-- what an accepted text has passed
record Accepted (text : List ℕ) (key : ℕ) : Type 0 where
  formed : is_well_formed text ≡ true
  check : get_or text 10 0 - 48 ≡ check_digit (serial_digits text)
  read : key_of text ≡ key

accepted_passed : (text : List ℕ) (key : ℕ) → read_text text ≡ accepted key → Accepted text key
accepted_passed text key e = cases (read_text text) (read_by text) e
  where
    cases : (o : TextOutcome) → Read text o → o ≡ accepted key → Accepted text key
    cases _ (wrong_length short) e = let z : ◌≡◌ {A = ℕ} 0 1 = cc in absurd (omega arith)
    cases _ (faulty long at) e = let z : ◌≡◌ {A = ℕ} 0 1 = cc in absurd (omega arith)
    cases _ (wrong_check long none) e = let z : ◌≡◌ {A = ℕ} 0 1 = cc in absurd (omega arith)
    cases _ (read long none check) e = record { formed = fault_well_formed text long ∙ eq-eqb _ _ none; check = check; read = cc }

-- an accepted text is well-formed, so its sum is its key's
pub accepted_as_untested : AcceptedAsUntested
unfolding untested_key
accepted_as_untested text key e =
    let a = accepted_passed text key e in
    let w = well_formed text a.formed in
    rw (eq-eqb (length text) 13 w.long) (sum_of_key text w ∙ a.read)

-- the parts that were written are allowed, have their check digit, and give the key back
pub written_reads_back : WrittenReadsBack
unfolding read_text
written_reads_back key h =
    let check : get_or (text_of key) 10 0 - 48 ≡ check_digit (serial_digits (text_of key)) = rw (check_written, serial_digits_written) (omega arith) in
    let long = length_text key in
    let none = sym (fault_well_formed (text_of key) long) ∙ well_formed_written key h in
    rw (eq-eqb _ _ long, none, eq-eqb _ _ check, key_written)

-- the parts of the key are those of the text
pub read_writes_back : ReadWritesBack
read_writes_back text key e =
    let a = accepted_passed text key e in
    rw a.read at (text_of_key text (well_formed text a.formed) a.check)

-- the text that is written
pub every_key_has_text : EveryKeyHasText
every_key_has_text key h = (text_of key, written_reads_back key h)

-- both are the text that is written
pub key_has_one_text : KeyHasOneText
key_has_one_text text other key e f = sym (read_writes_back text key e) ∙ read_writes_back other key f

-- no pair passes 675 and no serial number 99,999,999
pub accepted_is_at_most_largest : AcceptedIsAtMostLargest
accepted_is_at_most_largest text key e =
    let a = accepted_passed text key e in
    rw a.read at (key_at_most_largest text (well_formed text a.formed))

-- ---- the first faulty character

-- each way out, by what its refusal says
abbrev Named : List ℕ → TextOutcome → Type 0
Named text o = (refusal_read o).character ≡ 0 → length text ≡ 13 → (key : ℕ) × (o ≡ accepted key)

pub character_zero : CharacterZero
unfolding fault_at
character_zero =
    (λ text. zero_is text (read_text text) (read_by text), λ text key e. ap (λ (o : TextOutcome). (refusal_read o).character) e, λ text short. other_is text (read_text text) (read_by text) short)
  where
    zero_is : (text : List ℕ) (o : TextOutcome) → Read text o → Named text o
    zero_is text _ (wrong_length short) e long = absurd (short long)
    zero_is text _ (faulty long at) e _ = absurd (omega arith)
    zero_is text _ (wrong_check long none) e _ = absurd (omega arith)
    zero_is text _ (read long none check) e _ = (key_of text, refl)

    other_is : (text : List ℕ) (o : TextOutcome) → Read text o → (length text ≡ 13 → ⊥) → (refusal_read o).character ≡ 0
    other_is text _ (wrong_length short) other = refl
    other_is text _ (faulty long at) other = absurd (other long)
    other_is text _ (wrong_check long none) other = absurd (other long)
    other_is text _ (read long none check) other = refl

-- the search passed them
pub before_is_in_order : BeforeIsInOrder
unfolding fault_at
before_is_in_order text i h = cases (read_text text) (read_by text) h
  where
    cases : (o : TextOutcome) → Read text o → i + 1 < (refusal_read o).character → is_allowed i (get_or text i 0) ≡ true
    cases _ (wrong_length short) h = absurd (omega arith)
    cases _ (faulty long at) h = rw zero-add at (allowed_before 0 text i (omega arith))
    cases _ (wrong_check long none) h = rw zero-add at (allowed_before 0 text i (omega arith))
    cases _ (read long none check) h = absurd (omega arith)

-- the search ended at it
pub named_is_faulty : NamedIsFaulty
unfolding fault_at
named_is_faulty text i e = cases (read_text text) (read_by text) e
  where
    cases : (o : TextOutcome) → Read text o → (refusal_read o).character ≡ i + 1 → (i < 13) × (((refusal_read o).number ≡ 9 → ⊥) → is_allowed i (get_or text i 0) ≡ false)
    cases _ (wrong_length short) e = absurd (omega arith)
    cases _ (faulty long at) e = (omega arith, λ other. rw zero-add at (fault_at_lem 0 text i (omega arith) (omega arith)))
    cases _ (wrong_check long none) e = (omega arith, λ other. absurd (other refl))
    cases _ (read long none check) e = absurd (omega arith)

-- a text that agrees with it so far has the same first fault
pub later_changes_nothing : LaterChangesNothing
unfolding fault_at read_text
later_changes_nothing text other r e not_9 long same = cases (read_text text) (read_by text) e
  where
    cases : (o : TextOutcome) → Read text o → o ≡ refused r → read_text other ≡ refused r
    cases _ (wrong_length short) e = rw (ne_eqb (length other) 13 (λ h. short (omega arith))) e
    cases _ (faulty thirteen at) e =
        let is : fault_at (first_fault 0 text) ≡ r = cc in
        let agrees = fault_agrees 0 text other long (λ k h. same k (rw (← is) (omega arith))) in
        rw (eq-eqb (length other) 13 (omega arith), agrees, ne_eqb (first_fault 0 text) 13 (omega arith)) e
    cases _ (wrong_check thirteen none) e =
        let is : at_character 11 (plain 9) ≡ r = cc in
        absurd (not_9 (ap (λ (x : Refusal). x.number) (sym is)))
    cases _ (read thirteen none check) e = let z : ◌≡◌ {A = ℕ} 0 1 = cc in absurd (omega arith)

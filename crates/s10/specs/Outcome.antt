-- What the two identifier calls answer, in the numbers of document 01, "Numbers of refusal", and document 02, A.1. Assumes nothing.
use Rattle.std.specs.Prelude.{ℕ, ◌+◌, ◌-◌, cond, List, length, get_or, eqb, leb, ◌≡◌, Result, Ok, Err}
use Rattle.s10.specs.declared.Reason.{Reason}
use Rattle.s10.specs.declared.Reason.TheVariants.{WrongLength as WrongTextLength, WrongLetter, WrongDigit, WrongCheckDigit}
use Rattle.s10.specs.declared.WriteError.{WriteError}
use Rattle.s10.specs.declared.WriteError.TheVariants.{WrongLength, KeyTooLarge}
use Rattle.s10.specs.Refusal.{Refusal, plain, at_character}
use Rattle.s10.specs.Text.{asks_digit, first_fault, serial_digits, check_digit, key_of, largest_key, text_of}

-- A text is accepted with a key, or refused.
pub data TextOutcome : Type 0 where
  accepted : ℕ → TextOutcome
  refused : Refusal → TextOutcome

-- the document's values for each reason
abbrev pub refusal_for : Reason → Refusal
refusal_for WrongTextLength = plain 8
refusal_for (WrongLetter character) = at_character character.0 (plain 8)
refusal_for (WrongDigit character) = at_character character.0 (plain 13)
refusal_for WrongCheckDigit = at_character 11 (plain 9)

-- what `Refusal::from` gives for a reason
abbrev pub RefusedFor : Reason → Refusal → Type 0
RefusedFor reason r = r ≡ refusal_for reason

-- the outcome that each answer of `Identifier::read` stands for
abbrev pub text_outcome : Result ℕ Reason → TextOutcome
text_outcome (Ok key) = accepted key
text_outcome (Err reason) = refused (refusal_for reason)

-- "Refusal 8 keeps wrong lengths and faulty letters. 13 [..] when the first faulty character stands at 3 to 11 and is no digit": the refusal
-- of a text whose first faulty character stands at a position, counted from 0
unfoldable pub fault_at : ℕ → Refusal
fault_at i = at_character (i + 1) (plain (cond (asks_digit i) 13 8))

-- "the first faulty character from the left, 1 to 13, or 0 for a wrong length or an accepted identifier. A wrong check digit says 11, judged
-- only when every letter and digit is in order."
unfoldable pub read_text : List ℕ → TextOutcome
unfolding fault_at
read_text text =
    cond (eqb (length text) 13) (cond (eqb (first_fault 0 text) 13) (cond (eqb (get_or text 10 0 - 48) (check_digit (serial_digits text)))
    (accepted (key_of text)) (refused (at_character 11 (plain 9)))) (refused (fault_at (first_fault 0 text)))) (refused (plain 8))

-- number and character of a reading: both 0 for accepted
abbrev pub refusal_read : TextOutcome → Refusal
refusal_read (accepted key) = plain 0
refusal_read (refused r) = r

-- the document's value for each error of `Identifier::write`
abbrev pub unwritten_for : WriteError → Refusal
unwritten_for WrongLength = plain 6
unwritten_for KeyTooLarge = plain 12

-- what `Refusal::from` gives for an error
abbrev pub UnwrittenFor : WriteError → Refusal → Type 0
UnwrittenFor error r = r ≡ unwritten_for error

-- the number of each answer of `Identifier::write`, 0 for written
abbrev pub number : Result Unit WriteError → ℕ
number (Ok _) = 0
number (Err error) = (unwritten_for error).number

-- "6: 12 bytes for an identifier"; "12: key above the largest, when writing (6 tested first)"
unfoldable pub write_number : ℕ → List ℕ → ℕ
write_number key text = cond (eqb (length text) 13) (cond (leb key largest_key) 0 12) 6

-- the lent list after the call: the key's text where it was written, else untouched
unfoldable pub write_text : ℕ → List ℕ → List ℕ
write_text key text = cond (eqb (write_number key text) 0) (text_of key) text

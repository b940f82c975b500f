-- The text of a key: its parts, that they are allowed, and the key that they give back. Assumes nothing.
use Prim.Native.Nat.{ℕ, suc, ◌+◌, ◌/◌, ◌%◌, ◌≤◌, ◌<◌}
use mathlib.Core.Path.{◌≡◌, refl, ◌∙◌}
use mathlib.Core.Bool.{true, ◌&&◌, and-eq-true_iff}
use mathlib.Core.List.{List, [], ◌∷◌, ◌++◌, append_assoc}
use native.Mathlib.Nat.{div-div-eq-div-mul}
use native.Mathlib.Omega.{arith}
use borrow.Author.Tests.{eq-eqb}
use lib.Dec.{leb}
use lib.ListN.{length, get_or, take, length-append}
use lib.Seq.{take_at, get_or_at, get_or-append-add}
use Rattle.s10.specs.Text.{is_allowed, serial_digits, check_digit, decimal_number, key_of, letters, digits, text_of, largest_key}
use Rattle.s10.specs.Parts.{all_allowed, is_well_formed, characters, serial_text}
use Rattle.s10.proofs.Decimal.{AllBelow, tail_below, nil_below, cons_below, length_digits, digits_below, decimal_digits}
use Rattle.s10.proofs.Values.{values_characters, characters_serial}
use Rattle.s10.proofs.Weighted.{check_digit_below}
use Rattle.s10.proofs.WellFormed.{is_within, digit_asked}

-- the three parts that are written one after the other
pub text_of_parts : (key : ℕ) → text_of key ≡ letters (key / 67_600_000_000) ++ (serial_text (key / 676) ++ letters (key % 676))
unfolding text_of serial_text
text_of_parts key = refl

-- one list after another is allowed where each is allowed at its place
allowed_append : (i : ℕ) (a b : List ℕ) → all_allowed i a ≡ true → all_allowed (i + length a) b ≡ true → all_allowed i (a ++ b) ≡ true
unfolding all_allowed
allowed_append i [] b p q = let place : i + 0 ≡ i = omega arith in rw place at q
allowed_append i (c ∷ a) b p q =
    let parts = (and-eq-true_iff (is_allowed i c) (all_allowed (i + 1) a)).0 p in
    let place : i + suc (length a) ≡ i + 1 + length a = omega arith in
    rw parts.0 (allowed_append (i + 1) a b parts.1 (rw place at q))

-- a letter is asked at position i
abbrev LetterAsked : ℕ → Type 0
LetterAsked i = (c : ℕ) → is_allowed i c ≡ (leb 65 c && leb c 90)

-- two letters are allowed where letters are asked
letters_allowed : (i p : ℕ) → LetterAsked i → LetterAsked (i + 1) → p < 676 → all_allowed i (letters p) ≡ true
unfolding all_allowed letters
letters_allowed i p asked asked_next h =
    let first = asked (65 + p / 26) ∙ is_within 65 90 (65 + p / 26) (omega arith) in
    let second = asked_next (65 + p % 26) ∙ is_within 65 90 (65 + p % 26) (omega arith) in
    rw (first, second)

-- digits are allowed from position 2 to position 10
digits_allowed : (ds : List ℕ) (i : ℕ) → AllBelow 10 ds → 2 ≤ i → i + length ds ≤ 11 → all_allowed i (characters ds) ≡ true
unfolding all_allowed
digits_allowed [] i all low high = refl
digits_allowed (d ∷ ds) i all low high =
    let digit : d < 10 = all 0 (omega arith) in
    let here = digit_asked i (48 + d) (omega arith) ∙ is_within 48 57 (48 + d) (omega arith) in
    rw here (digits_allowed ds (i + 1) (tail_below ds all) (omega arith) (omega arith))

-- eight digits and one
pub length_serial : (n : ℕ) → length (serial_text n) ≡ 9
unfolding serial_text
length_serial n =
    let eight = (characters_serial n).long in
    omega (arith, length-append (characters (digits 8 n)) ((48 + check_digit (digits 8 n)) ∷ []))

-- the check digit is the ninth digit
serial_allowed : (n : ℕ) → all_allowed 2 (serial_text n) ≡ true
unfolding serial_text
serial_allowed n =
    let nine = cons_below [] (check_digit_below (digits 8 n)) (nil_below 10) in
    allowed_append 2 (characters (digits 8 n)) _
    (digits_allowed (digits 8 n) 2 (digits_below 8 n) (omega arith) (omega (arith, length_digits 8 n)))
    (rw (characters_serial n).long (digits_allowed (check_digit (digits 8 n) ∷ []) 10 nine (omega arith) (omega arith)))

-- what stands after the serial digits and their check digit
after_serial : (n : ℕ) (rest : List ℕ) (j : ℕ) → get_or (serial_text n ++ rest) (9 + j) 0 ≡ get_or rest j 0
after_serial n rest j = rw (length_serial n) at (get_or-append-add (serial_text n) rest j 0)

-- the characters before the check digit are the digits
first_eight : (n : ℕ) (rest : List ℕ) → take 8 (serial_text n ++ rest) ≡ characters (digits 8 n)
unfolding serial_text
first_eight n rest = rw append_assoc (take_at _ _ 8 (characters_serial n).long)

module _ (key : ℕ) where
  -- the serial digits stand after two letters
  pub serial_digits_written : serial_digits (text_of key) ≡ digits 8 (key / 676)
  unfolding serial_digits letters
  serial_digits_written = rw (text_of_parts, first_eight) (values_characters (digits 8 (key / 676)))

  -- the check digit stands after two letters and eight digits
  pub check_written : get_or (text_of key) 10 0 ≡ 48 + check_digit (digits 8 (key / 676))
  unfolding letters serial_text
  check_written = rw (text_of_parts, append_assoc) (get_or_at (characters (digits 8 (key / 676))) _ _ 0 8 (characters_serial (key / 676)).long)

  -- the last eight digits write what is left by 10 ^ 8
  serial_number_written : decimal_number 0 (serial_digits (text_of key)) ≡ key / 676 % 100_000_000
  serial_number_written = let number = decimal_digits 0 8 (key / 676) in rw serial_digits_written (omega arith)

  -- the letters of the two pairs
  first_letters : (get_or (text_of key) 0 0 ≡ 65 + key / 67_600_000_000 / 26) × (get_or (text_of key) 1 0 ≡ 65 + key / 67_600_000_000 % 26)
  unfolding letters
  first_letters = (rw text_of_parts, rw text_of_parts)

  last_letters : (get_or (text_of key) 11 0 ≡ 65 + key % 676 / 26) × (get_or (text_of key) 12 0 ≡ 65 + key % 676 % 26)
  unfolding letters
  last_letters =
      (rw text_of_parts (after_serial (key / 676) (letters (key % 676)) 0), rw text_of_parts (after_serial (key / 676) (letters (key % 676)) 1))

  -- the pairs and the serial number are those that the key was taken apart into
  pub key_written : key_of (text_of key) ≡ key
  unfolding key_of
  key_written =
      let serial = serial_number_written in
      let first = first_letters in
      let last = last_letters in
      let quotient = div-div-eq-div-mul key 676 100_000_000 in
      omega arith

  -- two, nine and two
  pub length_text : length (text_of key) ≡ 13
  unfolding letters
  length_text = rw text_of_parts (simp (length-append, length_serial))

  -- each part is allowed at its place; the first pair is one because the key is at most the largest
  pub well_formed_written : key ≤ largest_key → is_well_formed (text_of key) ≡ true
  unfolding is_well_formed largest_key letters
  well_formed_written h =
      rw (eq-eqb (length (text_of key)) 13 length_text, text_of_parts)
      (allowed_append 0 (letters (key / 67_600_000_000)) (serial_text (key / 676) ++ letters (key % 676))
      (letters_allowed 0 (key / 67_600_000_000) (λ c. refl) (λ c. refl) (omega arith))
      (allowed_append 2 (serial_text (key / 676)) (letters (key % 676)) (serial_allowed (key / 676))
      (rw length_serial (letters_allowed 11 (key % 676) (λ c. refl) (λ c. refl) (omega arith)))))

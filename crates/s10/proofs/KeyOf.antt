-- A well-formed text from its key: each part of the text is a part of the key. Assumes nothing.
use Prim.Native.Nat.{ℕ, zero, suc, ◌+◌, ◌-◌, ◌*◌, ◌/◌, ◌%◌, ◌≤◌, ◌<◌, suc-le-suc}
use mathlib.Core.Path.{◌≡◌, refl, sym, ◌∙◌}
use mathlib.Core.List.{List, [], ◌∷◌, ◌++◌, append_assoc}
use native.Mathlib.Nat.{div-div-eq-div-mul}
use native.Mathlib.Omega.{arith}
use lib.ListN.{length, get_or, take, drop, take-append-drop, drop_of_length-le}
use lib.Seq.{drop-cons, drop-drop}
use Rattle.s10.specs.Text.{serial_digits, check_digit, pair, decimal_number, key_of, character_sum, least_sum, letters, digits, text_of, largest_key}
use Rattle.s10.specs.Parts.{Between, WellFormed, values, characters, serial_text}
use Rattle.s10.proofs.Decimal.{AllBelow, decimal_div, decimal_from, digits_decimal}
use Rattle.s10.proofs.Values.{length_values, values_below, serial_number_below, characters_values}
use Rattle.s10.proofs.TextOf.{text_of_parts}

-- a text of thirteen characters is the two pairs, the serial digits and the check digit
text_split : (text : List ℕ) → length text ≡ 13 →
    text ≡ get_or text 0 0 ∷ get_or text 1 0 ∷ (take 8 (drop 2 text) ++ (get_or text 10 0 ∷ get_or text 11 0 ∷ get_or text 12 0 ∷ []))
text_split text long =
    let end = drop_of_length-le text {i = 13} (omega arith) in
    let tail : drop 8 (drop 2 text) ≡ get_or text 10 0 ∷ get_or text 11 0 ∷ get_or text 12 0 ∷ [] =
    drop-drop 8 2 text ∙ rw (drop-cons text 10 0 (omega arith), drop-cons text 11 0 (omega arith), drop-cons text 12 0 (omega arith), end) in
    rw (← tail, take-append-drop, ← drop-cons text 1 0 (omega arith), ← drop-cons text 0 0 (omega arith))

-- k digits 0, behind n
digits_zero : ℕ → ℕ → ℕ
digits_zero zero n = n
digits_zero (suc k) n = digits_zero k (n * 10 + 48)

-- digits as characters write what they write as numbers, and what as many digits 0 write
sum_of_digits : (n m : ℕ) (cs : List ℕ) → ((k : ℕ) → k < length cs → Between 48 57 (get_or cs k 0)) →
    decimal_number (n + m) cs ≡ decimal_number n (values cs) + digits_zero (length cs) m
unfolding decimal_number digits_zero
sum_of_digits n m [] all = refl
sum_of_digits n m (c ∷ cs) all =
    let digit : Between 48 57 c = all 0 (omega arith) in
    let rest = sum_of_digits (n * 10 + (c - 48)) (m * 10 + 48) cs (λ k h. all (suc k) (suc-le-suc h)) in
    let same : (n + m) * 10 + c ≡ n * 10 + (c - 48) + (m * 10 + 48) = omega arith in
    rw same rest

-- the letters of a pair's number are the pair
letters_pair : (a b : ℕ) → Between 65 90 a → Between 65 90 b → letters (pair a b) ≡ a ∷ b ∷ []
unfolding letters pair
letters_pair a b wa wb =
    let first : 65 + (26 * (a - 65) + (b - 65)) / 26 ≡ a = omega arith in
    let second : 65 + (26 * (a - 65) + (b - 65)) % 26 ≡ b = omega arith in
    rw (first, second)

-- the last pair is ZZ
pair_below : (a b : ℕ) → Between 65 90 a → Between 65 90 b → pair a b < 676
unfolding pair
pair_below a b wa wb = omega arith

-- the three numbers that a key is put together from
abbrev first_pair : List ℕ → ℕ
first_pair text = pair (get_or text 0 0) (get_or text 1 0)

abbrev last_pair : List ℕ → ℕ
last_pair text = pair (get_or text 11 0) (get_or text 12 0)

abbrev serial_number : List ℕ → ℕ
serial_number text = decimal_number 0 (serial_digits text)

key_of_parts : (text : List ℕ) → key_of text ≡ (first_pair text * 100_000_000 + serial_number text) * 676 + last_pair text
unfolding key_of
key_of_parts text = refl

module _ (text : List ℕ) (w : WellFormed text) where
  -- there are eight serial digits, and each is below ten
  eight : length (serial_digits text) ≡ 8
  unfolding serial_digits
  eight = length_values (take 8 (drop 2 text)) ∙ w.serial.long

  below_ten : AllBelow 10 (serial_digits text)
  unfolding serial_digits
  below_ten = values_below (take 8 (drop 2 text)) w.serial

  first_below : first_pair text < 676
  first_below = pair_below _ _ w.first.0 w.first.1

  last_below : last_pair text < 676
  last_below = pair_below _ _ w.last.0 w.last.1

  serial_below : serial_number text < 100_000_000
  unfolding serial_digits
  serial_below = serial_number_below (take 8 (drop 2 text)) w.serial

  -- each of the three numbers is at most its largest
  pub key_at_most_largest : key_of text ≤ largest_key
  unfolding largest_key
  key_at_most_largest =
      let f = first_below in
      let s = serial_below in
      let l = last_below in
      rw key_of_parts (omega arith)

  -- the characters' sum is the key and what A and 0 add to it
  pub sum_of_key : character_sum text - least_sum ≡ key_of text
  unfolding character_sum least_sum serial_digits pair digits_zero
  sum_of_key =
      let serial = rw w.serial.long at (sum_of_digits 0 0 (take 8 (drop 2 text)) w.serial.digit) in
      rw key_of_parts (omega (arith, w.first, w.last))

  -- without its last pair the key is the first pair with the serial digits written after it
  without_last : key_of text / 676 ≡ decimal_number (first_pair text) (serial_digits text)
  without_last =
      let l = last_below in
      let from = rw eight at (decimal_from (first_pair text) (serial_digits text)) in
      rw key_of_parts (omega arith)

  -- the last pair is what is left
  last_of_lem : key_of text % 676 ≡ last_pair text
  last_of_lem = let l = last_below in rw key_of_parts (omega arith)

  -- the first pair stands before the eight digits
  first_of_lem : key_of text / 67_600_000_000 ≡ first_pair text
  first_of_lem =
      sym (div-div-eq-div-mul (key_of text) 676 100_000_000)
      ∙ rw without_last (rw eight at (decimal_div (first_pair text) (serial_digits text) below_ten))

  -- and the digits are its last eight
  serial_of : digits 8 (key_of text / 676) ≡ serial_digits text
  serial_of = rw without_last (rw eight at (digits_decimal (first_pair text) (serial_digits text) below_ten))

  serial_characters : characters (serial_digits text) ≡ take 8 (drop 2 text)
  unfolding serial_digits
  serial_characters = characters_values (take 8 (drop 2 text)) w.serial.digit

  -- so the parts that are written are the parts of the text
  pub text_of_key : get_or text 10 0 - 48 ≡ check_digit (serial_digits text) → text_of (key_of text) ≡ text
  unfolding serial_text
  text_of_key right =
      let check : 48 + check_digit (serial_digits text) ≡ get_or text 10 0 = omega (arith, w.check) in
      let first = letters_pair _ _ w.first.0 w.first.1 in
      let last = letters_pair _ _ w.last.0 w.last.1 in
      rw (text_of_parts, first_of_lem, last_of_lem, serial_of, first, last, serial_characters, check, append_assoc) (sym (text_split text w.long))

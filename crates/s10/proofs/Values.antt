-- Digits as characters and as numbers. Assumes nothing.
use Prim.Native.Nat.{ℕ, zero, suc, ◌+◌, ◌-◌, ◌<◌, suc-le-suc}
use mathlib.Core.Path.{◌≡◌, refl, ◌∙◌}
use mathlib.Core.List.{List, [], ◌∷◌}
use native.Mathlib.Nat.{not-suc-le-zero}
use native.Mathlib.Omega.{arith}
use lib.ListN.{length, get_or, length-map, get_or-map}
use Rattle.s10.specs.Text.{decimal_number, digits}
use Rattle.s10.specs.Parts.{Between, Serial, values, characters}
use Rattle.s10.proofs.Decimal.{AllBelow, tail_below, decimal_lt, length_digits, digits_below}

-- one number for each character, and one character for each number
pub length_values : (text : List ℕ) → length (values text) ≡ length text
length_values text = length-map text (λ (c : ℕ). c - 48)

pub length_characters : (ds : List ℕ) → length (characters ds) ≡ length ds
length_characters ds = length-map ds (λ (d : ℕ). 48 + d)

-- 0 stands past the end of both lists
pub get_d_values : (text : List ℕ) (k : ℕ) → get_or (values text) k 0 ≡ get_or text k 0 - 48
get_d_values text k = get_or-map (λ (c : ℕ). c - 48) text k 0

-- a digit stands for a number below ten
pub values_below : (text : List ℕ) → Serial text → AllBelow 10 (values text)
values_below text s k h =
    let digit = s.digit k (rw length_values at h) in
    rw (get_d_values text k) (omega arith)

-- eight digits write less than a hundred million
pub serial_number_below : (text : List ℕ) → Serial text → decimal_number 0 (values text) < 100_000_000
serial_number_below text s = rw (length_values, s.long) at (decimal_lt (values text) (values_below text s))

-- a digit is the character of its number
pub characters_values : (text : List ℕ) → ((k : ℕ) → k < length text → Between 48 57 (get_or text k 0)) → characters (values text) ≡ text
characters_values [] all = refl
characters_values (c ∷ text) all =
    let digit : Between 48 57 c = all 0 (omega arith) in
    let head : 48 + (c - 48) ≡ c = omega arith in
    rw (head, characters_values text (λ k h. all (suc k) (suc-le-suc h)))

-- a number's digit stands for the number
pub values_characters : (ds : List ℕ) → values (characters ds) ≡ ds
values_characters [] = refl
values_characters (d ∷ ds) =
    let head : 48 + d - 48 ≡ d = omega arith in
    rw (head, values_characters ds)

-- a number below ten gets a digit
pub characters_within : (ds : List ℕ) → AllBelow 10 ds → (k : ℕ) → k < length (characters ds) → Between 48 57 (get_or (characters ds) k 0)
characters_within [] all k h = absurd (not-suc-le-zero h)
characters_within (d ∷ ds) all zero h = let low : d < 10 = all 0 (omega arith) in omega arith
characters_within (d ∷ ds) all (suc k) h = characters_within ds (tail_below ds all) k (omega arith)

-- eight digits of a number are eight characters that are digits
pub characters_serial : (n : ℕ) → Serial (characters (digits 8 n))
characters_serial n =
    record {
      long = length_characters (digits 8 n) ∙ length_digits 8 n;
      digit = characters_within (digits 8 n) (digits_below 8 n);
    }

-- The identifier of document 01, "Identifier": its text, as a list of ASCII codes, and its key. Each definition quotes its sentence.
-- Assumes nothing.
use Rattle.std.specs.Prelude.{ℕ, zero, suc, ◌+◌, ◌-◌, ◌*◌, ◌/◌, ◌%◌, ◌^◌, Bool, cond, ◌&&◌, List, [], ◌∷◌, ◌++◌, map, length, get_or, take, drop, eqb, leb}

-- "letters A to Z"
unfoldable pub is_letter : ℕ → Bool
is_letter c = leb 65 c && leb c 90

unfoldable pub is_digit : ℕ → Bool
is_digit c = leb 48 c && leb c 57

-- "two letters A to Z, eight serial digits, a check digit, two letters A to Z": where a digit stands, positions counted from 0
unfoldable pub asks_digit : ℕ → Bool
asks_digit i = leb 2 i && leb i 10

-- and what may stand at a position
unfoldable pub is_allowed : ℕ → ℕ → Bool
unfolding is_letter is_digit asks_digit
is_allowed i c = cond (asks_digit i) (is_digit c) (is_letter c)

-- "the first faulty character from the left": its position, from position i on, or the position after the last
unfoldable pub first_fault : ℕ → List ℕ → ℕ
unfolding is_allowed
first_fault i [] = i
first_fault i (c ∷ text) = cond (is_allowed i c) (first_fault (i + 1) text) i

-- the eight serial digits as numbers
unfoldable pub serial_digits : List ℕ → List ℕ
serial_digits text = map (λ (c : ℕ). c - 48) (take 8 (drop 2 text))

unfoldable pub weights : List ℕ
weights = 8 ∷ 6 ∷ 4 ∷ 2 ∷ 3 ∷ 5 ∷ 9 ∷ 7 ∷ []

-- "The eight digits are multiplied by 8, 6, 4, 2, 3, 5, 9, 7 and added"
unfoldable pub weighted : List ℕ → List ℕ → ℕ
weighted [] ds = 0
weighted (w ∷ ws) [] = 0
weighted (w ∷ ws) (d ∷ ds) = w * d + weighted ws ds

-- "except that 10 becomes 0 and 11 becomes 5"
unfoldable pub excepted : ℕ → ℕ
excepted c = cond (eqb c 10) 0 (cond (eqb c 11) 5 c)

-- "the check digit is 11 less the remainder by 11"
unfoldable pub check_digit : List ℕ → ℕ
unfolding weights weighted excepted
check_digit digits = excepted (11 - weighted weights digits % 11)

-- "Letters count 0 to 25, and a pair is 26 × first + second"
unfoldable pub pair : ℕ → ℕ → ℕ
pair first second = 26 * (first - 65) + (second - 65)

-- the number that decimal digits write, after those that wrote n
unfoldable pub decimal_number : ℕ → List ℕ → ℕ
decimal_number n [] = n
decimal_number n (d ∷ ds) = decimal_number (n * 10 + d) ds

-- "The key is (first pair × 100,000,000 + serial) × 676 + last pair"
unfoldable pub key_of : List ℕ → ℕ
unfolding pair decimal_number serial_digits
key_of text =
    (pair (get_or text 0 0) (get_or text 1 0) * 100_000_000 + decimal_number 0 (serial_digits text)) * 676 + pair (get_or text 11 0) (get_or text 12 0)

-- the same sum with the characters themselves for their letters and digits
unfoldable pub character_sum : List ℕ → ℕ
unfolding decimal_number
character_sum text =
    ((26 * get_or text 0 0 + get_or text 1 0) * 100_000_000 + decimal_number 0 (take 8 (drop 2 text))) * 676 + (26 * get_or text 11 0 + get_or text 12 0)

-- it is this where each letter is A and each digit 0, whose key is 0
unfoldable pub least_sum : ℕ
least_sum = 118_998_533_331_483

-- the key of a text that is not tested: what its sum is above the least, 0 where it is not thirteen characters long. An accepted text has its key
-- (`Laws.AcceptedAsUntested`)
unfoldable pub untested_key : List ℕ → ℕ
unfolding character_sum least_sum
untested_key text = cond (eqb (length text) 13) (character_sum text - least_sum) 0

-- "at most 45,697,599,999,999"
unfoldable pub largest_key : ℕ
largest_key = 45_697_599_999_999

-- the two letters of a pair
unfoldable pub letters : ℕ → List ℕ
letters p = (65 + p / 26) ∷ (65 + p % 26) ∷ []

-- the last k decimal digits of n
unfoldable pub digits : ℕ → ℕ → List ℕ
digits zero n = []
digits (suc k) n = (n / 10 ^ k % 10) ∷ digits k n

-- the text of a key
unfoldable pub text_of : ℕ → List ℕ
unfolding letters digits check_digit
text_of key =
    let serial : List ℕ = digits 8 (key / 676) in
    letters (key / 67_600_000_000) ++ map (λ (d : ℕ). 48 + d) serial ++ ((48 + check_digit serial) ∷ letters (key % 676))

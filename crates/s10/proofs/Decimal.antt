-- Decimal digits and the number that they write: each is got back from the other, whatever stands before it. Assumes nothing.
use Prim.Native.Nat.{ℕ, zero, suc, ◌+◌, ◌*◌, ◌/◌, ◌%◌, ◌^◌, ◌<◌, suc-le-suc}
use mathlib.Core.Path.{◌≡◌, refl, ap}
use mathlib.Core.List.{List, [], ◌∷◌}
use native.Mathlib.Nat.{one-le-pow, pow-suc, pow-succ', div-one, div-div-eq-div-mul, div-lt_iff_lt-mul, mod-lt, not-suc-le-zero}
use native.Mathlib.Numerals.{add-one}
use native.Mathlib.Omega.{arith}
use lib.Arith.{mod-mul}
use lib.ListN.{length, get_or, drop}
use lib.Seq.{drop-cons}
use Rattle.s10.specs.Text.{decimal_number, digits}

-- each number of the list is below b
abbrev pub AllBelow : ℕ → List ℕ → Type 0
AllBelow b ds = (k : ℕ) → k < length ds → get_or ds k 0 < b

-- the tail's numbers stand one place further on in the list
pub tail_below : {b d : ℕ} (ds : List ℕ) → AllBelow b (d ∷ ds) → AllBelow b ds
tail_below ds all k h = all (suc k) (suc-le-suc h)

-- the empty list has no place
pub nil_below : (b : ℕ) → AllBelow b []
nil_below b k h = absurd (not-suc-le-zero h)

-- the head stands at 0, the rest after it
pub cons_below : {b d : ℕ} (ds : List ℕ) → d < b → AllBelow b ds → AllBelow b (d ∷ ds)
cons_below ds low all zero h = low
cons_below ds low all (suc k) h = all k (omega arith)

-- a power of a positive number is positive
ten_pow_pos : (k : ℕ) → 0 < 10 ^ k
ten_pow_pos k = one-le-pow k 10 (omega arith)

-- the digits written last go by a division: one digit a step
pub decimal_div : (n : ℕ) (ds : List ℕ) → AllBelow 10 ds → decimal_number n ds / 10 ^ length ds ≡ n
unfolding decimal_number
decimal_div n [] all = div-one n
decimal_div n (d ∷ ds) all =
    let low : d < 10 = all 0 (omega arith) in
    rw (pow-suc, ← div-div-eq-div-mul, decimal_div (n * 10 + d) ds (tail_below ds all)) (omega arith)

-- k digits write less than 10 ^ k: the division leaves nothing
pub decimal_lt : (ds : List ℕ) → AllBelow 10 ds → decimal_number 0 ds < 10 ^ length ds
decimal_lt ds all =
    let gone = decimal_div 0 ds all in
    let under = (div-lt_iff_lt-mul {x = decimal_number 0 ds} {y = 1} (ten_pow_pos (length ds))).0 (omega arith) in
    omega arith

-- what stood before is moved by as many places as digits follow
pub decimal_from : (n : ℕ) (ds : List ℕ) → decimal_number n ds ≡ n * 10 ^ length ds + decimal_number 0 ds
unfolding decimal_number
decimal_from n [] = omega arith
decimal_from n (d ∷ ds) =
    let from_n = decimal_from (n * 10 + d) ds in
    let from_0 = decimal_from (0 * 10 + d) ds in
    rw pow-suc (omega arith)

-- the digits from place k on are the k-th digit and those after it
pub decimal_step : (n : ℕ) (ds : List ℕ) (k : ℕ) → k < length ds → decimal_number n (drop k ds) ≡ decimal_number (n * 10 + get_or ds k 0) (drop (k + 1) ds)
unfolding decimal_number
decimal_step n ds k h = rw (add-one, drop-cons ds k 0 h)

-- the last digits of what digits write are these digits
pub digits_decimal : (n : ℕ) (ds : List ℕ) → AllBelow 10 ds → digits (length ds) (decimal_number n ds) ≡ ds
unfolding decimal_number digits
digits_decimal n [] all = refl
digits_decimal n (d ∷ ds) all =
    let low : d < 10 = all 0 (omega arith) in
    let first : decimal_number (n * 10 + d) ds / 10 ^ length ds % 10 ≡ d = rw (decimal_div (n * 10 + d) ds (tail_below ds all)) (omega arith) in
    rw (first, digits_decimal (n * 10 + d) ds (tail_below ds all))

-- the last k digits of m write what m leaves by 10 ^ k
pub decimal_digits : (n k m : ℕ) → decimal_number n (digits k m) ≡ n * 10 ^ k + m % 10 ^ k
unfolding decimal_number digits
decimal_digits n zero m = omega arith
decimal_digits n (suc k) m =
    let rest = decimal_digits (n * 10 + m / 10 ^ k % 10) k m in
    let split = mod-mul m {m = 10} (omega arith) (ten_pow_pos k) in
    rw pow-succ' (omega arith)

-- one digit is taken a step
pub length_digits : (k n : ℕ) → length (digits k n) ≡ k
unfolding digits
length_digits zero n = refl
length_digits (suc k) n = ap suc (length_digits k n)

-- each digit is a remainder by ten
pub digits_below : (k n : ℕ) → AllBelow 10 (digits k n)
unfolding digits
digits_below zero n = nil_below 10
digits_below (suc k) n = cons_below (digits k n) (mod-lt (n / 10 ^ k) (omega arith)) (digits_below k n)

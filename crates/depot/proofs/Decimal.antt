-- Laws of a number in decimal: the fewest digits that hold it are its text, and a number below 10 ^ k has at most k. Assumes nothing.
use Prim.Native.Nat.{ℕ, zero, suc, ◌+◌, ◌/◌, ◌%◌, ◌^◌, ◌≤◌, ◌<◌}
use native.Mathlib.Nat.{pow-suc, one-le-pow, mod-lt}
use native.Mathlib.Omega.{arith}
use native.Mathlib.Numerals.{unary_clauses}
use mathlib.Core.Path.{◌≡◌}
use mathlib.Core.List.{[], ◌∷◌, ◌++◌}
use borrow.Author.Tests.{lt-ltb, le-ltb}
use lib.ListN.{length, length-append}
use Rattle.io.specs.Digits.{last_digits, hex_digit_ascii, IsDigitCount}
use Rattle.byte_fields.proofs.Bytes.{below_or_past}
use Rattle.depot.specs.Program.{decimal_within, decimal}

-- a digit's character
digit_glyph : (d : ℕ) → d < 10 → hex_digit_ascii d ≡ 48 + d
digit_glyph d h = rw (lt-ltb d 10 h)

-- one digit stands alone
one_digit : (room n : ℕ) → n < 10 → decimal_within (suc room) n ≡ (48 + n) ∷ []
unfolding decimal_within
one_digit room n h = rw (lt-ltb n 10 h)

-- the last of several follows those of a tenth of the number
last_digit : (room n : ℕ) → 10 ≤ n → decimal_within (suc room) n ≡ decimal_within room (n / 10) ++ ((48 + n % 10) ∷ [])
unfolding decimal_within
last_digit room n h = rw (le-ltb n 10 h)

-- digit by digit, from the last
digits_within : (k room n : ℕ) → n < room → n < 10 ^ suc k → (1 < suc k → 10 ^ k ≤ n) → last_digits 10 (suc k) n ≡ decimal_within room n
digits_within k zero n h low high = absurd (omega arith)
digits_within zero (suc room) n h low high =
    let small : n < 10 = omega (arith, pow-suc 10 0) in
    let whole : n % 10 ≡ n = omega arith in
    rw (one_digit room n small, whole, digit_glyph n small)
digits_within (suc k) (suc room) n h low high =
    let long = high (omega arith) in
    let more : 10 ≤ n = omega (arith, pow-suc 10 k, one-le-pow k 10 (omega arith)) in
    let tenth = digits_within k room (n / 10) (omega arith) (omega (arith, pow-suc 10 (suc k))) (λ some. omega (arith, pow-suc 10 k)) in
    rw (last_digit room n more, ← tenth, digit_glyph (n % 10) (mod-lt n (omega arith)))

-- the fewest digits that hold a number are its text
pub digits_decimal : (k n : ℕ) → IsDigitCount 10 1 n k → last_digits 10 k n ≡ decimal n
unfolding decimal
digits_decimal zero n f = absurd (omega arith)
digits_decimal (suc k) n f = digits_within k (suc n) n (omega arith) f.1 (simp unary_clauses at f.2)

-- a tenth of a number below 10 ^ suc k is below 10 ^ k
length_within : (k room n : ℕ) → n < room → n < 10 ^ suc k → length (decimal_within room n) ≤ suc k
length_within k zero n h low = absurd (omega arith)
length_within zero (suc room) n h low = rw (one_digit room n (omega (arith, pow-suc 10 0))) (omega arith)
length_within (suc k) (suc room) n h low =
    below_or_past n 10
    (λ one. rw (one_digit room n one) (omega arith))
    (λ more. rw (last_digit room n more, length-append) (omega (arith, length_within k room (n / 10) (omega arith) (omega (arith, pow-suc 10 (suc k))))))

pub decimal_length : (k n : ℕ) → n < 10 ^ suc k → length (decimal n) ≤ suc k
unfolding decimal
decimal_length k n h = length_within k (suc n) n (omega arith) h

-- The bits of a word: of a word halved, of a power of two, of a complement, of `|` and `&`; and a word is known by its bits.
-- Assumes nothing.
use mathlib.Core.Path.{◌≡◌, refl, sym, ap, ◌∙◌}
use mathlib.Core.Bool.{Bool, false, not, ◌&&◌, ◌||◌, true≢false, false≢true}
use Prim.Native.Nat.{ℕ, zero, suc, ◌+◌, ◌-◌, ◌*◌, ◌/◌, ◌%◌, ◌^◌, ◌≤◌, ◌<◌, min, max, suc-le-suc}
use native.Mathlib.Nat.{mod-lt, div-one, zero-lt-suc, not-suc-le-zero, pow-suc, le_of_suc-le-suc, lt_of_lt_of_le, div-eq_of_lt, le_refl, one-mul}
use native.Mathlib.Numerals.{one-add}
use native.Mathlib.Omega.{arith}
use lib.Dec.{lit<, eqb, eqb-suc-suc, eqb-zero-suc, eqb-suc-zero}
use lib.Arith.{digits_mod, lt-one}
use lib.Pow.{shr-shr, shl_exact, pow_pos, pow_mono}
use lib.Bits.{bit_and, bit_or, and_step, or_step, and_shr, or_shr, or_add_and, and_le_l, and_le_r}
use Rattle.node_set.specs.Members.{bit}

-- ---- bit by bit

-- bit 0 is the parity
pub bit_zero_is_parity : (n : ℕ) → bit n 0 ≡ eqb (n % 2) 1
unfolding bit
bit_zero_is_parity n = ap (λ (x : ℕ). eqb (x % 2) 1) (div-one n)

-- the bits above bit 0 are those of the half
pub bit_suc_is_bit_of_half : (n b : ℕ) → bit n (suc b) ≡ bit (n / 2) b
unfolding bit
bit_suc_is_bit_of_half n b =
    ap (λ (x : ℕ). eqb (x % 2) 1) (ap (λ (x : ℕ). n / 2 ^ x) (sym (one-add b)) ∙ sym (shr-shr n 1 b))

-- ---- digits

-- what holds of 0 and of 1 holds of a digit
pub on_digit : (P : ℕ → Type 0) → P 0 → P 1 → (x : ℕ) → x < 2 → P x
on_digit P p0 p1 zero h = p0
on_digit P p0 p1 (suc zero) h = p1
on_digit P p0 p1 (suc (suc x)) h = absurd (omega arith)

-- and so for two digits
on_digits : (P : ℕ → ℕ → Type 0) → P 0 0 → P 0 1 → P 1 0 → P 1 1 → (x : ℕ) → x < 2 → (y : ℕ) → y < 2 → P x y
on_digits P p00 p01 p10 p11 = on_digit (λ x. (y : ℕ) → y < 2 → P x y) (on_digit (P 0) p00 p01) (on_digit (P 1) p10 p11)

-- ---- two words joined digit by digit

-- on two digits f gives a digit, and it is set as g says
abbrev Digits : (ℕ → ℕ → ℕ) → (Bool → Bool → Bool) → ℕ → ℕ → Type 0
Digits f g x y = (f x y < 2) × (eqb (f x y) 1 ≡ g (eqb x 1) (eqb y 1))

module _ (op f : ℕ → ℕ → ℕ) (g : Bool → Bool → Bool)
    (shr : (a b k : ℕ) → op a b / 2 ^ k ≡ op (a / 2 ^ k) (b / 2 ^ k))
    (step : (a b : ℕ) → op a b ≡ op (a / 2) (b / 2) * 2 + f (a % 2) (b % 2))
    (digits : (x : ℕ) → x < 2 → (y : ℕ) → y < 2 → Digits f g x y) where
  -- the bit of the joined word is the join of the bits: shift it down to bit 0, where `step` shows it
  bit_of_op : (a b k : ℕ) → bit (op a b) k ≡ g (bit a k) (bit b k)
  unfolding bit
  bit_of_op a b k =
      let p = a / 2 ^ k in
      let q = b / 2 ^ k in
      let joined = digits (p % 2) (mod-lt p (zero-lt-suc 1)) (q % 2) (mod-lt q (zero-lt-suc 1)) in
      ap (λ (x : ℕ). eqb (x % 2) 1) (shr a b k ∙ step p q)
      ∙ ap (λ (x : ℕ). eqb x 1) (digits_mod (op (p / 2) (q / 2)) joined.0) ∙ joined.1

-- `|` takes the larger digit, which is set where one of the two is
pub bit_of_or : (a b k : ℕ) → bit (bit_or a b) k ≡ (bit a k || bit b k)
bit_of_or =
    bit_of_op bit_or max ◌||◌ or_shr or_step
    (on_digits (Digits max ◌||◌) (lit< tt, refl) (lit< tt, refl) (lit< tt, refl) (lit< tt, refl))

-- `&` takes the smaller digit, which is set where both are
pub bit_of_and : (a b k : ℕ) → bit (bit_and a b) k ≡ (bit a k && bit b k)
bit_of_and =
    bit_of_op bit_and min ◌&&◌ and_shr and_step
    (on_digits (Digits min ◌&&◌) (lit< tt, refl) (lit< tt, refl) (lit< tt, refl) (lit< tt, refl))

-- ---- a word and its complement

-- 1 less a digit is the other digit
other_digit : (x : ℕ) → x < 2 → eqb (1 - x) 1 ≡ not (eqb x 1)
other_digit = on_digit (λ x. eqb (1 - x) 1 ≡ not (eqb x 1)) refl refl

-- in k bits each bit of the complement is the other one: a word's half and its complement's half are complements again
pub bit_of_complement : (k a b : ℕ) → a < 2 ^ k → b < k → bit ((2 ^ k - 1) - a) b ≡ not (bit a b)
bit_of_complement zero a b ha hb = absurd (not-suc-le-zero hb)
bit_of_complement (suc k) a zero ha hb =
    let parity : ((2 ^ suc k - 1) - a) % 2 ≡ 1 - a % 2 = omega (arith, pow-suc 2 k, pow_pos k) in
    bit_zero_is_parity ((2 ^ suc k - 1) - a)
    ∙ ap (λ (x : ℕ). eqb x 1) parity
    ∙ other_digit (a % 2) (omega arith)
    ∙ ap not (sym (bit_zero_is_parity a))
bit_of_complement (suc k) a (suc b) ha hb =
    let half : ((2 ^ suc k - 1) - a) / 2 ≡ (2 ^ k - 1) - a / 2 = omega (arith, pow-suc 2 k, pow_pos k) in
    bit_suc_is_bit_of_half ((2 ^ suc k - 1) - a) b
    ∙ ap (λ (x : ℕ). bit x b) half
    ∙ bit_of_complement k (a / 2) b (omega (arith, pow-suc 2 k)) (le_of_suc-le-suc hb)
    ∙ ap not (sym (bit_suc_is_bit_of_half a b))

-- ---- powers of two, and words below one

-- 0 halves to 0, and is even
pub bit_of_zero : (b : ℕ) → bit 0 b ≡ false
bit_of_zero zero = bit_zero_is_parity 0
bit_of_zero (suc b) = bit_suc_is_bit_of_half 0 b ∙ bit_of_zero b

-- 2 ^ b has bit b alone: it halves to the power below, down to 1
pub bit_of_power : (b k : ℕ) → bit (2 ^ b) k ≡ eqb k b
bit_of_power zero zero = bit_zero_is_parity 1
bit_of_power zero (suc k) = bit_suc_is_bit_of_half 1 k ∙ bit_of_zero k ∙ sym (eqb-suc-zero k)
bit_of_power (suc b) zero =
    let even : 2 ^ suc b % 2 ≡ 0 = omega (arith, pow-suc 2 b) in
    bit_zero_is_parity (2 ^ suc b) ∙ ap (λ (x : ℕ). eqb x 1) even ∙ sym (eqb-zero-suc b)
bit_of_power (suc b) (suc k) =
    let half : 2 ^ suc b / 2 ≡ 2 ^ b = omega (arith, pow-suc 2 b) in
    bit_suc_is_bit_of_half (2 ^ suc b) k ∙ ap (λ (x : ℕ). bit x k) half ∙ bit_of_power b k ∙ sym (eqb-suc-suc k b)

-- a one that is shifted within 64 bits loses nothing
pub shifted_one_is_power : (b : ℕ) → b < 64 → (1 * 2 ^ b) % 2 ^ 64 ≡ 2 ^ b
shifted_one_is_power b h = shl_exact 1 b 64 (le_refl 2) (omega arith) ∙ one-mul (2 ^ b)

-- a word of k bits has none at k or above: shifted down that far it is 0
pub no_bit_above : (k n b : ℕ) → n < 2 ^ k → k ≤ b → bit n b ≡ false
unfolding bit
no_bit_above k n b hn hb = ap (λ (x : ℕ). eqb (x % 2) 1) (div-eq_of_lt (lt_of_lt_of_le hn (pow_mono hb)))

-- ---- a word is known by its bits

-- a digit is 1 or is not
digit_by_test : (x : ℕ) → x < 2 → (y : ℕ) → y < 2 → eqb x 1 ≡ eqb y 1 → x ≡ y
digit_by_test =
    on_digits (λ x y. eqb x 1 ≡ eqb y 1 → x ≡ y)
    (λ e. refl) (λ e. absurd (false≢true e)) (λ e. absurd (true≢false e)) (λ e. refl)

-- two words of k bits with the same bits are the same: their lowest digits are, and their halves are
pub same_bits_same_word : (k v w : ℕ) → v < 2 ^ k → w < 2 ^ k → ((b : ℕ) → b < k → bit v b ≡ bit w b) → v ≡ w
same_bits_same_word zero v w hv hw same = lt-one hv ∙ sym (lt-one hw)
same_bits_same_word (suc k) v w hv hw same =
    let lowest : v % 2 ≡ w % 2 =
    digit_by_test (v % 2) (omega arith) (w % 2) (omega arith)
    (sym (bit_zero_is_parity v) ∙ same 0 (zero-lt-suc k) ∙ bit_zero_is_parity w) in
    let rest : v / 2 ≡ w / 2 =
    same_bits_same_word k (v / 2) (w / 2) (omega (arith, pow-suc 2 k)) (omega (arith, pow-suc 2 k))
    (λ b h. sym (bit_suc_is_bit_of_half v b) ∙ same (suc b) (suc-le-suc h) ∙ bit_suc_is_bit_of_half w b) in
    omega arith

-- ---- `|` of words that is 0

-- `|` is at least each of the two: with `&`, which is at most each, it makes their sum
pub or_zero_both_zero : (a b : ℕ) → bit_or a b ≡ 0 → (a ≡ 0) × (b ≡ 0)
or_zero_both_zero a b e = omega (arith, or_add_and a b, and_le_l a b, and_le_r a b)

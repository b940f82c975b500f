-- Words and lists of words: the bits of a word are counted by `ones`, and a set's members are the bits of its words.
-- Assumes nothing.
use mathlib.Core.Path.{◌≡◌, refl, sym, ap, ap₂, ◌∙◌}
use mathlib.Core.Bool.{Bool, true, false, cond}
use mathlib.Core.List.{List, [], ◌∷◌}
use Prim.Native.Nat.{ℕ, zero, suc, ◌+◌, ◌*◌, ◌/◌, ◌%◌, ◌^◌, ◌≤◌, ◌<◌}
use native.Mathlib.Nat.{add-zero, pow-suc}
use native.Mathlib.Numerals.{one-add}
use native.Mathlib.Omega.{arith}
use mir.Syntax.{w64}
use mir.Val.{Fits}
use lib.Arith.{lt-one}
use lib.Count.{ones, ones_step}
use lib.Dec.{eqb, lit<}
use lib.ListN.{length, get_or, set, get_or-eq_default}
use lib.Seq.{get_or-set_same, get_or-set_other}
use borrow.Author.Tests.{eqb-true, eqb-false, eq-eqb, ne_eqb}
use Rattle.node_set.specs.Laws.{NodeSet}
use Rattle.node_set.specs.Members.{bit, member, count_below}
use Rattle.node_set.proofs.Bits.{on_digit, bit_zero_is_parity, bit_suc_is_bit_of_half, bit_of_zero}
use Rattle.node_set.proofs.Below.{count_below_zero, same_tests_same_count, count_below_add}

-- ---- one word

-- a digit counts 1 where it is set
digit_as_count : (x : ℕ) → x < 2 → x ≡ cond (eqb x 1) 1 0
digit_as_count = on_digit (λ x. x ≡ cond (eqb x 1) 1 0) refl refl

-- of the first number alone
count_below_one : (test : ℕ → Bool) → count_below 1 test ≡ cond (test 0) 1 0
unfolding count_below
count_below_one test = add-zero (cond (test 0) 1 0)

-- the set digits of a word of k bits are its set bits: the lowest digit is bit 0, and the half has the rest
pub ones_count_bits : (k w : ℕ) → w < 2 ^ k → ones w ≡ count_below k (bit w)
unfolding ones
ones_count_bits zero w h = ap ones (lt-one h) ∙ sym (count_below_zero (bit w))
ones_count_bits (suc k) w h =
    let lowest : w % 2 ≡ count_below 1 (bit w) =
    digit_as_count (w % 2) (omega arith) ∙ ap (λ (t : Bool). cond t 1 0) (sym (bit_zero_is_parity w))
    ∙ sym (count_below_one (bit w)) in
    let rest : ones (w / 2) ≡ count_below k (λ n. bit w (1 + n)) =
    ones_count_bits k (w / 2) (omega (arith, pow-suc 2 k))
    ∙ same_tests_same_count k (bit (w / 2)) (λ n. bit w (1 + n))
    (λ n below. sym (ap (bit w) (one-add n) ∙ bit_suc_is_bit_of_half w n)) in
    ones_step w ∙ ap₂ ◌+◌ lowest rest ∙ sym (count_below_add 1 k (bit w)) ∙ ap (λ (n : ℕ). count_below n (bit w)) (one-add k)

-- ---- a list of words

-- the first 64 numbers are the bits of the first word
pub member_low : (w : ℕ) (ws : List ℕ) (n : ℕ) → n < 64 → member (w ∷ ws) n ≡ bit w n
unfolding member
member_low w ws n h =
    let word : n / 64 ≡ 0 = omega arith in
    let place : n % 64 ≡ n = omega arith in
    ap₂ (λ (i b : ℕ). bit (get_or (w ∷ ws) i 0) b) word place

-- those after them are the numbers of the other words
pub member_high : (w : ℕ) (ws : List ℕ) (n : ℕ) → member (w ∷ ws) (64 + n) ≡ member ws n
unfolding member
member_high w ws n =
    let word : (64 + n) / 64 ≡ suc (n / 64) = omega arith in
    let place : (64 + n) % 64 ≡ n % 64 = omega arith in
    ap₂ (λ (i b : ℕ). bit (get_or (w ∷ ws) i 0) b) word place

-- so the members are the set digits of the first word and the members of the others
pub count_of_words : (k w : ℕ) (ws : List ℕ) → w < 2 ^ 64 → count_below (64 + k) (member (w ∷ ws)) ≡ ones w + count_below k (member ws)
count_of_words k w ws h =
    count_below_add 64 k (member (w ∷ ws))
    ∙ ap₂ ◌+◌ (same_tests_same_count 64 (member (w ∷ ws)) (bit w) (member_low w ws) ∙ sym (ones_count_bits 64 w h))
    (same_tests_same_count k (λ n. member (w ∷ ws) (64 + n)) (member ws) (λ n below. member_high w ws n))

-- bit b of word i is number i * 64 + b
pub member_of_word : (ws : List ℕ) (i b : ℕ) → b < 64 → member ws (i * 64 + b) ≡ bit (get_or ws i 0) b
unfolding member
member_of_word ws i b h =
    let word : (i * 64 + b) / 64 ≡ i = omega arith in
    let place : (i * 64 + b) % 64 ≡ b = omega arith in
    ap₂ (λ (j k : ℕ). bit (get_or ws j 0) k) word place

-- no number past the words is a member: the word there is taken for 0
pub no_member_past : (ws : List ℕ) (n : ℕ) → length ws ≤ n / 64 → member ws n ≡ false
unfolding member
no_member_past ws n h = ap (λ (w : ℕ). bit w (n % 64)) (get_or-eq_default ws 0 h) ∙ bit_of_zero (n % 64)

-- two numbers are equal where their quotients and remainders by 64 are
same_place_same_test : (n m : ℕ) → n / 64 ≡ m / 64 → eqb (n % 64) (m % 64) ≡ eqb n m
same_place_same_test n m word = go (eqb n m) refl
  where
    go : (t : Bool) → eqb n m ≡ t → eqb (n % 64) (m % 64) ≡ t
    go true e = eq-eqb (n % 64) (m % 64) (ap (λ (x : ℕ). x % 64) (eqb-true n m e))
    go false e = ne_eqb (n % 64) (m % 64) (λ place. eqb-false n m e (omega arith))

-- A store of a word v that differs from the word of m at most in m's bit, where it has `change x true` for x, changes the
-- membership of m so, and of no other number.
module _ (change : Bool → Bool → Bool) (kept : (x : Bool) → change x false ≡ x) where
  pub member_of_store : (ws : List ℕ) (m v : ℕ) → m / 64 < length ws
      → ((b : ℕ) → b < 64 → bit v b ≡ change (bit (get_or ws (m / 64) 0) b) (eqb b (m % 64)))
      → (n : ℕ) → member (set ws (m / 64) v) n ≡ change (member ws n) (eqb n m)
  unfolding member
  member_of_store ws m v inside bits n = go (eqb (n / 64) (m / 64)) refl
    where
      go : (t : Bool) → eqb (n / 64) (m / 64) ≡ t → member (set ws (m / 64) v) n ≡ change (member ws n) (eqb n m)
      go true e =
          let word : n / 64 ≡ m / 64 = eqb-true (n / 64) (m / 64) e in
          ap (λ (i : ℕ). bit (get_or (set ws (m / 64) v) i 0) (n % 64)) word
          ∙ ap (λ (w : ℕ). bit w (n % 64)) (get_or-set_same ws (m / 64) v 0 inside)
          ∙ bits (n % 64) (omega arith)
          ∙ ap₂ (λ (i : ℕ) (t : Bool). change (bit (get_or ws i 0) (n % 64)) t) (sym word) (same_place_same_test n m word)
      go false e =
          let apart : n / 64 ≡ m / 64 → ⊥ = eqb-false (n / 64) (m / 64) e in
          ap (λ (w : ℕ). bit w (n % 64)) (get_or-set_other ws (m / 64) (n / 64) v 0 apart)
          ∙ sym (kept (member ws n))
          ∙ ap (change (member ws n)) (sym (ne_eqb n m (λ same. apart (ap (λ (x : ℕ). x / 64) same))))

-- ---- three words

-- an array of three `u64` is a set
pub array_is_a_set : (s : List ℕ) → length s ≡ 3 → ((i : ℕ) → Fits w64 (get_or s i 0)) → NodeSet s
array_is_a_set s long fits = record { three = long; fits = λ i. (fits i).fits }

-- a list of length 3 is its first three elements
pub three_words : (s : List ℕ) → length s ≡ 3 → s ≡ get_or s 0 0 ∷ get_or s 1 0 ∷ get_or s 2 0 ∷ []
three_words [] e = absurd (omega arith)
three_words (a ∷ []) e = absurd (omega arith)
three_words (a ∷ b ∷ []) e = absurd (omega arith)
three_words (a ∷ b ∷ c ∷ []) e = refl
three_words (a ∷ b ∷ c ∷ d ∷ s) e = absurd (omega arith)

-- the set whose words are 0
abbrev pub zeros : List ℕ
zeros = 0 ∷ 0 ∷ 0 ∷ []

-- every word of it is 0, also past the end
word_of_zeros : (i : ℕ) → get_or zeros i 0 ≡ 0
word_of_zeros zero = refl
word_of_zeros (suc zero) = refl
word_of_zeros (suc (suc zero)) = refl
word_of_zeros (suc (suc (suc i))) = refl

-- it has no member, since no word has a bit
pub no_member_of_zeros : (n : ℕ) → member zeros n ≡ false
unfolding member
no_member_of_zeros n = ap (λ (w : ℕ). bit w (n % 64)) (word_of_zeros (n / 64)) ∙ bit_of_zero (n % 64)

-- it is a set
pub zeros_are_a_set : NodeSet zeros
zeros_are_a_set = record { three = refl; fits = λ i. rw word_of_zeros (lit< tt) }

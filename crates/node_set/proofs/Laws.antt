-- The laws of `specs/Laws.antt`, proved.
-- Assumes nothing.
use mathlib.Core.Path.{◌≡◌, refl, sym, ap, ap₂, ◌∙◌}
use mathlib.Core.Bool.{Bool, true, false, cond, ◌&&◌, ◌||◌, and-true, and-false, or-false}
use mathlib.Core.List.{[], ◌∷◌}
use Prim.Native.Nat.{ℕ, zero, suc, ◌+◌, ◌*◌, ◌^◌, ◌<◌}
use native.Mathlib.Nat.{zero-add, one-mul, pow-suc, le_refl, zero-lt-suc, not-suc-le-zero}
use native.Mathlib.Omega.{arith}
use borrow.Author.Count.{below_more}
use borrow.Author.Tests.{eq-eqb, ne_eqb}
use lib.Bits.{or_shifted}
use lib.Count.{ones}
use lib.Dec.{eqb}
use lib.ListN.{get_or}
use lib.Seq.{ext_get_or}
use Rattle.node_set.specs.Members.{bit, member, count_below, word_of}
use Rattle.node_set.specs.Laws.{OnesCountMembers, SameMembersSameSet, NoneBelowAllFail, CountZeroNoneBelow, IsWordOf, WordOfIsWordOf}
use Rattle.node_set.proofs.Below as below
use Rattle.node_set.proofs.Bits.{same_bits_same_word, bit_of_or, bit_of_power, bit_of_zero, no_bit_above}
use Rattle.node_set.proofs.Words.{count_of_words, member_of_word}

-- each word counts for itself, and no word is left after the third
pub ones_count_members : OnesCountMembers
ones_count_members w0 w1 w2 h0 h1 h2 =
    let first : count_below 192 (member (w0 ∷ w1 ∷ w2 ∷ [])) ≡ ones w0 + count_below 128 (member (w1 ∷ w2 ∷ [])) = count_of_words 128 w0 (w1 ∷ w2 ∷ []) h0 in
    let second : count_below 128 (member (w1 ∷ w2 ∷ [])) ≡ ones w1 + count_below 64 (member (w2 ∷ [])) = count_of_words 64 w1 (w2 ∷ []) h1 in
    let third : count_below 64 (member (w2 ∷ [])) ≡ ones w2 + count_below 0 (member []) = count_of_words 0 w2 [] h2 in
    let rest : count_below 0 (member []) ≡ 0 = below.count_below_zero (member []) in
    omega arith

-- bit b of word i is member 64 * i + b, so the words have the same bits
pub same_members_same_set : SameMembersSameSet
same_members_same_set v w sv sw same =
    ext_get_or 0 v w (sv.three ∙ sym sw.three) (λ i h.
    same_bits_same_word 64 (get_or v i 0) (get_or w i 0) (sv.fits i) (sw.fits i) (λ b below.
    sym (member_of_word v i b below) ∙ same (i * 64 + b) (omega (arith, sv.three)) ∙ member_of_word w i b below))

-- a test of each, both ways
pub none_below_all_fail : NoneBelowAllFail
none_below_all_fail k test = (below.none_below_all_fail k test, below.all_fail_none_below k test)

-- each that passes counts 1, and each that fails 0
pub count_zero_none_below : CountZeroNoneBelow
count_zero_none_below k test = (below.count_zero_none_below k test, below.none_below_count_zero k test)

-- the next bit, above a word of k bits, adds itself to the word's bits
top_bit : (k r : ℕ) (t : Bool) → r < 2 ^ k → (b : ℕ) → bit (cond t (2 ^ k) 0 + r) b ≡ (t && eqb b k || bit r b)
top_bit k r true h b =
    ap (λ (x : ℕ). bit (x + r) b) (sym (one-mul (2 ^ k)))
    ∙ ap (λ (x : ℕ). bit x b) (sym (or_shifted 1 k r h))
    ∙ bit_of_or (1 * 2 ^ k) r b
    ∙ ap (λ (x : ℕ). bit x b || bit r b) (one-mul (2 ^ k))
    ∙ ap (λ (s : Bool). s || bit r b) (bit_of_power k b)
top_bit k r false h b = ap (λ (x : ℕ). bit x b) (zero-add r)

-- a word of k bits and the next one are a word of k + 1
top_bit_fits : (k r : ℕ) (t : Bool) → r < 2 ^ k → cond t (2 ^ k) 0 + r < 2 ^ suc k
top_bit_fits k r true h = omega (arith, pow-suc 2 k)
top_bit_fits k r false h = omega (arith, pow-suc 2 k)

-- below k the bits are as they were, and the bit at k is the test's
next_bit : (k r : ℕ) (test : ℕ → Bool) → IsWordOf k test r → IsWordOf (suc k) test (cond (test k) (2 ^ k) 0 + r)
next_bit k r test is =
    let bits = top_bit k r (test k) is.fits in
    let fits = top_bit_fits k r (test k) is.fits in
    let lower : (b : ℕ) → b < k → bit (cond (test k) (2 ^ k) 0 + r) b ≡ test b = λ b h.
    bits b ∙ ap (λ (s : Bool). test k && s || bit r b) (ne_eqb b k (omega arith))
    ∙ ap (λ (s : Bool). s || bit r b) (and-false (test k)) ∙ is.inside b h in
    let top : bit (cond (test k) (2 ^ k) 0 + r) k ≡ test k =
    bits k ∙ ap₂ (λ (s u : Bool). test k && s || u) (eq-eqb k k refl) (is.outside k (le_refl k))
    ∙ or-false (test k && true) ∙ and-true (test k) in
    record {
      fits = fits;
      inside = λ b h. below_more (λ (m : ℕ). bit (cond (test k) (2 ^ k) 0 + r) m ≡ test m) k lower top b (omega arith);
      outside = λ b h. no_bit_above (suc k) (cond (test k) (2 ^ k) 0 + r) b fits h;
    }

-- bit by bit from the word of no bits, which is 0
pub word_of_is_word_of : WordOfIsWordOf
unfolding word_of
word_of_is_word_of zero test = record {
  fits = zero-lt-suc 0;
  inside = λ b h. absurd (not-suc-le-zero h);
  outside = λ b h. bit_of_zero b;
}
word_of_is_word_of (suc k) test = next_bit k (word_of k test) test (word_of_is_word_of k test)

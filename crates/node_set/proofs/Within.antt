-- Sets with no member above a limit: each word is below the power of two of the places that the limit leaves it. Assumes nothing.
use mathlib.Core.Path.{◌≡◌, refl, sym, ap, ap₂, ◌∙◌}
use mathlib.Core.Bool.{Bool, true, false, not, ◌&&◌, ◌||◌, and-true, and-false, true≢false}
use mathlib.Core.List.{List}
use Prim.Native.Nat.{ℕ, zero, suc, ◌+◌, ◌-◌, ◌*◌, ◌/◌, ◌%◌, ◌^◌, ◌≤◌, ◌<◌}
use native.Mathlib.Nat.{pow-suc, lt_of_lt_of_le}
use native.Mathlib.Omega.{arith}
use borrow.Author.Tests.{ltb-true, ltb-false, leb-true, leb-false, lt-leb}
use lib.Arith.{digits_div}
use lib.Dec.{eqb, leb, ltb}
use lib.ListN.{get_or}
use lib.Pow.{pow_mono}
use Rattle.node_set.specs.Laws.{NodeSet}
use Rattle.node_set.specs.Members.{bit, member, none_below, none_above}
use Rattle.node_set.proofs.Below.{none_below_all_fail, all_fail_none_below}
use Rattle.node_set.proofs.Bits.{no_bit_above}
use Rattle.node_set.proofs.Words.{member_of_word}

-- ---- none above a limit

-- to fail or be within is not to pass and be above
within_or_fails : (t u : Bool) → (not t || u) ≡ not (t && not u)
within_or_fails true true = refl
within_or_fails true false = refl
within_or_fails false u = refl

-- none is above where none passes and is above
none_above_none_below : (k limit : ℕ) (test : ℕ → Bool) → none_above k limit test ≡ none_below k (λ n. test n && not (leb n limit))
unfolding none_above none_below
none_above_none_below zero limit test = refl
none_above_none_below (suc k) limit test = ap₂ ◌&&◌ (within_or_fails (test k) (leb k limit)) (none_above_none_below k limit test)

-- `none_above` tests each number above the limit
pub none_above_each_fails : (k limit : ℕ) (test : ℕ → Bool) → none_above k limit test ≡ true → (n : ℕ) → n < k → limit < n → test n ≡ false
none_above_each_fails k limit test e n h above =
    let fails = none_below_all_fail k (λ m. test m && not (leb m limit)) (sym (none_above_none_below k limit test) ∙ e) n h in
    sym (and-true (test n)) ∙ ap (λ (t : Bool). test n && not t) (sym (lt-leb n limit above)) ∙ fails

-- and nothing else
pub each_fails_none_above : (k limit : ℕ) (test : ℕ → Bool) → ((n : ℕ) → n < k → limit < n → test n ≡ false) → none_above k limit test ≡ true
each_fails_none_above k limit test fails =
    none_above_none_below k limit test ∙ all_fail_none_below k (λ m. test m && not (leb m limit)) (λ n h. go n h (leb n limit) refl)
  where
    go : (n : ℕ) → n < k → (t : Bool) → leb n limit ≡ t → (test n && not t) ≡ false
    go n h true e = and-false (test n)
    go n h false e = ap (λ (t : Bool). t && true) (fails n h (leb-false n limit e))

-- ---- a word with few places

-- a word of one place more, whose top bit is clear: at half or more it would be set
top_bit_clear : (k w : ℕ) → w < 2 ^ suc k → bit w k ≡ false → w < 2 ^ k
unfolding bit
top_bit_clear k w h clear = go (ltb w (2 ^ k)) refl
  where
    go : (t : Bool) → ltb w (2 ^ k) ≡ t → w < 2 ^ k
    go true e = ltb-true w (2 ^ k) e
    go false e =
        let rest : w - 2 ^ k < 2 ^ k = omega (arith, ltb-false w (2 ^ k) e, pow-suc 2 k) in
        let sum : 1 * 2 ^ k + (w - 2 ^ k) ≡ w = omega (arith, ltb-false w (2 ^ k) e) in
        let one : w / 2 ^ k ≡ 1 = rw sum at (digits_div 1 rest) in
        absurd (true≢false (sym (ap (λ (x : ℕ). eqb (x % 2) 1) one) ∙ clear))

-- a word with no bit from place k on is below 2 ^ k
pub no_bit_above_below : (places k w : ℕ) → w < 2 ^ places → ((b : ℕ) → k ≤ b → b < places → bit w b ≡ false) → w < 2 ^ k
no_bit_above_below zero k w h clear = lt_of_lt_of_le h (pow_mono {i = 0} (omega arith))
no_bit_above_below (suc p) k w h clear =
    go (leb k p) refl (λ le. no_bit_above_below p k w (top_bit_clear p w h (clear p le (omega arith))) (λ b above below. clear b above (omega arith)))
  where
    go : (t : Bool) → leb k p ≡ t → (k ≤ p → w < 2 ^ k) → w < 2 ^ k
    go true e rest = rest (leb-true k p e)
    go false e rest = lt_of_lt_of_le h (pow_mono (leb-false k p e))

-- ---- the words of a set

module _ (s : List ℕ) (is : NodeSet s) (limit : ℕ) where
  -- each word is below the power of the places that the limit leaves it, if no member is above the limit
  pub within_word : none_above 192 limit (member s) ≡ true → (i : ℕ) → i < 3 → get_or s i 0 < 2 ^ (limit + 1 - i * 64)
  within_word e i h =
      no_bit_above_below 64 (limit + 1 - i * 64) (get_or s i 0) (is.fits i) (λ b above below.
      sym (member_of_word s i b below)
      ∙ none_above_each_fails 192 limit (member s) e (i * 64 + b) (omega arith) (omega arith))

  -- and only then
  pub words_within : ((i : ℕ) → i < 3 → get_or s i 0 < 2 ^ (limit + 1 - i * 64)) → none_above 192 limit (member s) ≡ true
  unfolding member
  words_within low =
      each_fails_none_above 192 limit (member s) (λ n h above.
      no_bit_above (limit + 1 - n / 64 * 64) (get_or s (n / 64) 0) (n % 64) (low (n / 64) (omega arith)) (omega arith))

  -- word i has only the places that the limit leaves it
  abbrev pub word_fits : ℕ → Bool
  word_fits i = ltb (get_or s i 0) (2 ^ (limit + 1 - i * 64))

  -- which the code tests of so many places
  pub tested_word : (i : ℕ) {places : ℕ} {r t : Bool} → places ≡ limit + 1 - i * 64 → r ≡ ltb (get_or s i 0) (2 ^ places) → r ≡ t → word_fits i ≡ t
  tested_word i e is_test known = ap (λ (k : ℕ). ltb (get_or s i 0) (2 ^ k)) (sym e) ∙ sym is_test ∙ known

  -- a word with more holds a member above the limit
  pub word_above : (i : ℕ) → i < 3 → word_fits i ≡ false → false ≡ none_above 192 limit (member s)
  word_above i h e = go (none_above 192 limit (member s)) refl
    where
      go : (t : Bool) → none_above 192 limit (member s) ≡ t → false ≡ t
      go false fails = refl
      go true passes = absurd (omega (arith, ltb-false (get_or s i 0) (2 ^ (limit + 1 - i * 64)) e, within_word passes i h))

  -- where the first two have no more, the third decides
  pub third_word_decides : word_fits 0 ≡ true → word_fits 1 ≡ true → word_fits 2 ≡ none_above 192 limit (member s)
  third_word_decides first second = go (word_fits 2) refl
    where
      each : word_fits 2 ≡ true → (i : ℕ) → i < 3 → get_or s i 0 < 2 ^ (limit + 1 - i * 64)
      each third zero h = ltb-true _ _ first
      each third (suc zero) h = ltb-true _ _ second
      each third (suc (suc zero)) h = ltb-true _ _ third
      each third (suc (suc (suc i))) h = absurd (omega arith)

      go : (t : Bool) → word_fits 2 ≡ t → t ≡ none_above 192 limit (member s)
      go true e = sym (words_within (each e))
      go false e = word_above 2 (omega arith) e

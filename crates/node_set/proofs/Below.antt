-- Tests on the first k numbers: none passes if each fails, the count is 0 if none passes, and counts of parts add up.
-- Assumes nothing.
use mathlib.Core.Path.{◌≡◌, refl, sym, ap, ap₂, ◌∙◌}
use mathlib.Core.Bool.{Bool, true, false, not, cond, ◌&&◌, and-eq-true_iff}
use Prim.Native.Nat.{ℕ, zero, suc, ◌+◌, ◌<◌}
use native.Mathlib.Nat.{not-suc-le-zero, le_refl, add-zero, add-suc}
use native.Mathlib.Omega.{arith}
use borrow.Author.Count.{below_more}
use borrow.Author.Tests.{not-true}
use Rattle.node_set.specs.Members.{none_below, count_below}

-- ---- none of the first k

-- `none_below` tests each of them
pub none_below_all_fail : (k : ℕ) (test : ℕ → Bool) → none_below k test ≡ true → (n : ℕ) → n < k → test n ≡ false
unfolding none_below
none_below_all_fail zero test e n h = absurd (not-suc-le-zero h)
none_below_all_fail (suc k) test e n h =
    let both = (and-eq-true_iff (not (test k)) (none_below k test)).0 e in
    below_more (λ (m : ℕ). test m ≡ false) k (none_below_all_fail k test both.1) (not-true (test k) both.0) n (omega arith)

-- and nothing else
pub all_fail_none_below : (k : ℕ) (test : ℕ → Bool) → ((n : ℕ) → n < k → test n ≡ false) → none_below k test ≡ true
unfolding none_below
all_fail_none_below zero test fails = refl
all_fail_none_below (suc k) test fails =
    ap (λ (t : Bool). not t && none_below k test) (fails k (le_refl (suc k)))
    ∙ all_fail_none_below k test (λ n h. fails n (omega arith))

-- ---- the count of the first k

-- a sum is 0 where both parts are
counts_nothing : (t : Bool) (n : ℕ) → cond t 1 0 + n ≡ 0 → (not t ≡ true) × (n ≡ 0)
counts_nothing true n e = absurd (omega arith)
counts_nothing false n e = (refl, omega arith)

-- a test that passes counts 1
pub count_zero_none_below : (k : ℕ) (test : ℕ → Bool) → count_below k test ≡ 0 → none_below k test ≡ true
unfolding none_below count_below
count_zero_none_below zero test e = refl
count_zero_none_below (suc k) test e =
    let none = counts_nothing (test k) (count_below k test) e in
    (and-eq-true_iff (not (test k)) (none_below k test)).1 (none.0, count_zero_none_below k test none.1)

-- and one that fails counts 0
pub none_below_count_zero : (k : ℕ) (test : ℕ → Bool) → none_below k test ≡ true → count_below k test ≡ 0
unfolding none_below count_below
none_below_count_zero zero test e = refl
none_below_count_zero (suc k) test e =
    let both = (and-eq-true_iff (not (test k)) (none_below k test)).0 e in
    ap₂ (λ (t : Bool) (n : ℕ). cond t 1 0 + n) (not-true (test k) both.0) (none_below_count_zero k test both.1)

-- of no number none passes
pub count_below_zero : (test : ℕ → Bool) → count_below 0 test ≡ 0
unfolding count_below
count_below_zero test = refl

-- tests that agree below k count the same
pub same_tests_same_count : (k : ℕ) (f g : ℕ → Bool) → ((n : ℕ) → n < k → f n ≡ g n) → count_below k f ≡ count_below k g
unfolding count_below
same_tests_same_count zero f g same = refl
same_tests_same_count (suc k) f g same =
    ap₂ (λ (t : Bool) (n : ℕ). cond t 1 0 + n) (same k (le_refl (suc k)))
    (same_tests_same_count k f g (λ n h. same n (omega arith)))

-- the first j + k are the first j and the k after them
pub count_below_add : (j k : ℕ) (test : ℕ → Bool) → count_below (j + k) test ≡ count_below j test + count_below k (λ n. test (j + n))
unfolding count_below
count_below_add j zero test = ap (λ (n : ℕ). count_below n test) (add-zero j) ∙ sym (add-zero (count_below j test))
count_below_add j (suc k) test =
    ap (λ (n : ℕ). count_below n test) (add-suc j k) ∙ omega (arith, count_below_add j k test)

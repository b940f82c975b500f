-- Tests of the first k numbers, as a chain over their range makes them, and which fail with one of them. Assumes nothing.
use Prim.Native.Nat.{ℕ, zero, suc, ◌+◌, ◌<◌}
use native.Mathlib.Omega.{arith}
use mathlib.Core.Path.{◌≡◌, refl, sym, ap, ap₂, ◌∙◌}
use mathlib.Core.Bool.{Bool, true, false, not, ◌&&◌, ◌||◌, true≢false, and_assoc, and_comm}
use lib.Dec.{leb}
use Rattle.std.specs.List.{list_all, range_with_len}
use Rattle.node_set.specs.Members.{none_above}
use Rattle.byte_fields.specs.Bytes.{all_below}
use Rattle.byte_fields.proofs.Bytes.{all_below_each}

-- one that fails fails them all
pub one_fails : (k : ℕ) (test : ℕ → Bool) (n : ℕ) → n < k → test n ≡ false → false ≡ all_below k test
one_fails k test n h e = go (all_below k test) refl
  where
    go : (t : Bool) → all_below k test ≡ t → false ≡ t
    go false fails = refl
    go true passes = absurd (true≢false (sym (all_below_each k test passes n h) ∙ e))

-- no member above a limit is every number no member, or within
pub none_above_all_below : (k limit : ℕ) (test : ℕ → Bool) → none_above k limit test ≡ all_below k (λ y. not (test y) || leb y limit)
unfolding none_above all_below
none_above_all_below zero limit test = refl
none_above_all_below (suc k) limit test = ap (λ (t : Bool). (not (test k) || leb k limit) && t) (none_above_all_below k limit test)

-- the first test may come first
all_below_first : (k : ℕ) (test : ℕ → Bool) → all_below (suc k) test ≡ (test 0 && all_below k (λ i. test (suc i)))
unfolding all_below
all_below_first zero test = refl
all_below_first (suc k) test =
    let rest = all_below k (λ i. test (suc i)) in
    ap (λ (t : Bool). test (suc k) && t) (all_below_first k test)
    ∙ sym (and_assoc (test (suc k)) (test 0) rest)
    ∙ ap (λ (t : Bool). t && rest) (and_comm (test (suc k)) (test 0))
    ∙ and_assoc (test 0) (test (suc k)) rest

-- the same tests pass the same
all_below_same : (k : ℕ) (test other : ℕ → Bool) → ((i : ℕ) → test i ≡ other i) → all_below k test ≡ all_below k other
unfolding all_below
all_below_same zero test other same = refl
all_below_same (suc k) test other same = ap₂ ◌&&◌ (same k) (all_below_same k test other same)

-- the tests of a range
range_from : (a n : ℕ) (test : ℕ → Bool) → list_all test (range_with_len a n) ≡ all_below n (λ i. test (a + i))
unfolding all_below
range_from a zero test = refl
range_from a (suc n) test =
    let from : a + 0 ≡ a = omega arith in
    ap (λ (t : Bool). test a && t) (range_from (a + 1) n test ∙ all_below_same n (λ i. test (a + 1 + i)) (λ i. test (a + suc i)) (λ i. ap test (omega arith)))
    ∙ ap (λ (m : ℕ). test m && all_below n (λ i. test (a + suc i))) (sym from)
    ∙ sym (all_below_first n (λ i. test (a + i)))

pub range_all : (n : ℕ) (test : ℕ → Bool) → list_all test (range_with_len 0 n) ≡ all_below n test
range_all n test = range_from 0 n test ∙ all_below_same n (λ i. test (0 + i)) test (λ i. ap test (omega arith))

-- The chain of an image: its indexes are not 0, one whose keys strictly ascend has each index once and so ends within the room, and one whose
-- records are filled in order has the indexes 1, 2 and on. Assumes nothing.
use Prim.Native.Nat.{ℕ, zero, suc, ◌+◌, ◌≤◌, ◌<◌}
use Rattle.std.proofs.Common.{arith, ap₂}
use Rattle.std.specs.Prelude.{◌≡◌, Bool, eqb, ltb}
use Rattle.std.proofs.Math.Path.{refl, ap}
use Rattle.std.proofs.Math.Bool.{true, false, cond, and-eq-true_iff}
use mathlib.Core.List.{List, [], ◌∷◌, map}
use Rattle.std.proofs.Math.ListN.{length}
use Rattle.std.proofs.Math.Dec.{leb}
use borrow.Author.Tests.{ltb-true, leb-true, lt-ltb, le-ltb, eqb-false, ne_eqb}
use Rattle.byte_fields.specs.Bytes.{tabulate}
use Rattle.model.specs.Serial.{Entry, Ascending}
use Rattle.model.specs.Image.{next_index, next_in, key_in, chain_from, chain_in, all, strictly_ascend, chain_fits}
use Rattle.command.proofs.Tests.{cond_cases}
use Rattle.model.proofs.Few.{Each, each_map, each_both, Different, few}

-- ---- tests of every number of a list

-- all pass a test where each does
pub each_all : (test : ℕ → Bool) (ns : List ℕ) → Each (λ n. test n ≡ true) ns → all test ns ≡ true
unfolding all
each_all test [] h = refl
each_all test (n ∷ ns) h = (and-eq-true_iff (test n) (all test ns)).1 (h.0, each_all test ns h.1)

-- and each does where all do
pub all_each : (test : ℕ → Bool) (ns : List ℕ) → all test ns ≡ true → Each (λ n. test n ≡ true) ns
unfolding all
all_each test [] e = tt
all_each test (n ∷ ns) e = let both = (and-eq-true_iff (test n) (all test ns)).0 e in (both.0, all_each test ns both.1)

-- each of a tabulated list has what each that it is made of has
pub each_tabulate : (P : ℕ → Type 0) (n : ℕ) (f : ℕ → ℕ) → ((i : ℕ) → i < n → P (f i)) → Each P (tabulate n f)
unfolding tabulate
each_tabulate P zero f h = tt
each_tabulate P (suc n) f h = (h 0 (omega arith), each_tabulate P n (λ i. f (suc i)) (λ i l. h (suc i) (omega arith)))

-- each number's f is smaller than that of every later one
abbrev pub Ascends : (ℕ → ℕ) → List ℕ → Type 0
Ascends f [] = Unit {0}
Ascends f (n ∷ ns) = Each (λ m. f n < f m) ns × Ascends f ns

-- as the test of neighbours says
pub test_ascends : (f : ℕ → ℕ) (ns : List ℕ) → strictly_ascend (map f ns) ≡ true → Ascends f ns
unfolding strictly_ascend
test_ascends f [] e = tt
test_ascends f (n ∷ []) e = (tt, tt)
test_ascends f (n ∷ m ∷ ns) e =
    let both = (and-eq-true_iff (ltb (f n) (f m)) (strictly_ascend (map f (m ∷ ns)))).0 e in
    let less = ltb-true (f n) (f m) both.0 in
    let rest = test_ascends f (m ∷ ns) both.1 in
    ((less, each_map (λ k l. omega arith) ns rest.0), rest)

-- the keys of ascending entries pass that test
pub ascending_test : (es : List Entry) → Ascending es → strictly_ascend (map (λ (e : Entry). e.key) es) ≡ true
unfolding strictly_ascend
ascending_test [] h = refl
ascending_test (e ∷ []) h = refl
ascending_test (e ∷ x ∷ es) h =
    (and-eq-true_iff (ltb e.key x.key) (strictly_ascend (map (λ (y : Entry). y.key) (x ∷ es)))).1 (lt-ltb e.key x.key h.0.0, ascending_test (x ∷ es) h.1)

-- numbers whose f ascends are different
pub ascends_different : (f : ℕ → ℕ) (ns : List ℕ) → Ascends f ns → Different ns
ascends_different f [] h = tt
ascends_different f (n ∷ ns) h = (each_map (λ m l q. let e = ap f q in omega arith) ns h.0, ascends_different f ns h.1)

-- ---- the chain

module _ (image : List ℕ) where
  -- index 0 ends the chain
  pub chain_zero : (n : ℕ) → chain_from image n 0 ≡ []
  unfolding chain_from
  chain_zero zero = refl
  chain_zero (suc n) = refl

  -- so no index on it is 0
  pub chain_positive : (n i : ℕ) → Each (λ m. 1 ≤ m) (chain_from image n i)
  unfolding chain_from
  chain_positive zero i = tt
  chain_positive (suc n) i =
      cond_cases (Each (λ m. 1 ≤ m)) (eqb i 0) (λ _. tt) (λ t. (omega (arith, eqb-false i 0 t), chain_positive n (next_in image i)))

  -- a chain of fewer than n indexes has no more, however far it is followed
  pub chain_further : (n m i : ℕ) → length (chain_from image n i) < n → n ≤ m → chain_from image m i ≡ chain_from image n i
  unfolding chain_from
  chain_further zero m i l h = absurd (omega arith)
  chain_further (suc n) zero i l h = absurd (omega arith)
  chain_further (suc n) (suc m) i l h = by (eqb i 0) l (λ less. chain_further n m (next_in image i) less (omega arith))
    where
      by : (b : Bool) → length (cond b [] (i ∷ chain_from image n (next_in image i))) < suc n
          → (length (chain_from image n (next_in image i)) < n → chain_from image m (next_in image i) ≡ chain_from image n (next_in image i))
          → cond b [] (i ∷ chain_from image m (next_in image i)) ≡ cond b [] (i ∷ chain_from image n (next_in image i))
      by true l rest = refl
      by false l rest = ap (λ (is : List ℕ). i ∷ is) (rest (omega arith))

  -- where the first records, as many as are used, are filled in order, the chain behind record i has each later one of them
  pub chain_in_order : (used : ℕ) → ((i : ℕ) → i ≤ used → next_in image i ≡ next_index used i)
      → (m n i : ℕ) (f : ℕ → ℕ) → i + m ≡ used → m ≤ n → ((j : ℕ) → f j ≡ suc (i + j)) → chain_from image n (next_index used i) ≡ tabulate m f
  unfolding next_index tabulate chain_from
  chain_in_order used next zero n i f e h is = rw (le-ltb i used (omega arith)) (chain_zero n)
  chain_in_order used next (suc m) zero i f e h is = absurd (omega arith)
  chain_in_order used next (suc m) (suc n) i f e h is =
      rw (lt-ltb i used (omega arith), ne_eqb (i + 1) 0 (λ (z : i + 1 ≡ 0). omega arith), next (i + 1) (omega arith))
      (ap₂ {C = List ℕ} ◌∷◌ (omega (arith, is 0)) (chain_in_order used next m n (i + 1) (λ j. f (suc j)) (omega arith) (omega arith) (λ j. omega (arith, is (suc j)))))

-- ---- a chain that is accepted

module _ (capacity : ℕ) (image : List ℕ) (fits : chain_fits capacity image ≡ true) where
  -- its keys ascend
  pub keys_ascend_lem : Ascends (key_in image) (chain_in capacity image)
  unfolding chain_fits
  keys_ascend_lem =
      test_ascends (key_in image) (chain_in capacity image)
      ((and-eq-true_iff (all (λ i. leb i capacity) (chain_in capacity image)) (strictly_ascend (map (key_in image) (chain_in capacity image)))).0 fits).1

  -- its indexes are from 1 to the capacity
  pub indexes_within : Each (λ i. (1 ≤ i) × (i ≤ capacity)) (chain_in capacity image)
  unfolding chain_fits chain_in
  indexes_within =
      each_both (λ i low high. (low, leb-true i capacity high)) (chain_in capacity image) (chain_positive image (capacity + 1) (next_in image 0))
      (all_each (λ i. leb i capacity) (chain_in capacity image)
      ((and-eq-true_iff (all (λ i. leb i capacity) (chain_in capacity image)) (strictly_ascend (map (key_in image) (chain_in capacity image)))).0 fits).0)

  -- so there are no more than the room has
  pub chain_short : length (chain_in capacity image) ≤ capacity
  chain_short = few capacity (chain_in capacity image) (ascends_different (key_in image) (chain_in capacity image) keys_ascend_lem) indexes_within

  -- and following it further gives no more
  pub chain_ended : (n : ℕ) → capacity + 1 ≤ n → chain_from image n (next_in image 0) ≡ chain_in capacity image
  unfolding chain_in
  chain_ended n h = chain_further image (capacity + 1) n (next_in image 0) (omega (arith, chain_short)) h

-- Sums and counts over the numbers below a bound: how a change at one place changes them, and that a one-to-one image is no smaller.
-- Assumes nothing.
use Rattle.std.specs.Prelude.{ℕ, zero, suc, ◌+◌, ◌-◌, ◌*◌, ◌≤◌, ◌<◌, ◌≡◌, refl, Bool, true, false, cond}
use Rattle.std.proofs.Common.{arith, suc-mul, sym, ◌∙◌, ⊎_elim}
use Rattle.model.specs.Upd.{upd}
use Rattle.command.proofs.Tests.{eqb_cases}
use Rattle.model.proofs.Upd.{upd_same, upd_other}

-- the sum of f over the numbers below a bound
unfoldable pub sum_below : ℕ → (ℕ → ℕ) → ℕ
sum_below zero f = 0
sum_below (suc k) f = f k + sum_below k f

-- how many numbers below a bound pass a test
unfoldable pub count : ℕ → (ℕ → Bool) → ℕ
count k p = sum_below k (λ j. cond (p j) 1 0)

-- a larger function has a larger sum
pub sum_mono : (n : ℕ) (f h : ℕ → ℕ) → ((u : ℕ) → u < n → f u ≤ h u) → sum_below n f ≤ sum_below n h
unfolding sum_below
sum_mono zero f h le = omega arith
sum_mono (suc n) f h le = let a = le n (omega arith) in let b = sum_mono n f h (λ u l. le u (omega arith)) in omega arith

-- where f is at most h but for place t, what is gained or lost there is gained or lost in the sum
pub sum_change : (n : ℕ) (f h : ℕ → ℕ) (t i j : ℕ) → t < n → f t + i ≤ h t + j → ((u : ℕ) → u < n → (u ≡ t → ⊥) → f u ≤ h u) → sum_below n f + i ≤ sum_below n h + j
unfolding sum_below
sum_change zero f h t i j low at le = absurd (omega arith)
sum_change (suc n) f h t i j low at le =
    ⊎_elim
    (λ e. let a : f n + i ≤ h n + j = rw e.0 at at in let b = sum_mono n f h (λ u l. le u (omega arith) (λ q. absurd (let k = e.0 in omega arith))) in omega arith)
    (λ e. let a = le n (omega arith) (λ q. e.0 (sym q)) in let b = sum_change n f h t i j (let k = e.0 in omega arith) at (λ u l. le u (omega arith)) in omega arith)
    (eqb_cases t n)

-- a sum of equal terms
pub sum_const : (n k : ℕ) → sum_below n (λ u. k) ≡ n * k
unfolding sum_below
sum_const zero k = omega arith
sum_const (suc n) k = let a = sum_const n k in let b = suc-mul n k in omega arith

-- as numbers, two tests of which the first implies the second
bit_le : (a b : Bool) → (a ≡ true → b ≡ true) → cond a 1 0 ≤ cond b 1 0
bit_le false b h = omega arith
bit_le true b h = rw (h refl) (omega arith)

-- a test counts at most one
pub bit_one : (b : Bool) → cond b 1 0 ≤ 1
bit_one true = omega arith
bit_one false = omega arith

-- a test that implies another passes no more often
pub count_mono : (n : ℕ) (p q : ℕ → Bool) → ((z : ℕ) → p z ≡ true → q z ≡ true) → count n p ≤ count n q
unfolding count
count_mono n p q h = sum_mono n (λ j. cond (p j) 1 0) (λ j. cond (q j) 1 0) (λ u l. bit_le (p u) (q u) (h u))

-- and where it fails at a place at which the other passes, it passes less often
pub count_less : (n : ℕ) (p q : ℕ → Bool) (t : ℕ) → t < n → p t ≡ false → q t ≡ true → ((z : ℕ) → (z ≡ t → ⊥) → p z ≡ true → q z ≡ true) → count n p + 1 ≤ count n q
unfolding count
count_less n p q t low fails passes h =
    let a = sum_change n (λ j. cond (p j) 1 0) (λ j. cond (q j) 1 0) t 1 0 low (rw (fails, passes) (omega arith)) (λ u l d. bit_le (p u) (q u) (h u d)) in
    omega arith

-- a test that implies another but for one place passes at most once more
pub count_more : (n : ℕ) (p q : ℕ → Bool) (t : ℕ) → t < n → ((z : ℕ) → (z ≡ t → ⊥) → p z ≡ true → q z ≡ true) → count n p ≤ count n q + 1
unfolding count
count_more n p q t low h =
    let b = bit_one (p t) in
    let a = sum_change n (λ j. cond (p j) 1 0) (λ j. cond (q j) 1 0) t 0 1 low (omega arith) (λ u l d. bit_le (p u) (q u) (h u d)) in
    omega arith

-- no test passes more often than there are numbers
pub count_bound : (n : ℕ) (p : ℕ → Bool) → count n p ≤ n
unfolding count sum_below
count_bound zero p = omega arith
count_bound (suc n) p = let a = bit_one (p n) in let b = count_bound n p in omega arith

-- a test that passes from m on passes there as often as there are numbers
pub count_past : (n m : ℕ) (p : ℕ → Bool) → m ≤ n → ((j : ℕ) → m ≤ j → p j ≡ true) → count m p + (n - m) ≤ count n p
unfolding count sum_below
count_past zero m p le h = let z : m ≡ 0 = omega arith in rw z (omega arith)
count_past (suc n) m p le h =
    ⊎_elim (λ e. rw e.0 (omega arith))
    (λ e. let d = e.0 in let l : m ≤ n = omega arith in let a = count_past n m p l h in rw (h n l) (omega arith))
    (eqb_cases m (suc n))

-- and no test passes there more often
pub count_most : (n m : ℕ) (p : ℕ → Bool) → m ≤ n → count n p ≤ count m p + (n - m)
unfolding count sum_below
count_most zero m p le = let z : m ≡ 0 = omega arith in rw z (omega arith)
count_most (suc n) m p le =
    ⊎_elim (λ e. rw e.0 (omega arith))
    (λ e. let d = e.0 in let b = bit_one (p n) in let a = count_most n m p (omega arith) in omega arith)
    (eqb_cases m (suc n))

-- numbers below n that pass p go one to one to numbers below m that pass q, so q passes at least as often
pub count_image : (n m : ℕ) (p q : ℕ → Bool) (f : ℕ → ℕ) → ((z : ℕ) → z < n → p z ≡ true → (f z < m) × (q (f z) ≡ true)) →
    ((y z : ℕ) → y < n → z < n → p y ≡ true → p z ≡ true → f y ≡ f z → y ≡ z) → count n p ≤ count m q
unfolding count sum_below
count_image zero m p q f into one = omega arith
count_image (suc n) m p q f into one = go (p n) refl (λ q' into'. count_image n m p q' f into' (λ y z a b. one y z (omega arith) (omega arith)))
  where
    Into : (ℕ → Bool) → Type 0
    Into q' = (z : ℕ) → z < n → p z ≡ true → (f z < m) × (q' (f z) ≡ true)

    go : (b : Bool) → p n ≡ b → ((q' : ℕ → Bool) → Into q' → count n p ≤ count m q') → cond (p n) 1 0 + count n p ≤ count m q
    go false e ih = let a = ih q (λ z l. into z (omega arith)) in rw e (omega arith)
    go true e ih =
        let here = into n (omega arith) e in
        let a = ih (upd q (f n) false) (λ z l h. ((into z (omega arith) h).0, upd_other q (f n) false (f z) (λ k. absurd (let w = one z n (omega arith) (omega arith) h e k in omega arith)) ∙ (into z (omega arith) h).1)) in
        let b = count_less m (upd q (f n) false) q (f n) here.0 (upd_same q (f n) false) here.1 (λ z d h. sym (upd_other q (f n) false z d) ∙ h) in
        rw e (omega arith)

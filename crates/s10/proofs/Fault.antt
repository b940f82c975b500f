-- The first character that is not allowed, and the characters before it. Assumes nothing.
use Prim.Native.Nat.{ℕ, zero, suc, ◌+◌, ◌≤◌, ◌<◌}
use mathlib.Core.Path.{◌≡◌, refl, sym, ap, ◌∙◌}
use mathlib.Core.Bool.{Bool, true, false, cond, ◌&&◌, and-eq-true_iff}
use mathlib.Core.List.{List, [], ◌∷◌}
use native.Mathlib.Nat.{add-zero, not-suc-le-zero}
use native.Mathlib.Numerals.{add-one}
use native.Mathlib.Omega.{arith}
use borrow.Author.Tests.{eq-eqb, ne_eqb}
use lib.Dec.{eqb}
use lib.ListN.{length, get_or, drop}
use lib.Seq.{drop-cons}
use Rattle.s10.specs.Text.{is_allowed, first_fault}
use Rattle.s10.specs.Parts.{all_allowed, is_well_formed}

-- the search goes one character on, or ends there
pub fault_step : (text : List ℕ) (i : ℕ) → i < length text →
    first_fault i (drop i text) ≡ cond (is_allowed i (get_or text i 0)) (first_fault (i + 1) (drop (i + 1) text)) i
unfolding first_fault
fault_step text i h = rw (drop-cons text i 0 h, add-one)

-- all characters are allowed exactly if the search passes the last: a fault is found before it
pub fault_all : (i : ℕ) (text : List ℕ) → all_allowed i text ≡ eqb (first_fault i text) (i + length text)
unfolding all_allowed first_fault
fault_all i [] = sym (eq-eqb i (i + 0) (omega arith))
fault_all i (c ∷ text) = here (is_allowed i c) (fault_all (i + 1) text)
  where
    here : (b : Bool) → all_allowed (i + 1) text ≡ eqb (first_fault (i + 1) text) (i + 1 + length text) →
        (b && all_allowed (i + 1) text) ≡ eqb (cond b (first_fault (i + 1) text) i) (i + suc (length text))
    here true e = e ∙ ap (eqb (first_fault (i + 1) text)) (omega arith)
    here false e = sym (ne_eqb i (i + suc (length text)) (omega arith))

-- where all are allowed, each is
pub allowed_at : (i : ℕ) (text : List ℕ) → all_allowed i text ≡ true → (k : ℕ) → k < length text → is_allowed (i + k) (get_or text k 0) ≡ true
unfolding all_allowed
allowed_at i [] all k h = absurd (not-suc-le-zero h)
allowed_at i (c ∷ text) all zero h = rw add-zero ((and-eq-true_iff (is_allowed i c) (all_allowed (i + 1) text)).0 all).0
allowed_at i (c ∷ text) all (suc k) h =
    let later = allowed_at (i + 1) text ((and-eq-true_iff (is_allowed i c) (all_allowed (i + 1) text)).0 all).1 k (omega arith) in
    let place : i + 1 + k ≡ i + suc k = omega arith in
    rw place at later

-- of thirteen characters the search says whether the text is well-formed
pub fault_well_formed : (text : List ℕ) → length text ≡ 13 → is_well_formed text ≡ eqb (first_fault 0 text) 13
unfolding is_well_formed
fault_well_formed text long =
    let end : 0 + length text ≡ 13 = omega arith in
    rw (eq-eqb (length text) 13 long) (rw end at (fault_all 0 text))

-- the search ends within the text or right after it
pub fault_within : (i : ℕ) (text : List ℕ) → (i ≤ first_fault i text) × (first_fault i text ≤ i + length text)
unfolding first_fault
fault_within i [] = (omega arith, omega arith)
fault_within i (c ∷ text) = here (is_allowed i c) (fault_within (i + 1) text)
  where
    here : (b : Bool) → (i + 1 ≤ first_fault (i + 1) text) × (first_fault (i + 1) text ≤ i + 1 + length text) →
        (i ≤ cond b (first_fault (i + 1) text) i) × (cond b (first_fault (i + 1) text) i ≤ i + suc (length text))
    here true w = (omega (arith, w.0), omega (arith, w.1))
    here false w = (omega arith, omega arith)

-- the characters before the first fault are allowed
pub allowed_before : (i : ℕ) (text : List ℕ) (k : ℕ) → i + k < first_fault i text → is_allowed (i + k) (get_or text k 0) ≡ true
unfolding first_fault
allowed_before i [] k h = absurd (omega arith)
allowed_before i (c ∷ text) k h = here (is_allowed i c) refl (allowed_before (i + 1) text) k h
  where
    here : (b : Bool) → is_allowed i c ≡ b → ((j : ℕ) → i + 1 + j < first_fault (i + 1) text → is_allowed (i + 1 + j) (get_or text j 0) ≡ true) →
        (k : ℕ) → i + k < cond b (first_fault (i + 1) text) i → is_allowed (i + k) (get_or (c ∷ text) k 0) ≡ true
    here true e later zero h = rw add-zero e
    here true e later (suc k) h = let place : i + 1 + k ≡ i + suc k = omega arith in rw place at (later k (omega arith))
    here false e later k h = absurd (omega arith)

-- a fault that is found is one
pub fault_at_lem : (i : ℕ) (text : List ℕ) (k : ℕ) → first_fault i text ≡ i + k → k < length text → is_allowed (i + k) (get_or text k 0) ≡ false
unfolding first_fault
fault_at_lem i [] k e h = absurd (omega arith)
fault_at_lem i (c ∷ text) k e h = here (is_allowed i c) refl (fault_at_lem (i + 1) text) k e h
  where
    here : (b : Bool) → is_allowed i c ≡ b → ((j : ℕ) → first_fault (i + 1) text ≡ i + 1 + j → j < length text → is_allowed (i + 1 + j) (get_or text j 0) ≡ false) →
        (k : ℕ) → cond b (first_fault (i + 1) text) i ≡ i + k → k < suc (length text) → is_allowed (i + k) (get_or (c ∷ text) k 0) ≡ false
    here true e later zero f h = absurd (omega (arith, (fault_within (i + 1) text).0))
    here true e later (suc k) f h = let place : i + 1 + k ≡ i + suc k = omega arith in rw place at (later k (omega arith) (omega arith))
    here false e later zero f h = rw add-zero e
    here false e later (suc k) f h = absurd (omega arith)

-- texts that agree up to a fault have it as their first
pub fault_agrees : (i : ℕ) (text other : List ℕ) → length other ≡ length text →
    ((k : ℕ) → i + k ≤ first_fault i text → get_or other k 0 ≡ get_or text k 0) → first_fault i other ≡ first_fault i text
unfolding first_fault
fault_agrees i [] [] long same = refl
fault_agrees i [] (d ∷ other) long same = absurd (omega arith)
fault_agrees i (c ∷ text) [] long same = absurd (omega arith)
fault_agrees i (c ∷ text) (d ∷ other) long same = here (is_allowed i c) refl (fault_agrees (i + 1) text other (omega arith)) same
  where
    here : (b : Bool) → is_allowed i c ≡ b →
        (((k : ℕ) → i + 1 + k ≤ first_fault (i + 1) text → get_or other k 0 ≡ get_or text k 0) → first_fault (i + 1) other ≡ first_fault (i + 1) text) →
        ((k : ℕ) → i + k ≤ cond b (first_fault (i + 1) text) i → get_or (d ∷ other) k 0 ≡ get_or (c ∷ text) k 0) →
        cond (is_allowed i d) (first_fault (i + 1) other) i ≡ cond b (first_fault (i + 1) text) i
    here true e later same =
        let first : d ≡ c = same 0 (omega (arith, (fault_within (i + 1) text).0)) in
        rw (first, e) (later (λ k h. same (suc k) (omega arith)))
    here false e later same = let first : d ≡ c = same 0 (omega arith) in rw (first, e)

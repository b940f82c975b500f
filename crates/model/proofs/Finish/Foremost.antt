-- Laws of the dispatcher's choice (specs/Dispatch): what a rank says, and that the foremost thread has the largest. Assumes nothing.
use Rattle.std.specs.Prelude.{ℕ, zero, suc, ◌≤◌, ◌≡◌, refl, Bool, true, false, cond, ◌⊎◌, eqb, ltb}
use Rattle.std.proofs.Common.{arith, ap, inl, inr, ltb-true, ltb-false, eqb-true}
use Rattle.std.proofs.Math.Option.{none, some}
use Rattle.model.specs.declared.Thread.{Thread}
use Rattle.model.specs.declared.Thread.TheVariants.{Idle, Loading, Searching, Holding, LookedUp, Written, Walking, Clearing}
use Rattle.model.specs.Setup.{Setup}
use Rattle.model.specs.Step.{State}
use Rattle.model.specs.Dispatch.{rank, foremost, is_idle, stands}
use Rattle.command.proofs.Tests.{none_some, true_false, eqb_cases}
use Rattle.model.proofs.Chain.Invariant.{at}

-- no thread up to the largest worker count has a larger rank than thread t
abbrev pub Foremost : Setup → State → ℕ → Type 0
Foremost o s t = (u : ℕ) → u ≤ o.largest → rank s.graph.seq (s.threads u) ≤ rank s.graph.seq (s.threads t)

-- ---- laws

-- a thread that stands on b has rank two more than the sequence number of b
pub rank_at_lem : (seq : ℕ → ℕ) (thread : Thread) (b : ℕ) → at thread ≡ some b → rank seq thread ≡ suc (suc (seq b))
unfolding rank
rank_at_lem seq Idle b e = absurd (none_some none refl e)
rank_at_lem seq (Loading a x) b e = ap (λ z. suc (suc (seq z))) cc
rank_at_lem seq (Searching a) b e = ap (λ z. suc (suc (seq z))) cc
rank_at_lem seq (Holding x) b e = absurd (none_some none refl e)
rank_at_lem seq (LookedUp x f) b e = absurd (none_some none refl e)
rank_at_lem seq (Written x) b e = absurd (none_some none refl e)
rank_at_lem seq (Walking a x) b e = ap (λ z. suc (suc (seq z))) cc
rank_at_lem seq (Clearing a x) b e = ap (λ z. suc (suc (seq z))) cc

-- a thread of rank 0 is idle
pub rank_idle : (seq : ℕ → ℕ) (thread : Thread) → rank seq thread ≡ 0 → thread ≡ Idle
unfolding rank
rank_idle seq Idle e = refl
rank_idle seq (Loading a x) e = absurd (omega arith)
rank_idle seq (Searching a) e = absurd (omega arith)
rank_idle seq (Holding x) e = absurd (omega arith)
rank_idle seq (LookedUp x f) e = absurd (omega arith)
rank_idle seq (Written x) e = absurd (omega arith)
rank_idle seq (Walking a x) e = absurd (omega arith)
rank_idle seq (Clearing a x) e = absurd (omega arith)

-- the foremost thread is one of 0 to n, and none of these has a larger rank
pub foremost_within : (rank : ℕ → ℕ) (n : ℕ) → foremost rank n ≤ n
unfolding foremost
foremost_within rank zero = omega arith
foremost_within rank (suc n) = go (ltb (rank (foremost rank n)) (rank (suc n))) (foremost_within rank n)
  where
    go : (b : Bool) → foremost rank n ≤ n → cond b (suc n) (foremost rank n) ≤ suc n
    go true h = omega arith
    go false h = omega arith

pub foremost_largest : (rank : ℕ → ℕ) (n u : ℕ) → u ≤ n → rank u ≤ rank (foremost rank n)
unfolding foremost
foremost_largest rank zero u le = let z : u ≡ 0 = omega arith in rw z (omega arith)
foremost_largest rank (suc n) u le = go (ltb (rank (foremost rank n)) (rank (suc n))) refl (eqb_cases u (suc n)) (foremost_largest rank n u)
  where
    go : (b : Bool) → ltb (rank (foremost rank n)) (rank (suc n)) ≡ b → ((u ≡ suc n) × (eqb u (suc n) ≡ true)) ⊎ ((u ≡ suc n → ⊥) × (eqb u (suc n) ≡ false)) →
        (u ≤ n → rank u ≤ rank (foremost rank n)) → rank u ≤ rank (cond b (suc n) (foremost rank n))
    go true e (inl h) ih = rw h.0 (omega arith)
    go true e (inr h) ih = let l = ltb-true (rank (foremost rank n)) (rank (suc n)) e in let d = h.0 in let a = ih (omega arith) in omega arith
    go false e (inl h) ih = let l = ltb-false (rank (foremost rank n)) (rank (suc n)) e in rw h.0 (omega arith)
    go false e (inr h) ih = let d = h.0 in ih (omega arith)

-- a thread that passes the test of idle ones is idle, and one that fails it has a rank
pub idle_is : (thread : Thread) → is_idle thread ≡ true → thread ≡ Idle
unfolding is_idle
idle_is thread e = rank_idle (λ n. 0) thread (eqb-true _ 0 e)

pub busy_rank : (seq : ℕ → ℕ) (thread : Thread) → is_idle thread ≡ false → 1 ≤ rank seq thread
unfolding is_idle rank
busy_rank seq Idle e = absurd (true_false true refl e)
busy_rank seq (Loading a x) e = omega arith
busy_rank seq (Searching a) e = omega arith
busy_rank seq (Holding x) e = omega arith
busy_rank seq (LookedUp x f) e = omega arith
busy_rank seq (Written x) e = omega arith
busy_rank seq (Walking a x) e = omega arith
busy_rank seq (Clearing a x) e = omega arith

-- and so has one that stands
pub standing_rank : (seq : ℕ → ℕ) (thread : Thread) → stands thread ≡ true → 1 ≤ rank seq thread
unfolding stands rank
standing_rank seq Idle e = absurd (true_false false e refl)
standing_rank seq (Loading a x) e = omega arith
standing_rank seq (Searching a) e = omega arith
standing_rank seq (Holding x) e = omega arith
standing_rank seq (LookedUp x f) e = omega arith
standing_rank seq (Written x) e = omega arith
standing_rank seq (Walking a x) e = omega arith
standing_rank seq (Clearing a x) e = omega arith

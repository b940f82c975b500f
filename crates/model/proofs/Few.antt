-- Different numbers from 1 to n are at most n. Assumes nothing.
use Rattle.std.specs.Prelude.{ℕ, zero, suc, ◌≤◌, ◌≡◌, cond, List, [], ◌∷◌, length, eqb}
use Rattle.std.proofs.Common.{arith, eqb-true}
use Rattle.std.proofs.lemmas.Bool.{eqb-false}
use Rattle.command.proofs.Tests.{cond_cases}

-- every number has the property
abbrev pub Each : (ℕ → Type 0) → List ℕ → Type 0
Each P [] = Unit {0}
Each P (n ∷ ns) = P n × Each P ns

-- a property that follows from another for each number follows for all
pub each_map : {P Q : ℕ → Type 0} → ((n : ℕ) → P n → Q n) → (ns : List ℕ) → Each P ns → Each Q ns
each_map f [] h = tt
each_map f (n ∷ ns) h = (f n h.0, each_map f ns h.1)

-- and one that follows from two
pub each_both : {P Q R : ℕ → Type 0} → ((n : ℕ) → P n → Q n → R n) → (ns : List ℕ) → Each P ns → Each Q ns → Each R ns
each_both f [] p q = tt
each_both f (n ∷ ns) p q = (f n p.0 q.0, each_both f ns p.1 q.1)

-- no number of the list is there twice
abbrev pub Different : List ℕ → Type 0
Different [] = Unit {0}
Different (n ∷ ns) = Each (λ m. n ≡ m → ⊥) ns × Different ns

-- the list without a number, where it stands first
abbrev without : ℕ → List ℕ → List ℕ
without v [] = []
without v (n ∷ ns) = cond (eqb n v) ns (n ∷ without v ns)

-- every number but that one stays
without_length : (v : ℕ) (ns : List ℕ) → length ns ≤ suc (length (without v ns))
without_length v [] = omega arith
without_length v (n ∷ ns) =
    let rest = without_length v ns in
    cond_cases (λ (l : List ℕ). suc (length ns) ≤ suc (length l)) (eqb n v) (λ _. omega arith) (λ _. omega arith)

-- and none comes in
without_each : (P : ℕ → Type 0) (v : ℕ) (ns : List ℕ) → Each P ns → Each P (without v ns)
without_each P v [] h = tt
without_each P v (n ∷ ns) h = cond_cases (Each P) (eqb n v) (λ _. h.1) (λ _. (h.0, without_each P v ns h.1))

without_different : (v : ℕ) (ns : List ℕ) → Different ns → Different (without v ns)
without_different v [] h = tt
without_different v (n ∷ ns) h =
    cond_cases Different (eqb n v) (λ _. h.1) (λ _. (without_each (λ m. n ≡ m → ⊥) v ns h.0, without_different v ns h.1))

-- of different numbers that one is gone
without_gone : (v : ℕ) (ns : List ℕ) → Different ns → Each (λ m. m ≡ v → ⊥) (without v ns)
without_gone v [] h = tt
without_gone v (n ∷ ns) h =
    cond_cases (Each (λ m. m ≡ v → ⊥)) (eqb n v)
    (λ t. let e = eqb-true n v t in each_map (λ m d q. d (omega arith)) ns h.0)
    (λ t. (eqb-false n v t, without_gone v ns h.1))

-- different numbers from 1 to n are at most n
pub few : (n : ℕ) (ns : List ℕ) → Different ns → Each (λ m. (1 ≤ m) × (m ≤ n)) ns → length ns ≤ n
few zero [] d h = omega arith
few zero (m ∷ ns) d h = absurd (omega (arith, h.0.0, h.0.1))
few (suc n) ns d h =
    let less = few n (without (suc n) ns) (without_different (suc n) ns d)
    (each_both (λ m p q. let low = p.0 in let high = p.1 in (low, omega (arith, q))) (without (suc n) ns)
    (without_each (λ m. (1 ≤ m) × (m ≤ suc n)) (suc n) ns h) (without_gone (suc n) ns d)) in
    omega (arith, without_length (suc n) ns)

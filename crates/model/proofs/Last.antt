-- The last checkpoint of a set of commands. Assumes nothing.
use Rattle.std.specs.Prelude.{ℕ, zero, suc, ◌+◌, ◌<◌, ◌≡◌, refl, Bool, true, false, cond, ◌&&◌, List, [], ◌∷◌, ◌⊎◌, length}
use Rattle.std.proofs.Common.{add-zero, arith, sym, ◌∙◌, inl, inr, ⊎_elim}
use Rattle.std.proofs.Math.Bool.{and-eq-true_iff}
use Rattle.std.proofs.Math.Option.{none, some}
use Rattle.std.proofs.Math.ListN.{get_elem?}
use Rattle.command.specs.declared.Command.{Command}
use Rattle.command.specs.Dependent.{is_checkpoint}
use Rattle.model.specs.Moment.{last_from}
use Rattle.command.proofs.Tests.{none_some}

-- sets that have the same checkpoints of the list have the same last one
pub last_agrees : (W U : ℕ → Bool) (i : ℕ) (cs : List Command) (last : ℕ)
    → ((n : ℕ) (c : Command) → get_elem? cs n ≡ some c → W (i + n) && is_checkpoint c.kind ≡ U (i + n) && is_checkpoint c.kind) → last_from W i cs last ≡ last_from U i cs last
unfolding last_from
last_agrees W U i [] last same = refl
last_agrees W U i (c ∷ cs) last same =
    let first : W i && is_checkpoint c.kind ≡ U i && is_checkpoint c.kind = let e : i + 0 ≡ i = omega arith in rw e at (same 0 c refl) in
    rw first (last_agrees W U (suc i) cs (cond (U i && is_checkpoint c.kind) i last) (λ n b f. let e : i + suc n ≡ suc i + n = omega arith in rw e at (same (suc n) b f)))

-- of no command there is none
pub last_none : (W : ℕ → Bool) (i : ℕ) (cs : List Command) (last : ℕ) → ((n : ℕ) → n < length cs → W (i + n) ≡ false) → last_from W i cs last ≡ last
unfolding last_from
last_none W i [] last out = refl
last_none W i (c ∷ cs) last out =
    let first : W i ≡ false = let e : i + 0 ≡ i = omega arith in rw e at (out 0 (omega arith)) in
    rw first (last_none W (suc i) cs last (λ n h. let e : i + suc n ≡ suc i + n = omega arith in rw e at (out (suc n) (omega arith))))

-- a checkpoint of the set with none of the set behind it is the last
pub last_is : (W : ℕ → Bool) (i : ℕ) (cs : List Command) (last n : ℕ) (c : Command) → get_elem? cs n ≡ some c → is_checkpoint c.kind ≡ true → W (i + n) ≡ true
    → ((m : ℕ) → n < m → m < length cs → W (i + m) ≡ false) → last_from W i cs last ≡ i + n
unfolding last_from
last_is W i [] last n c e k w out = absurd (none_some none refl e)
last_is W i (b ∷ cs) last zero c e k w out =
    let q : b ≡ c = cc in
    let z : i + 0 ≡ i = omega arith in
    let on : W i ≡ true = rw z at w in
    rw (q, on, k, z) (last_none W (suc i) cs i (λ n h. let f : i + suc n ≡ suc i + n = omega arith in rw f at (out (suc n) (omega arith) (omega arith))))
last_is W i (b ∷ cs) last (suc n) c e k w out =
    let f : (m : ℕ) → i + suc m ≡ suc i + m = λ m. omega arith in
    rw (f n) (last_is W (suc i) cs (cond (W i && is_checkpoint b.kind) i last) n c e k (rw (f n) at w) (λ m l h. rw (f m) at (out (suc m) (omega arith) (omega arith))))

-- a checkpoint of the set stands at the place
abbrev pub Stands : (ℕ → Bool) → ℕ → List Command → ℕ → Type 0
Stands W i cs k = (n : ℕ) × (c : Command) × (get_elem? cs n ≡ some c) × (k ≡ i + n) × (W k ≡ true) × (is_checkpoint c.kind ≡ true)

-- the last one is none, or stands there
pub last_stands : (W : ℕ → Bool) (i : ℕ) (cs : List Command) (last : ℕ) → (last_from W i cs last ≡ last) ⊎ Stands W i cs (last_from W i cs last)
unfolding last_from
last_stands W i [] last = inl refl
last_stands W i (c ∷ cs) last = first (W i && is_checkpoint c.kind) refl (λ n. last_stands W (suc i) cs n)
  where
    tail : (k : ℕ) → Stands W (suc i) cs k → Stands W i (c ∷ cs) k
    tail k h = let f : suc i + h.0 ≡ i + suc h.0 = omega arith in (suc h.0, h.1, h.2, h.3 ∙ f, h.4, h.5)

    first : (b : Bool) → W i && is_checkpoint c.kind ≡ b → ((n : ℕ) → (last_from W (suc i) cs n ≡ n) ⊎ Stands W (suc i) cs (last_from W (suc i) cs n))
        → (last_from W (suc i) cs (cond b i last) ≡ last) ⊎ Stands W i (c ∷ cs) (last_from W (suc i) cs (cond b i last))
    first true e rest =
        let both = (and-eq-true_iff (W i) (is_checkpoint c.kind)).0 e in
        ⊎_elim (λ h. inr (rw h (0, c, refl, sym (add-zero i), both.0, both.1))) (λ h. inr (tail _ h)) (rest i)
    first false e rest = ⊎_elim (λ h. inl h) (λ h. inr (tail _ h)) (rest last)

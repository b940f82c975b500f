-- The laws of `upd`: the only facts about an updated function that the proofs use. Assumes nothing.
use Rattle.std.specs.Prelude.{ℕ, ◌≡◌, refl, ◌⊎◌}
use Rattle.std.proofs.Common.{sym, ap, ◌∙◌, inl, inr, ⊎_elim, eq-eqb, ne_eqb}
use Rattle.std.proofs.Math.Path.{fun_ext}
use Rattle.model.specs.Upd.{upd}
use Rattle.command.proofs.Tests.{eqb_cases}

module _ {ℓ} {A : Type ℓ} (f : ℕ → A) (i : ℕ) (v : A) where
  pub upd_same : upd f i v i ≡ v
  unfolding upd
  upd_same = rw (eq-eqb i i refl)

  pub upd_other : (j : ℕ) → (j ≡ i → ⊥) → upd f i v j ≡ f j
  unfolding upd
  upd_other j h = rw (ne_eqb j i h)

  pub upd_at : (j : ℕ) → j ≡ i → upd f i v j ≡ v
  unfolding upd
  upd_at j h = rw (eq-eqb j i h)

  pub upd_cases : (j : ℕ) → ((j ≡ i) × (upd f i v j ≡ v)) ⊎ ((j ≡ i → ⊥) × (upd f i v j ≡ f j))
  upd_cases j = ⊎_elim (λ h. inl (h.0, upd_at j h.0)) (λ h. inr (h.0, upd_other j h.0)) (eqb_cases j i)

-- a function of an updated function is updated by the function's value
pub upd_map {ℓ} : {A B : Type ℓ} (p : A → B) (f : ℕ → A) (i : ℕ) (v : A) → (λ (j : ℕ). p (upd f i v j)) ≡ upd (λ (j : ℕ). p (f j)) i (p v)
upd_map p f i v = fun_ext (λ j. ⊎_elim (λ h. rw (upd_at f i v j h.0, upd_at (λ (k : ℕ). p (f k)) i (p v) j h.0)) (λ h. rw (upd_other f i v j h.0, upd_other (λ (k : ℕ). p (f k)) i (p v) j h.0)) (eqb_cases j i))

-- an update by the value that is there changes nothing
pub upd_id {ℓ} : {A : Type ℓ} (f : ℕ → A) (i : ℕ) (v : A) → v ≡ f i → upd f i v ≡ f
upd_id f i v h = fun_ext (λ j. ⊎_elim (λ e. e.1 ∙ h ∙ ap f (sym e.0)) (λ e. e.1) (upd_cases f i v j))

-- of two updates at one place the later counts
pub upd_upd {ℓ} : {A : Type ℓ} (f : ℕ → A) (i : ℕ) (v w : A) → upd (upd f i v) i w ≡ upd f i w
upd_upd f i v w =
    fun_ext (λ j. ⊎_elim (λ h. h.1 ∙ sym (upd_at f i w j h.0)) (λ h. h.1 ∙ (upd_other f i v j h.0 ∙ sym (upd_other f i w j h.0))) (upd_cases (upd f i v) i w j))

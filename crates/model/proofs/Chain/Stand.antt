-- Entering at the head and leaving a node: the threads stand right again. Assumes nothing.
use Rattle.std.specs.Prelude.{ℕ, ◌≡◌, Bool, true, false}
use Rattle.std.proofs.Common.{sym, ap, ◌∙◌, inl, ⊎_elim}
use Rattle.std.proofs.Math.Option.{Option, none, some}
use Rattle.model.specs.Upd.{upd}
use Rattle.command.proofs.Tests.{true_false, none_some}
use Rattle.model.proofs.Upd.{upd_same, upd_other, upd_at, upd_cases}
use Rattle.model.proofs.Chain.Invariant.{On, Standing}

module _ {linked locked : ℕ → Bool} {at : ℕ → Option ℕ} (k : Standing linked locked at) (t : ℕ) where
  -- a thread that stands nowhere locks the head, which is not locked
  pub entered : at t ≡ none → locked 0 ≡ false → Standing linked (upd locked 0 true) (upd at t (some 0))
  entered nowhere open_head = record { on = on; alone = alone; locks = locks; held = held }
    where
      head_alone : (u : ℕ) → at u ≡ some 0 → ⊥
      head_alone u e = true_false (locked 0) (k.locks u 0 e) open_head

      on : (u x : ℕ) → upd at t (some 0) u ≡ some x → On linked x
      on u x e = ⊎_elim (λ h. inl (cc)) (λ h. k.on u x (sym h.1 ∙ e)) (upd_cases at t (some 0) u)

      alone : (u w x : ℕ) → upd at t (some 0) u ≡ some x → upd at t (some 0) w ≡ some x → u ≡ w
      alone u w x e f = ⊎_elim (λ h. ⊎_elim (λ j. cc) (λ j. absurd (head_alone w (let q : x ≡ 0 = cc in cc))) (upd_cases at t (some 0) w)) (λ h. ⊎_elim (λ j. absurd (head_alone u (let q : x ≡ 0 = cc in cc))) (λ j. k.alone u w x (sym h.1 ∙ e) (sym j.1 ∙ f)) (upd_cases at t (some 0) w)) (upd_cases at t (some 0) u)

      locks : (u x : ℕ) → upd at t (some 0) u ≡ some x → upd locked 0 true x ≡ true
      locks u x e = ⊎_elim (λ h. upd_at locked 0 true x (cc)) (λ h. ⊎_elim (λ j. j.1) (λ j. j.1 ∙ k.locks u x (sym h.1 ∙ e)) (upd_cases locked 0 true x)) (upd_cases at t (some 0) u)

      held : (x : ℕ) → upd locked 0 true x ≡ true → (u : ℕ) × (upd at t (some 0) u ≡ some x)
      held x e = ⊎_elim (λ h. (t, upd_same at t (some 0) ∙ ap some (sym h.0))) (λ h. let w = k.held x (sym h.1 ∙ e) in (w.0, upd_other at t (some 0) w.0 (λ q. none_some (at t) nowhere (ap at (sym q) ∙ w.1)) ∙ w.1)) (upd_cases locked 0 true x)

  -- a thread unlocks the node that it stands on and stands nowhere
  pub left : (a : ℕ) → at t ≡ some a → Standing linked (upd locked a false) (upd at t none)
  left a here = record { on = on; alone = alone; locks = locks; held = held }
    where
      -- whoever still stands is another thread, where it stood
      still : (u x : ℕ) → upd at t none u ≡ some x → (u ≡ t → ⊥) × (at u ≡ some x)
      still u x e = ⊎_elim (λ h. absurd (none_some (upd at t none u) h.1 e)) (λ h. (h.0, sym h.1 ∙ e)) (upd_cases at t none u)

      on : (u x : ℕ) → upd at t none u ≡ some x → On linked x
      on u x e = k.on u x (still u x e).1

      alone : (u w x : ℕ) → upd at t none u ≡ some x → upd at t none w ≡ some x → u ≡ w
      alone u w x e f = k.alone u w x (still u x e).1 (still w x f).1

      locks : (u x : ℕ) → upd at t none u ≡ some x → upd locked a false x ≡ true
      locks u x e = upd_other locked a false x (λ q. (still u x e).0 (k.alone u t x (still u x e).1 (here ∙ ap some (sym q)))) ∙ k.locks u x (still u x e).1

      held : (x : ℕ) → upd locked a false x ≡ true → (u : ℕ) × (upd at t none u ≡ some x)
      held x e = ⊎_elim (λ h. absurd (true_false (upd locked a false x) e h.1)) (λ h. let w = k.held x (sym h.1 ∙ e) in (w.0, upd_other at t none w.0 (λ q. h.0 (let r : at t ≡ some x = ap at (sym q) ∙ w.1 in cc)) ∙ w.1)) (upd_cases locked a false x)

-- Stepping on: a thread that stands on a node locks the next one and unlocks the old. The loader, the searcher, the walker and the
-- clearer share it. Assumes nothing.
use Rattle.std.specs.Prelude.{ℕ, ◌≡◌, Bool, true, false}
use Rattle.std.proofs.Common.{sym, ap, ◌∙◌, inr, ⊎_elim}
use Rattle.std.proofs.Math.Option.{Option, some}
use Rattle.model.specs.Upd.{upd}
use Rattle.command.proofs.Tests.{true_false}
use Rattle.model.proofs.Upd.{upd_same, upd_other, upd_at, upd_cases}
use Rattle.model.proofs.Chain.Invariant.{On, Order, Standing}

module _ {size loaded count : ℕ} {seq next : ℕ → ℕ} {linked locked : ℕ → Bool} {at : ℕ → Option ℕ}
    (order : Order size loaded count seq linked next) (standing : Standing linked locked at) (t a : ℕ) (here : at t ≡ some a)
    (more : next a ≡ 0 → ⊥) (Open-next : locked (next a) ≡ false) where
  -- the next node is another one than the node stood on, which is locked
  pub next_other : next a ≡ a → ⊥
  next_other e = true_false (locked a) (standing.locks t a here) (ap locked (sym e) ∙ Open-next)

  -- nobody stands on the next node
  pub next_alone : (u : ℕ) → at u ≡ some (next a) → ⊥
  next_alone u e = true_false (locked (next a)) (standing.locks u (next a) e) Open-next

  pub stepped : Standing linked (upd (upd locked (next a) true) a false) (upd at t (some (next a)))
  stepped = record { on = on; alone = alone; locks = locks; held = held }
    where
      on : (u x : ℕ) → upd at t (some (next a)) u ≡ some x → On linked x
      on u x e = ⊎_elim (λ h. inr (let q : x ≡ next a = cc in rw q (order.next_linked a (standing.on t a here) more))) (λ h. standing.on u x (sym h.1 ∙ e)) (upd_cases at t (some (next a)) u)

      -- a thread other than t that stood on x still does
      other : (u x : ℕ) → (u ≡ t → ⊥) → at u ≡ some x → (x ≡ a → ⊥) × (x ≡ next a → ⊥)
      other u x n e = (λ h. n (standing.alone u t x e (here ∙ ap some (sym h))), λ h. next_alone u (e ∙ ap some h))

      alone : (u w x : ℕ) → upd at t (some (next a)) u ≡ some x → upd at t (some (next a)) w ≡ some x → u ≡ w
      alone u w x e f = ⊎_elim (λ h. ⊎_elim (λ k. cc) (λ k. absurd (next_alone w (let q : x ≡ next a = cc in cc))) (upd_cases at t (some (next a)) w)) (λ h. ⊎_elim (λ k. absurd (next_alone u (let q : x ≡ next a = cc in cc))) (λ k. standing.alone u w x (sym h.1 ∙ e) (sym k.1 ∙ f)) (upd_cases at t (some (next a)) w)) (upd_cases at t (some (next a)) u)

      locks : (u x : ℕ) → upd at t (some (next a)) u ≡ some x → upd (upd locked (next a) true) a false x ≡ true
      locks u x e = ⊎_elim (λ h. let q : x ≡ next a = cc in upd_other (upd locked (next a) true) a false x (λ k. next_other (sym q ∙ k)) ∙ upd_at locked (next a) true x q) (λ h. let f : at u ≡ some x = sym h.1 ∙ e in upd_other (upd locked (next a) true) a false x (other u x h.0 f).0 ∙ (upd_other locked (next a) true x (other u x h.0 f).1 ∙ standing.locks u x f)) (upd_cases at t (some (next a)) u)

      held : (x : ℕ) → upd (upd locked (next a) true) a false x ≡ true → (u : ℕ) × (upd at t (some (next a)) u ≡ some x)
      held x e = ⊎_elim (λ h. absurd (true_false (upd (upd locked (next a) true) a false x) e h.1)) (λ h. ⊎_elim (λ k. (t, upd_same at t (some (next a)) ∙ ap some (sym k.0))) (λ k. let w = standing.held x (sym k.1 ∙ (sym h.1 ∙ e)) in (w.0, upd_other at t (some (next a)) w.0 (λ q. h.0 (let r : at t ≡ some x = ap at (sym q) ∙ w.1 in cc)) ∙ w.1)) (upd_cases locked (next a) true x)) (upd_cases (upd locked (next a) true) a false x)

-- What a step keeps: a thread's new state changes only what it says anew, and a group of clauses that speaks of where threads stand goes
-- on holding when a thread moves that it does not speak of. Assumes nothing.
use Rattle.std.specs.Prelude.{ℕ, suc, ◌≡◌, Bool}
use Rattle.std.proofs.Common.{sym, ap, ◌∙◌, inl, inr, ⊎_elim}
use Rattle.std.proofs.Math.Option.{Option, none, some}
use Rattle.model.specs.Upd.{upd}
use Rattle.model.specs.Setup.{Setup}
use Rattle.command.proofs.Tests.{none_some}
use Rattle.model.proofs.Upd.{upd_cases, upd_map, upd_id}
use Rattle.model.proofs.Chain.Invariant.{Pending, Waited, Sets, Clears}

-- a projection that the new state of thread t leaves as it was is the same for every thread
pub kept : {A B : Type 0} (p : A → B) (f : ℕ → A) (t : ℕ) (v : A) → p v ≡ p (f t) → ◌≡◌ {A = ℕ → B} (λ (u : ℕ). p (upd f t v u)) (λ (u : ℕ). p (f u))
kept p f t v e = upd_map p f t v ∙ upd_id (λ (u : ℕ). p (f u)) t (p v) e

-- at two functions that agree on the threads that clear, the same nodes are pending
module _ (o : Setup) (seq : ℕ → ℕ) (linked : ℕ → Bool) (clears at at' : ℕ → Option ℕ)
    (same : (u x : ℕ) → clears u ≡ some x → at u ≡ at' u) where
  pub pending_kept : (y p : ℕ) → Pending seq linked at clears y p → Pending seq linked at' clears y p
  pending_kept y p =
      ⊎_elim inl (λ w. inr (w.0, w.1, w.2, sym (same w.0 y w.2) ∙ w.3, w.4))

  pub waited_kept : (x y b p : ℕ) → Waited o seq linked at clears x y b p → Waited o seq linked at' clears x y b p
  waited_kept x y b p w =
      record { used = w.used; earlier = w.earlier; dependent = w.dependent; pending = pending_kept y p w.pending }

-- the sets are right as long as the threads that clear or load stay where they stand
pub sets_kept : (o : Setup) (seq : ℕ → ℕ) (linked executing : ℕ → Bool) (waits : ℕ → ℕ → Bool) (at at' loads clears : ℕ → Option ℕ) →
    ((u x : ℕ) → clears u ≡ some x → at u ≡ at' u) → ((u x : ℕ) → loads u ≡ some x → at u ≡ at' u) →
    Sets o seq linked executing waits at loads clears → Sets o seq linked executing waits at' loads clears
sets_kept o seq linked executing waits at at' loads clears cl ld k = record {
  unused_empty = k.unused_empty;
  executing_empty = k.executing_empty;
  linked_sound = λ x y h w. waited_kept o seq linked clears at at' cl x y (seq x) (seq x) (k.linked_sound x y h w);
  linked_complete = λ x y h w. k.linked_complete x y h (waited_kept o seq linked clears at' at (λ u z e. sym (cl u z e)) x y (seq x) (seq x) w);
  loading_sound = λ t x l y h e w. waited_kept o seq linked clears at at' cl x y (suc (seq l)) (seq l) (k.loading_sound t x l y h (ld t x h ∙ e) w);
  loading_complete = λ t x l y h e w. k.loading_complete t x l y h (ld t x h ∙ e) (waited_kept o seq linked clears at' at (λ u z f. sym (cl u z f)) x y (suc (seq l)) (seq l) w);
}

pub clears_kept : (seq : ℕ → ℕ) (linked executing : ℕ → Bool) (clears at at' : ℕ → Option ℕ) → ((u x : ℕ) → clears u ≡ some x → at u ≡ at' u) →
    Clears seq linked executing clears at → Clears seq linked executing clears at'
clears_kept seq linked executing clears at at' same k = record {
  out = k.out;
  used = k.used;
  own_executing = k.own_executing;
  alone = k.alone;
  past = λ t x a z h e. k.past t x a z h (same t x h ∙ e);
}

-- where the moved thread t neither clears nor loads, whoever does stays where it stands
pub stays : (at p : ℕ → Option ℕ) (t : ℕ) (v : Option ℕ) → p t ≡ none → (u x : ℕ) → p u ≡ some x → at u ≡ upd at t v u
stays at p t v n u x e =
    ⊎_elim (λ h. absurd (none_some (p t) n (ap p (sym h.0) ∙ e))) (λ h. sym h.1) (upd_cases at t v u)

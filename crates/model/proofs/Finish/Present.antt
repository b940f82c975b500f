-- The nodes that the measure counts: those of the chain and the one being loaded, and what linking and unlinking changes. Assumes nothing.
use Rattle.std.specs.Prelude.{ℕ, ◌≡◌, refl, Bool, true, false, ◌||◌, ◌⊎◌, eqb}
use Rattle.std.proofs.Common.{sym, ap, ◌∙◌, inl, inr, ⊎_elim, eq-eqb, ne_eqb, eqb-true}
use Rattle.std.proofs.Math.Path.{fun_ext}
use Rattle.std.proofs.Math.Bool.{or-true}
use Rattle.std.proofs.Math.Option.{some}
use Rattle.node_set.specs.declared.Node.{Node}
use Rattle.model.specs.declared.Thread.{Thread}
use Rattle.model.specs.declared.Thread.TheVariants.{Idle, Loading, Searching, Holding, LookedUp, Written, Walking, Clearing}
use Rattle.model.specs.Upd.{upd}
use Rattle.command.proofs.Tests.{fails, true_false}
use Rattle.model.proofs.Upd.{upd_same, upd_cases}
use Rattle.model.proofs.Chain.Invariant.{loads}

-- whether a node is the one that the loader loads
unfoldable pub is_loaded : Thread → ℕ → Bool
is_loaded Idle z = false
is_loaded (Loading a x) z = eqb z x.0
is_loaded (Searching a) z = false
is_loaded (Holding x) z = false
is_loaded (LookedUp x f) z = false
is_loaded (Written x) z = false
is_loaded (Walking a x) z = false
is_loaded (Clearing a x) z = false

-- a node is present if it is in the chain, or is the one being loaded: so linking it changes nothing
unfoldable pub present : Thread → (ℕ → Bool) → ℕ → Bool
present loader linked z = linked z || is_loaded loader z

-- ---- laws

-- the node being loaded, by the two ways to say it
is_loaded_loads : (thread : Thread) (z : ℕ) → is_loaded thread z ≡ true → loads thread ≡ some z
unfolding is_loaded
is_loaded_loads Idle z e = absurd (true_false false e refl)
is_loaded_loads (Loading a x) z e = ap some (sym (eqb-true z x.0 e))
is_loaded_loads (Searching a) z e = absurd (true_false false e refl)
is_loaded_loads (Holding x) z e = absurd (true_false false e refl)
is_loaded_loads (LookedUp x f) z e = absurd (true_false false e refl)
is_loaded_loads (Written x) z e = absurd (true_false false e refl)
is_loaded_loads (Walking a x) z e = absurd (true_false false e refl)
is_loaded_loads (Clearing a x) z e = absurd (true_false false e refl)

-- one of two tests
or_cases : (a b : Bool) → (a || b) ≡ true → (a ≡ true) ⊎ (b ≡ true)
or_cases true b h = inl refl
or_cases false b h = inr h

-- a present node is in the chain or being loaded
pub present_cases : (loader : Thread) (linked : ℕ → Bool) (z : ℕ) → present loader linked z ≡ true → (linked z ≡ true) ⊎ (loads loader ≡ some z)
unfolding present
present_cases loader linked z h = ⊎_elim inl (λ e. inr (is_loaded_loads loader z e)) (or_cases (linked z) (is_loaded loader z) h)

-- a node of the chain is present, and so is the node being loaded
pub linked_present : (loader : Thread) (linked : ℕ → Bool) (z : ℕ) → linked z ≡ true → present loader linked z ≡ true
unfolding present
linked_present loader linked z h = rw h

pub loading_present : (linked : ℕ → Bool) (a x : Node) → present (Loading a x) linked x.0 ≡ true
unfolding present is_loaded
loading_present linked a x = rw (eq-eqb x.0 x.0 refl, or-true (linked x.0))

-- linking the node being loaded changes no node's presence
pub linking_same : (linked : ℕ → Bool) (a x : Node) → present Idle (upd linked x.0 true) ≡ present (Loading a x) linked
unfolding present is_loaded
linking_same linked a x = fun_ext (λ z. ⊎_elim (λ e. rw (e.1, eq-eqb z x.0 e.0, or-true (linked z))) (λ e. rw (e.1, ne_eqb z x.0 e.0)) (upd_cases linked x.0 true z))

-- unlinking x makes no node present, and x absent unless it is being loaded
pub unlinked_present : (loader : Thread) (linked : ℕ → Bool) (x z : ℕ) → present loader (upd linked x false) z ≡ true → present loader linked z ≡ true
unfolding present
unlinked_present loader linked x z h = ⊎_elim (λ e. let k : is_loaded loader z ≡ true = ap (λ b. b || is_loaded loader z) (sym e.1) ∙ h in rw (k, or-true (linked z))) (λ e. ap (λ b. b || is_loaded loader z) (sym e.1) ∙ h) (upd_cases linked x false z)

pub unlinked_gone : (loader : Thread) (linked : ℕ → Bool) (x : ℕ) → (loads loader ≡ some x → ⊥) → present loader (upd linked x false) x ≡ false
unfolding present
unlinked_gone loader linked x h = rw (upd_same linked x false) (fails (is_loaded loader x) (λ e. h (is_loaded_loads loader x e)))

-- Along a schedule: the invariant is kept, and what the ghost says is answered and removed is what the schedule wrote and returned. Assumes nothing.
use Rattle.std.specs.Prelude.{ℕ, ◌≤◌, ◌≡◌, refl, Bool, cond, ◌||◌, length, leb}
use Rattle.std.proofs.Common.{arith, sym, ◌∙◌, ne_eqb, leb-true}
use Rattle.std.proofs.Math.Bool.{true, false, and-eq-true_iff}
use mathlib.Core.List.{List, [], ◌∷◌, ◌++◌}
use Rattle.std.proofs.Math.Logic.{⊎_elim}
use Rattle.std.proofs.Math.Dec.{eqb}
use Rattle.model.specs.declared.Thread.{Thread}
use Rattle.model.specs.declared.Thread.TheVariants.{Idle, Loading, Searching, Holding, LookedUp, Written, Walking, Clearing}
use Rattle.model.specs.Upd.{upd}
use Rattle.model.specs.Setup.{Setup}
use Rattle.model.specs.Service.{in_one_step}
use Rattle.model.specs.Step.{State, command_of, step, steps}
use Rattle.model.specs.Statement.{Accepted, all_within, writes, returns, wrote, removed}
use Rattle.command.proofs.Tests.{true_false, eqb_cases}
use Rattle.model.proofs.Upd.{upd_at, upd_other}
use Rattle.model.proofs.Chain.Invariant.{Ghost, Inv, is_loader}
use Rattle.model.proofs.Chain.Ghost.{ghost_step, ghost_steps, worker_ghost, loader_ghost, taken, linking, writing, returning}
use Rattle.model.proofs.Chain.Keep.{keeps}

-- ---- two schedules one after the other

pub steps_append : (o : Setup) (l m : List ℕ) (s : State) → steps o (l ++ m) s ≡ steps o m (steps o l s)
unfolding steps
steps_append o [] m s = refl
steps_append o (t ∷ l) m s = steps_append o l m (step o t s)

pub ghost_steps_append : (o : Setup) (l m : List ℕ) (s : State) (g : Ghost) → ghost_steps o (l ++ m) s g ≡ ghost_steps o m (steps o l s) (ghost_steps o l s g)
unfolding steps ghost_steps
ghost_steps_append o [] m s g = refl
ghost_steps_append o (t ∷ l) m s g = ghost_steps_append o l m (step o t s) (ghost_step o t s g)

pub within_append : (workers : ℕ) (l m : List ℕ) → all_within workers l ≡ true → all_within workers m ≡ true → all_within workers (l ++ m) ≡ true
unfolding all_within
within_append workers [] m h k = k
within_append workers (t ∷ l) m h k =
    let e = (and-eq-true_iff (leb t workers) (all_within workers l)).0 h in
    rw e.0 (within_append workers l m e.1 k)

-- ---- one step: what it adds to the answered and the removed commands

-- a flag that is set at c is the old one, or c itself
set_or : (f : ℕ → Bool) (c d : ℕ) → upd f c true d ≡ (eqb c d || f d)
set_or f c d = ⊎_elim (λ e. rw (upd_at f c true d (sym e.0), e.1)) (λ e. rw (upd_other f c true d (λ q. e.0 (sym q)), e.1)) (eqb_cases c d)

-- the ghost h adds command w to the answered ones of g, and command r to the removed ones, as far as c shows it; command 0 is none
abbrev Tells : Ghost → ℕ → Ghost → ℕ → ℕ → Type 0
Tells g c h w r = (h.written c ≡ (eqb w c || g.written c)) × (h.removed c ≡ (eqb r c || g.removed c))

module _ (o : Setup) (s : State) (g : Ghost) (c : ℕ) (low : 1 ≤ c) where
  -- command 0 adds nothing
  zero_or : (b : Bool) → b ≡ (eqb 0 c || b)
  zero_or b = rw (ne_eqb 0 c (λ e. absurd (omega arith)))

  nothing : Tells g c g 0 0
  nothing = (zero_or (g.written c), zero_or (g.removed c))

  either : (b : Bool) (h k : Ghost) → Tells g c h 0 0 → Tells g c k 0 0 → Tells g c (cond b h k) 0 0
  either true h k p q = p
  either false h k p q = q

  -- each case of the loader's list, and of the workers'
  loader_tells : (thread : Thread) → is_loader thread ≡ true → Tells g c (loader_ghost o thread s g) (writes o thread s) (returns thread s)
  unfolding loader_ghost writes returns
  loader_tells Idle h = either (leb (length o.commands) s.graph.loaded || eqb s.graph.free 0 || s.graph.locked 0) g (taken g) nothing nothing
  loader_tells (Loading a x) h = either (eqb (s.graph.next a.0) 0) (linking x.0 true g) g nothing nothing
  loader_tells (Searching a) h = absurd (true_false false h refl)
  loader_tells (Holding x) h = absurd (true_false false h refl)
  loader_tells (LookedUp x f) h = absurd (true_false false h refl)
  loader_tells (Written x) h = absurd (true_false false h refl)
  loader_tells (Walking a x) h = absurd (true_false false h refl)
  loader_tells (Clearing a x) h = absurd (true_false false h refl)

  clearing_tells : (b : Bool) (x n : ℕ) → Tells g c (cond b (returning x n g) g) 0 (cond b n 0)
  clearing_tells true x n = (zero_or (g.written c), set_or g.removed n c)
  clearing_tells false x n = nothing

  writing_tells : (b : Bool) (n : ℕ) → Tells g c (cond b (writing n g) g) (cond b n 0) 0
  writing_tells true n = (set_or g.written n c, zero_or (g.removed c))
  writing_tells false n = nothing

  worker_tells : (thread : Thread) → Tells g c (worker_ghost o thread s g) (writes o thread s) (returns thread s)
  unfolding worker_ghost writes returns
  worker_tells Idle = nothing
  worker_tells (Loading a x) = nothing
  worker_tells (Searching a) = nothing
  worker_tells (Holding x) = writing_tells (in_one_step (command_of o s.graph x.0)) (s.graph.seq x.0)
  worker_tells (LookedUp x f) = writing_tells true (s.graph.seq x.0)
  worker_tells (Written x) = nothing
  worker_tells (Walking a x) =
      either (eqb (s.graph.next a.0) 0 || s.graph.locked (s.graph.next a.0)) g (cond (eqb (s.graph.next a.0) x.0) (linking x.0 false g) g) nothing
      (either (eqb (s.graph.next a.0) x.0) (linking x.0 false g) g nothing nothing)
  worker_tells (Clearing a x) = clearing_tells (eqb (s.graph.next a.0) 0) x.0 (s.graph.seq x.0)

  -- so each step adds the command that it writes, and the one that it returns
  step_tells : (t : ℕ) → is_loader (s.threads 0) ≡ true → Tells g c (ghost_step o t s g) (writes o (s.threads t) s) (returns (s.threads t) s)
  unfolding ghost_step
  step_tells t h = ⊎_elim (λ e. rw e.0 (loader_tells (s.threads 0) h)) (λ e. rw e.1 (worker_tells (s.threads t))) (eqb_cases t 0)

-- a sum of tests in another order
or_swap : (a b c : Bool) → (a || (b || c)) ≡ ((b || a) || c)
or_swap true true c = refl
or_swap true false c = refl
or_swap false true c = refl
or_swap false false c = refl

-- ---- a schedule
module _ (o : Setup) (accepted : Accepted o) where
  -- the answered and the removed commands after a schedule are those before it, and those that it wrote and returned
  pub steps_tell : (c : ℕ) → 1 ≤ c → (ts : List ℕ) → all_within o.largest ts ≡ true → (s : State) (g : Ghost) → Inv o s g →
      ((ghost_steps o ts s g).written c ≡ (wrote o c ts s || g.written c)) × ((ghost_steps o ts s g).removed c ≡ (removed o c ts s || g.removed c))
  unfolding ghost_steps all_within wrote removed
  steps_tell c low [] h s g i = (refl, refl)
  steps_tell c low (t ∷ ts) h s g i =
      let e = (and-eq-true_iff (leb t o.largest) (all_within o.largest ts)).0 h in
      let k = keeps o accepted t (leb-true t o.largest e.0) s g i in
      let r = steps_tell c low ts e.1 (step o t s) (ghost_step o t s g) k in
      let one = step_tells o s g c low t i.roles.loader in (
        r.0 ∙ rw one.0 (or_swap (wrote o c ts (step o t s)) (eqb (writes o (s.threads t) s) c) (g.written c)),
        r.1 ∙ rw one.1 (or_swap (removed o c ts (step o t s)) (eqb (returns (s.threads t) s) c) (g.removed c)),
      )

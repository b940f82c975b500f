-- Every step of every thread keeps the invariant, and the opening state meets it. Assumes nothing.
use Rattle.std.specs.Prelude.{ℕ, ◌≤◌, ◌≡◌, refl, Bool, true, false, cond, ◌||◌, ◌&&◌, List, [], ◌∷◌, length, leb}
use Rattle.std.proofs.Common.{arith, sym, ap, ◌∙◌}
use Rattle.std.proofs.Math.Bool.{and-eq-true_iff}
use Rattle.std.proofs.Math.Dec.{eqb}
use borrow.Author.Tests.{eqb-true, eqb-false, leb-true, leb-false}
use Rattle.node_set.specs.declared.Node.{Node}
use Rattle.model.specs.declared.Thread.{Thread}
use Rattle.model.specs.declared.Thread.TheVariants.{Idle, Loading, Searching, Holding, LookedUp, Written, Walking, Clearing}
use Rattle.model.specs.Setup.{Setup}
use Rattle.model.specs.Service.{in_one_step}
use Rattle.model.proofs.Searches.{searches}
use Rattle.model.specs.Step.{State, step, steps, loader_step, worker_step, loader_idle, loader_walk, command_of, enter, searching, examine, ready, holding, walking, clearing, is_allowed, idle}
use Rattle.model.specs.Statement.{Accepted, all_within}
use Rattle.command.proofs.Tests.{neither}
use Rattle.model.proofs.Chain.Invariant.{Ghost, Inv}
use Rattle.model.proofs.Chain.Ghost.{ghost_step, ghost_steps, loader_ghost, worker_ghost}
use Rattle.model.proofs.Chain.Load.{node_loaded}
use Rattle.model.proofs.Chain.LoaderWalk.{loader_stepped}
use Rattle.model.proofs.Chain.Link.{node_linked}
use Rattle.model.proofs.Chain.Search.{search_entered, search_stepped, search_left}
use Rattle.model.proofs.Chain.Take.{node_taken}
use Rattle.model.proofs.Chain.LookUp.{worker_looked_up, worker_read}
use Rattle.model.proofs.Chain.Write.{worker_written}
use Rattle.model.proofs.Chain.Walk.{walk_entered, walk_stepped}
use Rattle.model.proofs.Chain.Bypass.{node_bypassed}
use Rattle.model.proofs.Chain.Clear.{worker_cleared}
use Rattle.model.proofs.Chain.Return.{node_returned}

-- by a test, of the state alone or of state and ghost
by : {o : Setup} {s s' : State} {g : Ghost} (b : Bool) → (b ≡ true → Inv o s g) → (b ≡ false → Inv o s' g) → Inv o (cond b s s') g
by true p q = p refl
by false p q = q refl

by_both : {o : Setup} {s s' : State} {g g' : Ghost} (b : Bool) → (b ≡ true → Inv o s g) → (b ≡ false → Inv o s' g') → Inv o (cond b s s') (cond b g g')
by_both true p q = p refl
by_both false p q = q refl

module _ (o : Setup) (acc : Accepted o) (s : State) (g : Ghost) (i : Inv o s g) where
  loader_keeps : (th : Thread) → s.threads 0 ≡ th → Inv o (loader_step o th s) (loader_ghost o th s g)
  unfolding loader_step loader_ghost loader_idle loader_walk
  loader_keeps Idle e =
      by_both (leb (length o.commands) s.graph.loaded || eqb s.graph.free 0 || s.graph.locked 0) (λ b. i) (λ b.
      let k = neither (leb (length o.commands) s.graph.loaded || eqb s.graph.free 0) (s.graph.locked 0) b in
      let j = neither (leb (length o.commands) s.graph.loaded) (eqb s.graph.free 0) k.0 in
      node_loaded o s g i e (leb-false (length o.commands) s.graph.loaded j.0) (eqb-false s.graph.free 0 j.1) k.1)
  loader_keeps (Loading a x) e =
      by_both (eqb (s.graph.next a.0) 0) (λ b. node_linked o s g i a x e (eqb-true (s.graph.next a.0) 0 b))
      (λ b. by (s.graph.locked (s.graph.next a.0)) (λ _. i) (λ u. loader_stepped o s g i a x e (eqb-false (s.graph.next a.0) 0 b) u))
  loader_keeps (Searching a) e = i
  loader_keeps (Holding x) e = i
  loader_keeps (LookedUp x f) e = i
  loader_keeps (Written x) e = i
  loader_keeps (Walking a x) e = i
  loader_keeps (Clearing a x) e = i

  module _ (t : ℕ) (low : 1 ≤ t) (high : t ≤ o.largest) where
    searching_keeps : (a : Node) → s.threads t ≡ Searching a → Inv o (searching t a.0 (s.graph.next a.0) s) g
    unfolding searching examine
    searching_keeps a e =
        by (eqb (s.graph.next a.0) 0) (λ b. search_left o s g i t low high a e)
        (λ b. by (s.graph.locked (s.graph.next a.0)) (λ _. i)
        (λ u. by (is_allowed t s && ready s.graph (s.graph.next a.0)) (λ r. node_taken o acc s g i t low high a e (eqb-false (s.graph.next a.0) 0 b) u ((and-eq-true_iff (is_allowed t s) _).0 r).1)
        (λ r. search_stepped o s g i t low high a e (eqb-false (s.graph.next a.0) 0 b) u)))

    holding_keeps : (x : Node) → s.threads t ≡ Holding x → Inv o (holding o t x.0 s) (worker_ghost o (Holding x) s g)
    unfolding worker_ghost holding command_of
    holding_keeps x e =
        by_both (in_one_step (command_of o s.graph x.0)) (λ _. worker_read o s g i t low high x e acc) (λ _. worker_looked_up o s g i t low high x e)

    worker_keeps : (th : Thread) → s.threads t ≡ th → Inv o (worker_step o t th s) (worker_ghost o th s g)
    unfolding worker_step worker_ghost idle enter walking clearing
    worker_keeps Idle e = by (is_allowed t s) (λ _. by (s.graph.locked 0) (λ _. i) (search_entered o s g i t low high e)) (λ _. i)
    worker_keeps (Loading a x) e = i
    worker_keeps (Searching a) e = let looks = searches o t a s in searching_keeps a e
    worker_keeps (Holding x) e = holding_keeps x e
    worker_keeps (LookedUp x f) e = worker_written o acc s g i t low high x f e
    worker_keeps (Written x) e = by (s.graph.locked 0) (λ _. i) (walk_entered o s g i t low high x e)
    worker_keeps (Walking a x) e =
        by_both (eqb (s.graph.next a.0) 0 || s.graph.locked (s.graph.next a.0)) (λ _. i) (λ b.
        let k = neither (eqb (s.graph.next a.0) 0) (s.graph.locked (s.graph.next a.0)) b in
        by_both (eqb (s.graph.next a.0) x.0)
        (λ q. let own = eqb-true (s.graph.next a.0) x.0 q in node_bypassed o s g i t low high a x e own (ap s.graph.locked (sym own) ∙ k.1))
        (λ q. walk_stepped o s g i t low high a x e (eqb-false (s.graph.next a.0) 0 k.0) k.1 (eqb-false (s.graph.next a.0) x.0 q)))
    worker_keeps (Clearing a x) e =
        by_both (eqb (s.graph.next a.0) 0) (λ b. node_returned o s g i t low high a x e (eqb-true (s.graph.next a.0) 0 b))
        (λ b. by (s.graph.locked (s.graph.next a.0)) (λ _. i) (λ u. worker_cleared o s g i t low high a x e (eqb-false (s.graph.next a.0) 0 b) u))

-- a step of any thread up to the worker count
pub keeps : (o : Setup) → Accepted o → (t : ℕ) → t ≤ o.largest → (s : State) (g : Ghost) → Inv o s g → Inv o (step o t s) (ghost_step o t s g)
unfolding step ghost_step
keeps o acc t high s g i =
    by_both (eqb t 0) (λ _. loader_keeps o acc s g i (s.threads 0) refl)
    (λ b. let n = eqb-false t 0 b in worker_keeps o acc s g i t (omega (arith, n)) high (s.threads t) refl)

-- a schedule
pub steps_keep : (o : Setup) → Accepted o → (ts : List ℕ) → all_within o.largest ts ≡ true → (s : State) (g : Ghost) → Inv o s g → Inv o (steps o ts s) (ghost_steps o ts s g)
unfolding steps ghost_steps all_within
steps_keep o acc [] w s g i = i
steps_keep o acc (t ∷ ts) w s g i =
    let k = (and-eq-true_iff (leb t o.largest) (all_within o.largest ts)).0 w in
    steps_keep o acc ts k.1 (step o t s) (ghost_step o t s g) (keeps o acc t (leb-true t o.largest k.0) s g i)

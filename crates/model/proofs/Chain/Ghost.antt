-- How a step changes what no step reads: which nodes stand in the chain, the free list as a list, and which commands are answered and
-- removed. Follows Step case by case. Assumes nothing.
use Rattle.std.specs.Prelude.{ℕ, Bool, true, false, cond, ◌||◌, List, [], ◌∷◌, length, eqb, leb}
use Rattle.model.specs.declared.Thread.{Thread}
use Rattle.model.specs.declared.Thread.TheVariants.{Idle, Loading, Searching, Holding, LookedUp, Written, Walking, Clearing}
use Rattle.model.specs.Upd.{upd}
use Rattle.model.specs.Setup.{Setup}
use Rattle.model.specs.Service.{in_one_step}
use Rattle.model.specs.Step.{State, command_of}
use Rattle.model.proofs.Chain.Invariant.{Ghost}

abbrev pub tail : List ℕ → List ℕ
tail [] = []
tail (x ∷ xs) = xs

-- the first free node is taken
abbrev pub taken : Ghost → Ghost
taken g = record { linked = g.linked; frees = tail g.frees; written = g.written; removed = g.removed }

-- node x enters the chain (true) or leaves it (false)
abbrev pub linking : ℕ → Bool → Ghost → Ghost
linking x b g = record { linked = upd g.linked x b; frees = g.frees; written = g.written; removed = g.removed }

-- command c is answered
abbrev pub writing : ℕ → Ghost → Ghost
writing c g = record { linked = g.linked; frees = g.frees; written = upd g.written c true; removed = g.removed }

-- node x, of command c, is free again
abbrev pub returning : ℕ → ℕ → Ghost → Ghost
returning x c g = record { linked = g.linked; frees = x ∷ g.frees; written = g.written; removed = upd g.removed c true }

unfoldable pub loader_ghost : Setup → Thread → State → Ghost → Ghost
loader_ghost o Idle s g = cond (leb (length o.commands) s.graph.loaded || eqb s.graph.free 0 || s.graph.locked 0) g (taken g)
loader_ghost o (Loading a x) s g = cond (eqb (s.graph.next a.0) 0) (linking x.0 true g) g
loader_ghost o (Searching a) s g = g
loader_ghost o (Holding x) s g = g
loader_ghost o (LookedUp x f) s g = g
loader_ghost o (Written x) s g = g
loader_ghost o (Walking a x) s g = g
loader_ghost o (Clearing a x) s g = g

unfoldable pub worker_ghost : Setup → Thread → State → Ghost → Ghost
unfolding in_one_step command_of
worker_ghost o Idle s g = g
worker_ghost o (Loading a x) s g = g
worker_ghost o (Searching a) s g = g
worker_ghost o (Holding x) s g = cond (in_one_step (command_of o s.graph x.0)) (writing (s.graph.seq x.0) g) g
worker_ghost o (LookedUp x f) s g = writing (s.graph.seq x.0) g
worker_ghost o (Written x) s g = g
worker_ghost o (Walking a x) s g =
    cond (eqb (s.graph.next a.0) 0 || s.graph.locked (s.graph.next a.0)) g (cond (eqb (s.graph.next a.0) x.0) (linking x.0 false g) g)
worker_ghost o (Clearing a x) s g = cond (eqb (s.graph.next a.0) 0) (returning x.0 (s.graph.seq x.0) g) g

unfoldable pub ghost_step : Setup → ℕ → State → Ghost → Ghost
unfolding loader_ghost worker_ghost
ghost_step o t s g = cond (eqb t 0) (loader_ghost o (s.threads 0) s g) (worker_ghost o (s.threads t) s g)

unfoldable pub ghost_steps : Setup → List ℕ → State → Ghost → Ghost
unfolding ghost_step
ghost_steps o [] s g = g
ghost_steps o (t ∷ ts) s g = ghost_steps o ts (Rattle.model.specs.Step.step o t s) (ghost_step o t s g)

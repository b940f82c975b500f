-- What a searching worker's step looks at. The proofs about a worker's steps cite it, so that a step which does more than this is refused
-- here, where little has to be compared, and not in each of them. Assumes nothing.
use Rattle.std.specs.Prelude.{ℕ, ◌≡◌, refl}
use Rattle.node_set.specs.declared.Node.{Node}
use Rattle.model.specs.declared.Thread.TheVariants.{Searching}
use Rattle.model.specs.Setup.{Setup}
use Rattle.model.specs.Step.{State, worker_step, searching}

-- the node behind the one that it stands on
pub searches : (o : Setup) (t : ℕ) (at : Node) (s : State) → worker_step o t (Searching at) s ≡ searching t at.0 (s.graph.next at.0) s
unfolding worker_step
searches o t at s = refl

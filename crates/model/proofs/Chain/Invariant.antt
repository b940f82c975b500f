-- The invariant of every state that a schedule reaches: what holds of the chain, the threads, the sets, the answers and the store before
-- and after each step. Order along the chain is order of sequence numbers, so each clause speaks of one or two nodes and one or two
-- threads. The clauses stand in groups; a group names just the parts of the state that it speaks of. Assumes nothing.
use Rattle.std.specs.Prelude.{ℕ, suc, ◌≤◌, ◌<◌, ◌≡◌, Bool, true, false, List, [], ◌∷◌, ◌⊎◌, length}
use Rattle.std.proofs.Math.Option.{Option, none, some}
use Rattle.model.specs.declared.Thread.{Thread}
use Rattle.model.specs.declared.Thread.TheVariants.{Idle, Loading, Searching, Holding, LookedUp, Written, Walking, Clearing}
use Rattle.model.specs.Setup.{Setup, command_at, both_dependent}
use Rattle.model.specs.Step.{State}
use Rattle.model.proofs.Consistent.{Consistent}

-- ---- what a thread's state says

-- the node that a thread stands on
abbrev pub at : Thread → Option ℕ
at Idle = none
at (Loading a x) = some a.0
at (Searching a) = some a.0
at (Holding x) = none
at (LookedUp x f) = none
at (Written x) = none
at (Walking a x) = some a.0
at (Clearing a x) = some a.0

-- the node that the loader loads
abbrev pub loads : Thread → Option ℕ
loads Idle = none
loads (Loading a x) = some x.0
loads (Searching a) = none
loads (Holding x) = none
loads (LookedUp x f) = none
loads (Written x) = none
loads (Walking a x) = none
loads (Clearing a x) = none

-- the linked node that a worker has taken
abbrev pub executes : Thread → Option ℕ
executes Idle = none
executes (Loading a x) = none
executes (Searching a) = none
executes (Holding x) = some x.0
executes (LookedUp x f) = some x.0
executes (Written x) = some x.0
executes (Walking a x) = some x.0
executes (Clearing a x) = none

-- the node that a worker walks to
abbrev pub walks : Thread → Option ℕ
walks Idle = none
walks (Loading a x) = none
walks (Searching a) = none
walks (Holding x) = none
walks (LookedUp x f) = none
walks (Written x) = none
walks (Walking a x) = some x.0
walks (Clearing a x) = none

-- the bypassed node that a worker takes out of the sets
abbrev pub clears : Thread → Option ℕ
clears Idle = none
clears (Loading a x) = none
clears (Searching a) = none
clears (Holding x) = none
clears (LookedUp x f) = none
clears (Written x) = none
clears (Walking a x) = none
clears (Clearing a x) = some x.0

-- the node of a worker that has written its answer
abbrev pub done : Thread → Option ℕ
done Idle = none
done (Loading a x) = none
done (Searching a) = none
done (Holding x) = none
done (LookedUp x f) = none
done (Written x) = some x.0
done (Walking a x) = some x.0
done (Clearing a x) = some x.0

-- the node of a worker that has looked up, and what it found
abbrev pub looked : Thread → Option ℕ
looked Idle = none
looked (Loading a x) = none
looked (Searching a) = none
looked (Holding x) = none
looked (LookedUp x f) = some x.0
looked (Written x) = none
looked (Walking a x) = none
looked (Clearing a x) = none

abbrev pub found : Thread → ℕ
found Idle = 0
found (Loading a x) = 0
found (Searching a) = 0
found (Holding x) = 0
found (LookedUp x f) = f
found (Written x) = 0
found (Walking a x) = 0
found (Clearing a x) = 0

-- the loader is idle or loading, and a worker is never loading
abbrev pub is_loader : Thread → Bool
is_loader Idle = true
is_loader (Loading a x) = true
is_loader (Searching a) = false
is_loader (Holding x) = false
is_loader (LookedUp x f) = false
is_loader (Written x) = false
is_loader (Walking a x) = false
is_loader (Clearing a x) = false

abbrev pub is_worker : Thread → Bool
is_worker Idle = true
is_worker (Loading a x) = false
is_worker (Searching a) = true
is_worker (Holding x) = true
is_worker (LookedUp x f) = true
is_worker (Written x) = true
is_worker (Walking a x) = true
is_worker (Clearing a x) = true

-- ---- what no step reads

-- which nodes stand in the chain, the free list as a list, and which commands are answered and removed
pub record Ghost : Type 0 where
  pub linked : ℕ → Bool
  pub frees : List ℕ
  pub written : ℕ → Bool
  pub removed : ℕ → Bool

-- ---- the groups of clauses

-- the head, or a node of the chain
abbrev pub On : (ℕ → Bool) → ℕ → Type 0
On linked x = (x ≡ 0) ⊎ (linked x ≡ true)

-- sequence numbers, and the chain in their order
pub record Order (size loaded count : ℕ) (seq : ℕ → ℕ) (linked : ℕ → Bool) (next : ℕ → ℕ) : Type 0 where
  -- the head has no command and is no node of the chain
  pub head_seq : seq 0 ≡ 0
  pub head_out : linked 0 ≡ false
  -- a node of the chain has a command; a node with a command is one of 1 to the graph size
  pub linked_used : (x : ℕ) → linked x ≡ true → 1 ≤ seq x
  pub used_size : (x : ℕ) → 1 ≤ seq x → x ≤ size
  -- no two nodes have the same command, and only loaded commands have nodes
  pub distinct : (x y : ℕ) → 1 ≤ seq x → seq x ≡ seq y → x ≡ y
  pub below : (x : ℕ) → seq x ≤ loaded
  pub loaded_count : loaded ≤ count
  -- next index 0: no node of the chain comes later
  pub last : (x : ℕ) → On linked x → next x ≡ 0 → (z : ℕ) → linked z ≡ true → seq z ≤ seq x
  -- else the next node is in the chain, comes later, and no node of the chain lies strictly between
  pub next_linked : (x : ℕ) → On linked x → (next x ≡ 0 → ⊥) → linked (next x) ≡ true
  pub next_later : (x : ℕ) → On linked x → (next x ≡ 0 → ⊥) → seq x < seq (next x)
  pub next_first : (x : ℕ) → On linked x → (next x ≡ 0 → ⊥) → (z : ℕ) → linked z ≡ true → seq x < seq z → seq (next x) ≤ seq z

-- membership, a list without repeats, and a list that is a chain of next indexes from f
abbrev pub In : ℕ → List ℕ → Type 0
In x [] = ⊥
In x (y ∷ ys) = (x ≡ y) ⊎ In x ys

abbrev pub NoRepeat : List ℕ → Type 0
NoRepeat [] = Unit {0}
NoRepeat (y ∷ ys) = (In y ys → ⊥) × NoRepeat ys

abbrev pub ChainFrom : (ℕ → ℕ) → ℕ → List ℕ → Type 0
ChainFrom next f [] = f ≡ 0
ChainFrom next f (y ∷ ys) = (f ≡ y) × ChainFrom next (next y) ys

-- the free list: the nodes 1 to the graph size that have no command, each once
pub record FreeList (size : ℕ) (seq next : ℕ → ℕ) (free : ℕ) (frees : List ℕ) : Type 0 where
  pub chain : ChainFrom next free frees
  pub no_repeat : NoRepeat frees
  pub is_unused : (x : ℕ) → In x frees → (1 ≤ x) × (x ≤ size) × (seq x ≡ 0)
  pub has_unused : (x : ℕ) → 1 ≤ x → x ≤ size → seq x ≡ 0 → In x frees

-- a thread stands on the head or a node of the chain, two never on one, and a node is locked exactly if a thread stands on it
pub record Standing (linked locked : ℕ → Bool) (at : ℕ → Option ℕ) : Type 0 where
  pub on : (t x : ℕ) → at t ≡ some x → On linked x
  pub alone : (t u x : ℕ) → at t ≡ some x → at u ≡ some x → t ≡ u
  pub locks : (t x : ℕ) → at t ≡ some x → locked x ≡ true
  pub held : (x : ℕ) → locked x ≡ true → (t : ℕ) × (at t ≡ some x)

-- the node of a holding, looked-up, written or walking worker is in the chain and executing, of two workers never the same, and an
-- executing node of the chain has such a worker
pub record Executing (seq : ℕ → ℕ) (linked executing : ℕ → Bool) (executes : ℕ → Option ℕ) : Type 0 where
  pub own_linked : (t x : ℕ) → executes t ≡ some x → linked x ≡ true
  pub own_executing : (t x : ℕ) → executes t ≡ some x → executing x ≡ true
  pub alone : (t u x : ℕ) → executes t ≡ some x → executes u ≡ some x → t ≡ u
  pub held : (x : ℕ) → linked x ≡ true → executing x ≡ true → (t : ℕ) × (executes t ≡ some x)
  pub used : (x : ℕ) → executing x ≡ true → 1 ≤ seq x

-- a walking worker stands before its own node
pub record Walks (seq : ℕ → ℕ) (walks at : ℕ → Option ℕ) : Type 0 where
  pub before : (t x a : ℕ) → walks t ≡ some x → at t ≡ some a → seq a < seq x

-- the node of a clearing worker is out of the chain, has its command still and is executing, of two workers never the same, and the
-- worker stands at or past the node's old place: no node of the chain lies behind the worker and before that place
pub record Clears (seq : ℕ → ℕ) (linked executing : ℕ → Bool) (clears at : ℕ → Option ℕ) : Type 0 where
  pub out : (t x : ℕ) → clears t ≡ some x → linked x ≡ false
  pub used : (t x : ℕ) → clears t ≡ some x → 1 ≤ seq x
  pub own_executing : (t x : ℕ) → clears t ≡ some x → executing x ≡ true
  pub alone : (t u x : ℕ) → clears t ≡ some x → clears u ≡ some x → t ≡ u
  pub past : (t x a z : ℕ) → clears t ≡ some x → at t ≡ some a → linked z ≡ true → seq a < seq z → seq x < seq z

-- the node being loaded has the last loaded command, is waiting, is not in the chain yet, and has next index 0; only thread 0 loads
pub record Loads (loaded : ℕ) (seq next : ℕ → ℕ) (linked executing : ℕ → Bool) (loads : ℕ → Option ℕ) : Type 0 where
  pub loader : (t x : ℕ) → loads t ≡ some x → t ≡ 0
  pub newest : (t x : ℕ) → loads t ≡ some x → seq x ≡ loaded
  pub used : (t x : ℕ) → loads t ≡ some x → 1 ≤ seq x
  pub out : (t x : ℕ) → loads t ≡ some x → linked x ≡ false
  pub waiting : (t x : ℕ) → loads t ≡ some x → executing x ≡ false
  pub ends : (t x : ℕ) → loads t ≡ some x → next x ≡ 0

-- a node with a command is in the chain, being loaded, or a clearing worker's
pub record Partition (seq : ℕ → ℕ) (linked : ℕ → Bool) (loads clears : ℕ → Option ℕ) : Type 0 where
  pub one_of : (x : ℕ) → 1 ≤ seq x → (linked x ≡ true) ⊎ (((t : ℕ) × (loads t ≡ some x)) ⊎ ((t : ℕ) × (clears t ≡ some x)))

-- y is in the chain, or is the node of a clearing worker that stands before sequence number p
abbrev pub Pending : (ℕ → ℕ) → (ℕ → Bool) → (ℕ → Option ℕ) → (ℕ → Option ℕ) → ℕ → ℕ → Type 0
Pending seq linked at clears y p = (linked y ≡ true) ⊎ ((t : ℕ) × (a : ℕ) × (clears t ≡ some y) × (at t ≡ some a) × (seq a < p))

-- y has a command with sequence number below `before`, on which the command of x depends, and is pending before p
pub record Waited (o : Setup) (seq : ℕ → ℕ) (linked : ℕ → Bool) (at clears : ℕ → Option ℕ) (x y before p : ℕ) : Type 0 where
  pub used : 1 ≤ seq y
  pub earlier : seq y < before
  pub dependent : both_dependent (command_at o.commands (seq y)) (command_at o.commands (seq x)) ≡ true
  pub pending : Pending seq linked at clears y p

-- the sets, exactly: a node of the chain waits for what is before it; the node being loaded for what is at or before the loader, and of
-- clearing workers for those that stand before the loader
pub record Sets (o : Setup) (seq : ℕ → ℕ) (linked executing : ℕ → Bool) (waits : ℕ → ℕ → Bool) (at loads clears : ℕ → Option ℕ) : Type 0 where
  pub unused_empty : (x y : ℕ) → seq x ≡ 0 → waits x y ≡ false
  pub executing_empty : (x y : ℕ) → executing x ≡ true → waits x y ≡ false
  pub linked_sound : (x y : ℕ) → linked x ≡ true → waits x y ≡ true → Waited o seq linked at clears x y (seq x) (seq x)
  pub linked_complete : (x y : ℕ) → linked x ≡ true → Waited o seq linked at clears x y (seq x) (seq x) → waits x y ≡ true
  pub loading_sound : (t x l y : ℕ) → loads t ≡ some x → at t ≡ some l → waits x y ≡ true → Waited o seq linked at clears x y (suc (seq l)) (seq l)
  pub loading_complete : (t x l y : ℕ) → loads t ≡ some x → at t ≡ some l → Waited o seq linked at clears x y (suc (seq l)) (seq l) → waits x y ≡ true

-- a command is answered exactly if it was removed or its worker is written, walking or clearing; a loaded command was removed or has a
-- node, and not both
pub record Progress (loaded : ℕ) (seq : ℕ → ℕ) (written removed : ℕ → Bool) (done : ℕ → Option ℕ) : Type 0 where
  pub done_written : (t x : ℕ) → done t ≡ some x → written (seq x) ≡ true
  pub written_done : (c : ℕ) → written c ≡ true → (removed c ≡ true) ⊎ ((t : ℕ) × (x : ℕ) × (done t ≡ some x) × (seq x ≡ c))
  pub removed_written : (c : ℕ) → removed c ≡ true → written c ≡ true
  pub removed_loaded : (c : ℕ) → removed c ≡ true → (1 ≤ c) × (c ≤ loaded)
  pub removed_gone : (x : ℕ) → 1 ≤ seq x → removed (seq x) ≡ false
  pub accounted : (c : ℕ) → 1 ≤ c → c ≤ loaded → (removed c ≡ true) ⊎ ((x : ℕ) × (seq x ≡ c))

-- thread 0 is the loader, the others are workers, and those past the worker count are idle
pub record Roles (workers : ℕ) (threads : ℕ → Thread) : Type 0 where
  pub loader : is_loader (threads 0) ≡ true
  pub worker : (t : ℕ) → 1 ≤ t → is_worker (threads t) ≡ true
  pub rest : (t : ℕ) → workers < t → threads t ≡ Idle

-- ---- the invariant

pub record Inv (o : Setup) (s : State) (g : Ghost) : Type 0 where
  pub order : Order o.size s.graph.loaded (length o.commands) s.graph.seq g.linked s.graph.next
  pub free_list : FreeList o.size s.graph.seq s.graph.next s.graph.free g.frees
  pub standing : Standing g.linked s.graph.locked (λ t. at (s.threads t))
  pub executing : Executing s.graph.seq g.linked s.graph.executing (λ t. executes (s.threads t))
  pub walking : Walks s.graph.seq (λ t. walks (s.threads t)) (λ t. at (s.threads t))
  pub clearing : Clears s.graph.seq g.linked s.graph.executing (λ t. clears (s.threads t)) (λ t. at (s.threads t))
  pub loading : Loads s.graph.loaded s.graph.seq s.graph.next g.linked s.graph.executing (λ t. loads (s.threads t))
  pub partition : Partition s.graph.seq g.linked (λ t. loads (s.threads t)) (λ t. clears (s.threads t))
  pub sets : Sets o s.graph.seq g.linked s.graph.executing s.graph.waits (λ t. at (s.threads t)) (λ t. loads (s.threads t)) (λ t. clears (s.threads t))
  pub progress : Progress s.graph.loaded s.graph.seq g.written g.removed (λ t. done (s.threads t))
  pub service : Consistent o s.graph.seq g.written s.service (λ t. looked (s.threads t)) (λ t. found (s.threads t))
  pub roles : Roles o.largest s.threads

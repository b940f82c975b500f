-- The cases of each kind of step along the chain: what the tests found and what was stored make the model's step. In each case the tests
-- pick the model's branch, and each array stored is the function that the branch makes. Assumes nothing.
use Prim.Native.Nat.{ℕ, ◌≤◌}
use mathlib.Core.Path.{◌≡◌, sym, ap, ◌∙◌}
use mathlib.Core.Bool.{Bool, true, false, ◌&&◌, ◌||◌}
use mathlib.Core.List.{List}
use native.Mathlib.Omega.{arith}
use lib.ListN.{length, set, length-set}
use lib.Dec.{eqb}
use borrow.Author.Tests.{eq-eqb, ne_eqb}
use Rattle.node_set.specs.declared.Node.{Node}
use Rattle.node_set.specs.Members.{member}
use Rattle.model.specs.declared.Thread.{Thread}
use Rattle.model.specs.declared.Thread.TheVariants.{Idle, Searching, Holding, Walking, Clearing}
use Rattle.model.specs.Upd.{upd}
use Rattle.model.specs.Graph.{set_locked, set_executing, set_next, set_seq, set_free, set_waits}
use Rattle.model.specs.Step.{State, node, move_to, step_on, enter, leave, ready, examine, searching, bypass, walking, return, clearing}
use Rattle.model.proofs.Upd.{upd_id}
use Rattle.graph.specs.declared.Graph.{Graph}
use Rattle.graph.specs.Arrays.{numbers, flags, sets, is_ready, with_locked, SteppedOn, PutBack, Entered, Searches, Walks, ClearsOn}
use Rattle.graph.proofs.Bridge.{value, set_is_upd, set_is_upd_members}

-- a table with other flags of execution, next indexes or sets
abbrev pub with_executing : List Bool → Graph → Graph
with_executing executing g = record { next = g.next; seq = g.seq; executing = executing; locked = g.locked; waits = g.waits; items = g.items }

abbrev pub with_next : List ℕ → Graph → Graph
with_next next g = record { next = next; seq = g.seq; executing = g.executing; locked = g.locked; waits = g.waits; items = g.items }

abbrev pub with_waits : List (List ℕ) → Graph → Graph
with_waits waits g = record { next = g.next; seq = g.seq; executing = g.executing; locked = g.locked; waits = waits; items = g.items }

-- ---- entering

-- The head is locked: the thread that is there is put back.
pub enter_waits : (thread entered : Thread) (graph : Graph) → flags graph.locked 0 ≡ true → Entered thread entered graph thread graph
unfolding enter move_to
enter_waits thread entered graph shut s t lo th = rw (value lo 0 ∙ shut, upd_id s.threads t thread (sym th), ← lo)

-- The head is not locked: it is locked now.
pub enter_locks : (thread entered : Thread) (graph : Graph) (locked' : List Bool) → flags graph.locked 0 ≡ false → flags locked' ≡ upd (flags graph.locked) 0 true
    → Entered thread entered graph entered (with_locked locked' graph)
unfolding enter move_to set_locked
enter_locks thread entered graph locked' clear stored s t lo th = rw (value lo 0 ∙ clear, stored, ← lo)

-- ---- searching, with y the next node

-- a store to the locks where the next node is locked and the old one unlocked is two updates
pub stepped : (graph : Graph) (at y : ℕ) → length graph.locked ≡ 151 → at ≤ 150 → y ≤ 150
    → flags (set (set graph.locked y true) at false) ≡ upd (upd (flags graph.locked) y true) at false
stepped graph at y long at_in y_in =
    set_is_upd (set graph.locked y true) at false false (rw (length-set graph.locked y true, long) (omega arith))
    ∙ ap (λ f. upd f at false) (set_is_upd graph.locked y true false (rw long (omega arith)))

module _ (allowed : Bool) (at : Node) (graph : Graph) (y : ℕ) (next_is : y ≡ numbers graph.next at.0) where
  -- The chain ends: the node is unlocked.
  pub search_ends : (locked' : List Bool) → y ≡ 0 → flags locked' ≡ upd (flags graph.locked) at.0 false
      → Searches allowed at graph Idle (with_locked locked' graph)
  unfolding searching leave move_to set_locked
  search_ends locked' end stored s t al ne ex lo wa th = rw (value ne at.0 ∙ sym next_is, eq-eqb y 0 end, stored, ← ex, ← lo)

  module _ (more : y ≡ 0 → ⊥) where
    -- The next node is locked: nothing changes.
    pub search_waits : flags graph.locked y ≡ true → Searches allowed at graph (Searching at) graph
    unfolding searching move_to
    search_waits shut s t al ne ex lo wa th =
        rw (value ne at.0 ∙ sym next_is, ne_eqb y 0 more, value lo y ∙ shut, upd_id s.threads t (Searching at) (sym th), ← ex, ← lo)

    -- Whether the next node is ready is read from the arrays.
    ready_is : (s : State) → s.graph.executing ≡ flags graph.executing → s.graph.waits ≡ sets graph.waits → ready s.graph y ≡ is_ready graph y
    unfolding ready
    ready_is s ex wa = rw (value ex y, value wa y)

    module _ (g : Graph) (on : SteppedOn at.0 y graph g) (long : length graph.locked ≡ 151) where
      -- The worker is allowed, and the next node is ready: it is executing and unlocked, and so is the old one.
      pub search_takes : length graph.executing ≡ 151 → at.0 ≤ 150 → y ≤ 150 → flags graph.locked y ≡ false → (allowed && is_ready g y) ≡ true
          → Searches allowed at graph (Holding (node y)) (with_locked (set g.locked y false) (with_executing (set g.executing y true) g))
      unfolding searching examine step_on move_to set_locked set_executing
      search_takes long' at_in y_in clear takes s t al ne ex lo wa th =
          let taken : (allowed && is_ready graph y) ≡ true = rw on at takes in
          let executed = set_is_upd graph.executing y true false (rw long' (omega arith)) in
          let unlocked = set_is_upd (set (set graph.locked y true) at.0 false) y false false (rw (length-set (set graph.locked y true) at.0 false, length-set graph.locked y true, long) (omega arith)) in
          rw on (rw (value ne at.0 ∙ sym next_is, ne_eqb y 0 more, value lo y ∙ clear, al, ready_is s ex wa, taken, executed, unlocked, stepped graph at.0 y long at_in y_in, ← ex, ← lo))

      -- The worker is not allowed, or the next node is not ready: it is locked, and the old one is not.
      pub search_steps : at.0 ≤ 150 → y ≤ 150 → flags graph.locked y ≡ false → (allowed && is_ready g y) ≡ false
          → Searches allowed at graph (Searching (node y)) g
      unfolding searching examine step_on move_to set_locked
      search_steps at_in y_in clear passes s t al ne ex lo wa th =
          let passed : (allowed && is_ready graph y) ≡ false = rw on at passes in
          rw on (rw (value ne at.0 ∙ sym next_is, ne_eqb y 0 more, value lo y ∙ clear, al, ready_is s ex wa, passed, stepped graph at.0 y long at_in y_in, ← ex, ← lo))

-- ---- walking, with y the next node

module _ (at own : Node) (graph : Graph) (y : ℕ) (next_is : y ≡ numbers graph.next at.0) where
  -- The chain ends, or the next node is locked: nothing changes.
  pub walk_waits : (eqb y 0 || flags graph.locked y) ≡ true → Walks at own graph (Walking at own) graph
  unfolding walking move_to
  walk_waits shut s t ne lo th = rw (value ne at.0 ∙ sym next_is, value lo y, shut, upd_id s.threads t (Walking at own) (sym th), ← ne, ← lo)

  module _ (more : y ≡ 0 → ⊥) (clear : flags graph.locked y ≡ false) where
    -- The next node is the own one: its next index is the old node's now.
    pub walk_bypasses : (next' : List ℕ) → y ≡ own.0 → numbers next' ≡ upd (numbers graph.next) at.0 (numbers graph.next y)
        → Walks at own graph (Clearing at own) (with_next next' graph)
    unfolding walking bypass move_to set_next
    walk_bypasses next' is_own stored s t ne lo th =
        rw (value ne at.0 ∙ sym next_is, ne_eqb y 0 more, value lo y ∙ clear, eq-eqb y own.0 is_own, stored, is_own, ← (value ne own.0), ← ne, ← lo)

    -- The next node is another one: it is locked, and the old one is not.
    pub walk_steps : (g : Graph) → SteppedOn at.0 y graph g → length graph.locked ≡ 151 → at.0 ≤ 150 → y ≤ 150 → (y ≡ own.0 → ⊥) → Walks at own graph (Walking (node y) own) g
    unfolding walking step_on move_to set_locked
    walk_steps g on long at_in y_in other s t ne lo th =
        rw on (rw (value ne at.0 ∙ sym next_is, ne_eqb y 0 more, value lo y ∙ clear, ne_eqb y own.0 other, stepped graph at.0 y long at_in y_in, ← ne, ← lo))

-- ---- clearing, with y the next node

-- a worker that clears on is not idle
pub clears_on : {at own : Node} → Clearing at own ≡ Idle → ⊥
clears_on e = let z : ◌≡◌ {A = ℕ} 0 1 = cc in omega arith

module _ (at own : Node) (free : ℕ) (graph : Graph) (y : ℕ) (next_is : y ≡ numbers graph.next at.0) where
  -- The chain ends: the node is unlocked, and then the own node is put back.
  pub clear_returns : (unlocked : List Bool) (graph' : Graph) → y ≡ 0 → flags unlocked ≡ upd (flags graph.locked) at.0 false
      → PutBack own.0 free (with_locked unlocked graph) graph' → ClearsOn at own free graph Idle own.0 graph'
  unfolding clearing return move_to set_locked set_next set_seq set_executing set_waits set_free
  clear_returns unlocked graph' end stored put s t sh fr th =
      rw (
        value sh.next_is at.0 ∙ sym next_is,
        eq-eqb y 0 end,
        put.next_is,
        put.seq_is,
        put.executing_is,
        put.locked_is,
        put.waits_is,
        stored,
        fr,
        sh.next_is,
        sh.seq_is,
        sh.executing_is,
        sh.locked_is,
        sh.waits_is,
      )

  module _ (more : y ≡ 0 → ⊥) where
    -- The next node is locked: nothing changes.
    pub clear_waits : flags graph.locked y ≡ true → ClearsOn at own free graph (Clearing at own) free graph
    unfolding clearing move_to
    clear_waits shut s t sh fr th =
        rw (
          value sh.next_is at.0 ∙ sym next_is,
          ne_eqb y 0 more,
          value sh.locked_is y ∙ shut,
          upd_id s.threads t (Clearing at own) (sym th),
          ← fr,
          ← sh.next_is,
          ← sh.seq_is,
          ← sh.executing_is,
          ← sh.locked_is,
          ← sh.waits_is,
        )

    -- The next node is not locked: it is locked now, the old one is not, and the own node is no member of its set.
    pub clear_steps : (g : Graph) → SteppedOn at.0 y graph g → length graph.locked ≡ 151 → length graph.waits ≡ 151 → at.0 ≤ 150 → y ≤ 150 → flags graph.locked y ≡ false
        → (without : List ℕ) → member without ≡ upd (sets g.waits y) own.0 false
        → ClearsOn at own free graph (Clearing (node y) own) free (with_waits (set g.waits y without) g)
    unfolding clearing step_on move_to set_locked set_waits
    clear_steps g on long long' at_in y_in clear without removed s t sh fr th =
        let stored = set_is_upd_members graph.waits y without (rw long' (omega arith)) in
        let removed' : member without ≡ upd (sets graph.waits y) own.0 false = rw on at removed in
        rw on (rw (
          value sh.next_is at.0 ∙ sym next_is,
          ne_eqb y 0 more,
          value sh.locked_is y ∙ clear,
          stepped graph at.0 y long at_in y_in,
          stored,
          removed',
          ← (value sh.waits_is y),
          ← fr,
          ← sh.next_is,
          ← sh.seq_is,
          ← sh.executing_is,
          ← sh.locked_is,
          ← sh.waits_is,
        ))

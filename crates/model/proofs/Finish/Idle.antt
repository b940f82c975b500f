-- Where every thread is idle: a worker takes the first node of the chain in two steps, the loader loads into an empty chain in two steps,
-- and where no command is left, every command is removed. Assumes nothing.
use Prim.Native.Nat.{ℕ, suc, ◌+◌, ◌-◌, ◌≤◌, ◌<◌}
use native.Mathlib.Omega.{arith}
use Rattle.std.specs.Prelude.{◌≡◌, List, [], ◌∷◌, ◌⊎◌, eqb}
use Rattle.std.proofs.Math.Path.{refl, sym, ap}
use Rattle.std.proofs.Common.{◌∙◌, inl, inr, ⊎_elim}
use Rattle.std.proofs.Math.Bool.{true, false}
use Rattle.std.proofs.Math.Option.{none}
use Rattle.std.proofs.Math.ListN.{length}
use borrow.Author.Tests.{eq-eqb, ne_eqb, le-leb, lt-leb}
use Rattle.node_set.proofs.Below.{all_fail_none_below}
use Rattle.model.specs.declared.Thread.TheVariants.{Idle, Loading, Searching, Holding}
use Rattle.model.specs.Upd.{upd}
use Rattle.model.specs.Setup.{Setup}
use Rattle.model.specs.Graph.{set_locked, set_executing, set_next, set_free, set_seq, set_loaded}
use Rattle.model.proofs.Searches.{searches}
use Rattle.model.specs.Step.{State, node, is_allowed, idle as step_idle, step, worker_step, loader_step, loader_idle, loader_walk, load, link, enter, searching, examine, ready, step_on, move_to}
use Rattle.model.specs.Dispatch.{is_idle}
use Rattle.command.proofs.Tests.{fails, none_some, eqb_cases}
use Rattle.model.proofs.Upd.{upd_same, upd_other}
use Rattle.model.proofs.Chain.Invariant.{Ghost, Inv, In, ChainFrom, at, loads, executes, clears}
use Rattle.model.proofs.Chain.Ghost.{ghost_step, worker_ghost, loader_ghost, linking, taken}
use Rattle.model.proofs.Finish.Measure.{Φ, cost, loaded_lowered}
use Rattle.model.proofs.Finish.Chosen.{takes_lowered}
use Rattle.model.proofs.Finish.Present.{present, linked_present, present_cases}

-- a list with a member that is a chain of next indexes has its first member at the chain's start
first_in : (next : ℕ → ℕ) (f x : ℕ) (l : List ℕ) → ChainFrom next f l → In x l → In f l
first_in next f x [] c m = m
first_in next f x (y ∷ ys) c m = inl c.0

module _ (o : Setup) (s : State) (g : Ghost) (i : Inv o s g) (idle : (t : ℕ) → s.threads t ≡ Idle) where
  -- no node is locked
  open_all : (x : ℕ) → s.graph.locked x ≡ false
  open_all x = fails (s.graph.locked x) (λ h. let w = i.standing.held x h in none_some none refl (sym (ap at (idle w.0)) ∙ w.1))

  -- a node with a command is in the chain
  used_linked : (x : ℕ) → 1 ≤ s.graph.seq x → g.linked x ≡ true
  used_linked x h =
      ⊎_elim (λ e. e) (λ d. absurd (⊎_elim (λ e. none_some none refl (sym (ap loads (idle e.0)) ∙ e.1)) (λ e. none_some none refl (sym (ap clears (idle e.0)) ∙ e.1)) d)) (i.partition.one_of x h)

  -- ---- the chain is not empty
  module _ (within : 1 ≤ o.largest) (allowed : 1 ≤ s.service.limit) (more : s.graph.next 0 ≡ 0 → ⊥) where
    -- the first node
    first : ℕ
    first = s.graph.next 0

    -- the first node is waiting, as nobody executes it, and waits for none, as none is before it and nobody clears
    first_waiting : s.graph.executing first ≡ false
    unfolding first
    first_waiting = fails (s.graph.executing first) (λ h.
        let w = i.executing.held first (i.order.next_linked 0 (inl refl) more) h in
        none_some none refl (sym (ap executes (idle w.0)) ∙ w.1))

    first_set : (y : ℕ) → s.graph.waits first y ≡ false
    unfolding first
    first_set y = fails (s.graph.waits first y) (λ h.
        let w = i.sets.linked_sound first y (i.order.next_linked 0 (inl refl) more) h in
        let e = w.earlier in let u = w.used in let z = i.order.head_seq in
        let f = i.order.next_first 0 (inl refl) more y (used_linked y u) (omega arith) in
        absurd (omega arith))

    first_ready : ready s.graph first ≡ true
    unfolding ready
    first_ready = rw (first_waiting) (all_fail_none_below 192 (s.graph.waits first) (λ y below. first_set y))

    -- worker 1 enters, and takes the first node
    entered : State
    entered = move_to 1 (Searching (node 0)) (set_locked 0 true s.graph) s

    held : State
    held = move_to 1 (Holding (node first)) (set_locked first false (set_executing first true (step_on 0 first entered.graph))) entered

    enters : step o 1 s ≡ entered
    unfolding entered step worker_step step_idle is_allowed enter
    enters = rw (idle 1, le-leb 1 s.service.limit allowed, open_all 0)

    takes : step o 1 entered ≡ held
    unfolding held entered step worker_step first searching examine is_allowed ready move_to set_locked
    takes = let looks = searches o 1 (node 0) entered in rw (upd_same s.threads 1 (Searching (node 0)), ne_eqb (s.graph.next 0) 0 more, upd_other s.graph.locked 0 true (s.graph.next 0) more, open_all (s.graph.next 0), le-leb 1 s.service.limit allowed, first_ready)

    enters_ghost : ghost_step o 1 s g ≡ g
    unfolding ghost_step worker_ghost
    enters_ghost = rw (idle 1)

    takes_ghost : ghost_step o 1 entered g ≡ g
    unfolding entered ghost_step worker_ghost move_to set_locked
    takes_ghost = ap (λ v. worker_ghost o v entered g) (upd_same s.threads 1 (Searching (node 0)))

    held_lowered : Φ o held g + 2 ≤ Φ o s g
    unfolding Φ held entered first move_to set_locked set_executing step_on
    held_lowered =
        takes_lowered o s g i 1 first (upd (upd s.threads 1 (Searching (node 0))) 1 (Holding (node first))) (omega arith) within (i.order.next_linked 0 (inl refl) more) first_waiting
        (upd_same (upd s.threads 1 (Searching (node 0))) 1 (Holding (node first)))
        (λ u d. upd_other (upd s.threads 1 (Searching (node 0))) 1 (Holding (node first)) u d ∙ upd_other s.threads 1 (Searching (node 0)) u d)

    -- after the first of the two it is at work
    pub first_busy : is_idle ((step o 1 s).threads 1) ≡ false
    unfolding entered move_to is_idle
    first_busy = ap (λ (z : State). is_idle (z.threads 1)) enters ∙ ap is_idle (upd_same s.threads 1 (Searching (node 0)))

    -- so two steps of worker 1 take it
    pub first_lowered : Φ o (step o 1 (step o 1 s)) (ghost_step o 1 (step o 1 s) (ghost_step o 1 s g)) + 2 ≤ Φ o s g
    first_lowered = rw (enters, enters_ghost, takes, takes_ghost) held_lowered

  -- ---- the chain is empty
  module _ (end : s.graph.next 0 ≡ 0) where
    -- no node has a command
    none_used : (x : ℕ) → s.graph.seq x ≡ 0
    none_used x = go (eqb_cases (s.graph.seq x) 0)
      where
        go : ((s.graph.seq x ≡ 0) × (eqb (s.graph.seq x) 0 ≡ true)) ⊎ ((s.graph.seq x ≡ 0 → ⊥) × (eqb (s.graph.seq x) 0 ≡ false)) → s.graph.seq x ≡ 0
        go (inl e) = e.0
        go (inr e) =
            let d = e.0 in
            let l = i.order.last 0 (inl refl) end x (used_linked x (omega arith)) in
            let z = i.order.head_seq in
            absurd (omega arith)

    -- every loaded command is removed
    pub all_removed : (c : ℕ) → 1 ≤ c → c ≤ s.graph.loaded → g.removed c ≡ true
    all_removed c low high = ⊎_elim (λ e. e) (λ e. let z = none_used e.0 in let k = e.1 in absurd (omega arith)) (i.progress.accounted c low high)

    module _ (room : 1 ≤ o.size) (left : s.graph.loaded < length o.commands) where
      -- a node is free
      free_node : (1 ≤ s.graph.free) × (s.graph.free ≤ o.size) × (s.graph.seq s.graph.free ≡ 0)
      free_node = i.free_list.is_unused s.graph.free (first_in s.graph.next s.graph.free 1 g.frees i.free_list.chain (i.free_list.has_unused 1 (omega arith) room (none_used 1)))

      loads_first : step o 0 s ≡ load s
      unfolding step loader_step loader_idle
      loads_first = let f = free_node.0 in rw (idle 0, lt-leb (length o.commands) s.graph.loaded left, ne_eqb s.graph.free 0 (λ e. absurd (omega arith)), open_all 0)

      loads_ghost : ghost_step o 0 s g ≡ taken g
      unfolding ghost_step loader_ghost
      loads_ghost = let f = free_node.0 in rw (idle 0, lt-leb (length o.commands) s.graph.loaded left, ne_eqb s.graph.free 0 (λ e. absurd (omega arith)), open_all 0)

      -- the loader loads, and links at the head
      linked : State
      linked = link 0 s.graph.free (load s)

      head_ends : (load s).graph.next 0 ≡ 0
      unfolding load
      head_ends = let f = free_node.0 in upd_other s.graph.next s.graph.free 0 0 (λ e. absurd (omega arith)) ∙ end

      loader_at : (load s).threads 0 ≡ Loading (node 0) (node s.graph.free)
      unfolding load
      loader_at = upd_same s.threads 0 (Loading (node 0) (node s.graph.free))

      links : step o 0 (load s) ≡ linked
      unfolding linked step loader_step loader_walk
      links = rw (loader_at, eq-eqb ((load s).graph.next 0) 0 head_ends)

      links_ghost : ghost_step o 0 (load s) (taken g) ≡ linking s.graph.free true (taken g)
      unfolding ghost_step loader_ghost
      links_ghost = rw (loader_at, eq-eqb ((load s).graph.next 0) 0 head_ends)

      linked_lowered : Φ o linked (linking s.graph.free true (taken g)) + 2 ≤ Φ o s g
      unfolding Φ linked link load move_to set_locked set_loaded set_seq set_free set_next set_executing cost
      linked_lowered =
          let n = s.graph.free in
          let threads = upd (upd s.threads 0 (Loading (node 0) (node n))) 0 Idle in
          let mine : threads 0 ≡ Idle = upd_same (upd s.threads 0 (Loading (node 0) (node n))) 0 Idle in
          let one_less : length o.commands - s.graph.loaded ≡ suc (length o.commands - (s.graph.loaded + 1)) = omega arith in
          rw one_less (loaded_lowered o.size o.largest s.graph.seq (upd s.graph.seq n (s.graph.loaded + 1)) (present (s.threads 0) g.linked) (present (threads 0) (upd g.linked n true))
          s.graph.executing (upd s.graph.executing n false) s.threads threads 0 (omega arith)
          (λ u d. upd_other (upd s.threads 0 (Loading (node 0) (node n))) 0 Idle u d ∙ upd_other s.threads 0 (Loading (node 0) (node n)) u d)
          (λ u b d q. absurd (none_some none refl (sym (ap at (idle u)) ∙ q))) (length o.commands - (s.graph.loaded + 1)) n
          (λ z d h m. (
            linked_present (s.threads 0) g.linked z (⊎_elim (λ e. sym (upd_other g.linked n true z d) ∙ e) (λ e. absurd (none_some none refl (sym (ap loads mine) ∙ e))) (present_cases (threads 0) (upd g.linked n true) z h)),
            sym (upd_other s.graph.executing n false z d) ∙ m,
          )) free_node.1 (rw mine (omega arith)))

      -- after the first of the two it is at work
      pub next_busy : is_idle ((step o 0 s).threads 0) ≡ false
      unfolding is_idle
      next_busy = ap (λ (z : State). is_idle (z.threads 0)) loads_first ∙ ap is_idle loader_at

      -- so two steps of the loader load and link the next command
      pub next_lowered : Φ o (step o 0 (step o 0 s)) (ghost_step o 0 (step o 0 s) (ghost_step o 0 s g)) + 2 ≤ Φ o s g
      next_lowered = rw (loads_first, loads_ghost, links, links_ghost) linked_lowered

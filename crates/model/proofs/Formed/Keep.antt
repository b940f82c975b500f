-- Every step of every thread keeps a state's shape, on any state that has it, and so does every schedule. Assumes nothing.
use Rattle.std.specs.Prelude.{ℕ, ◌+◌, ◌≤◌, ◌<◌, ◌≡◌, Bool, ◌||◌, ◌&&◌, leb}
use native.Mathlib.Omega.{arith}
use Rattle.std.proofs.Math.Path.{refl}
use Rattle.std.proofs.Common.{subst, leb-true, leb-false}
use Rattle.std.proofs.Math.Bool.{true, false, and-eq-true_iff}
use mathlib.Core.List.{List, [], ◌∷◌}
use Rattle.std.proofs.Math.Option.{Option, none, some}
use Rattle.std.proofs.Math.ListN.{length}
use Rattle.std.proofs.Math.Dec.{eqb}
use Rattle.std.proofs.lemmas.Bool.{eqb-false}
use Rattle.command.specs.declared.Command.{Command}
use Rattle.model.specs.declared.Thread.{Thread}
use Rattle.model.specs.declared.Thread.TheVariants.{Idle, Loading, Searching, Holding, LookedUp, Written, Walking, Clearing}
use Rattle.model.specs.Upd.{upd}
use Rattle.model.specs.Setup.{Setup, command_at, both_dependent}
use Rattle.model.specs.Graph.{Graph, no_node}
use Rattle.model.specs.Image.{image_length}
use Rattle.model.specs.Service.{Service, found_for, in_one_step, image_after, write_for}
use Rattle.model.proofs.Searches.{searches}
use Rattle.model.specs.Step.{State, node, move_to, serve_to, command_of, step_on, load, loader_idle, link, add_dependence, loader_walk, loader_step, is_allowed, idle}
use Rattle.model.specs.Step.{enter, ready, examine, leave, searching, holding, looked_up, bypass, walking, return, clearing, worker_step, step, steps}
use Rattle.model.specs.Statement.{all_within}
use Rattle.command.proofs.Tests.{true_false, neither, cond_cases}
use Rattle.model.proofs.Chain.Invariant.{is_loader, is_worker}
use Rattle.model.proofs.Places.{command_place}
use Rattle.model.proofs.Image.{image_length_lem}
use Rattle.model.proofs.Formed.{ThreadFormed, ThreadAt, AnswerAt, SetupFormed, GraphFormed, ServiceFormed, Formed}
use Rattle.model.proofs.Formed.Store.{look_up_fits, write_kind_formed}
use Rattle.model.proofs.Formed.Set.{upd_keeps, moved_formed, served_formed, next_set, seq_set, executing_set, locked_set, waits_set, free_set, loaded_set}
use Rattle.command.specs.declared.Kind.{Kind}
use Rattle.command.specs.Dependent.{has_item, is_checkpoint}
use Rattle.command.proofs.Count.{count_fits}
use Rattle.command.proofs.Laws.{chute_that_fits}

module _ (o : Setup) (fit : SetupFormed o) where
  -- what the thread's state at t says of its nodes
  pub says : {s : State} → Formed o s → (t : ℕ) {th : Thread} → s.threads t ≡ th → ThreadFormed o.size th
  says k t e = subst (ThreadFormed o.size) e (k.threads t).0

  -- ---- the graph

  module _ {g : Graph} (k : GraphFormed o g) where
    -- stepping on locks a node and unlocks another
    pub step_on_formed : (a y : ℕ) → a ≤ o.size → y ≤ o.size → GraphFormed o (step_on a y g)
    unfolding step_on
    step_on_formed a y h j = locked_set o fit (locked_set o fit k y true j) a false h

    -- a set with a node of the graph added or taken out
    pub changed_set : (n y : ℕ) (b : Bool) → n ≤ o.size → y ≤ o.size → (z : ℕ) → upd (g.waits n) y b z ≡ true → z ≤ o.size
    changed_set n y b h j = upd_keeps (λ (z : ℕ) (m : Bool). m ≡ true → z ≤ o.size) y (λ _. j) (k.waits n).0

    -- the set gets one of the graph's nodes, or stays
    pub add_formed : (x y : ℕ) → x ≤ o.size → y ≤ o.size → GraphFormed o (add_dependence o x y g)
    unfolding add_dependence
    add_formed x y h j =
        cond_cases (GraphFormed o) (both_dependent (command_of o g y) (command_of o g x))
        (λ _. waits_set o fit k x (upd (g.waits x) y true) h (changed_set x y true h j)) (λ _. k)

    -- the worker's own node gets the first free node as its next, and all else of it is emptied
    pub return_formed : (x : ℕ) → x ≤ o.size → GraphFormed o (return x g)
    unfolding return no_node
    return_formed x h =
        let emptied = waits_set o fit k x no_node h (λ y e. absurd (true_false false e refl)) in
        let waiting = executing_set o fit (locked_set o fit emptied x false h) x false h in
        free_set o fit (next_set o fit (seq_set o fit waiting x 0 h (omega arith)) x g.free h k.free) x h

  -- ---- the loader

  -- the loader's new state needs its nodes and its role
  loader_at : (v : Thread) → ThreadFormed o.size v → is_loader v ≡ true → ThreadAt o.size 0 v
  loader_at v h r = (h, λ p. absurd (omega arith), λ _. r, λ p. absurd (omega arith))

  module _ {s : State} (k : Formed o s) where
    -- the node taken is the first free one, and the command is not past the last
    pub load_formed : s.graph.loaded < length o.commands → Formed o (load s)
    unfolding load
    load_formed l =
        let f = s.graph.free in
        let h = k.graph.free in
        let rest = free_set o fit k.graph (s.graph.next f) (k.graph.next f).0 in
        let placed = seq_set o fit (next_set o fit rest f 0 h (omega arith)) f (s.graph.loaded + 1) h (omega arith) in
        moved_formed k 0 (Loading (node 0) (node f)) (loader_at (Loading (node 0) (node f)) (omega arith, h) refl)
        (locked_set o fit (loaded_set o fit placed (s.graph.loaded + 1) (omega arith)) 0 true (omega arith))

    -- both nodes are the loader's
    pub link_formed : (a x : ℕ) → a ≤ o.size → x ≤ o.size → Formed o (link a x s)
    unfolding link
    link_formed a x h j =
        moved_formed k 0 Idle (loader_at Idle tt refl) (locked_set o fit (executing_set o fit (next_set o fit k.graph a x h j) x false j) a false h)

    -- the loader's nodes are its own, or next indexes
    pub loader_formed : (th : Thread) → s.threads 0 ≡ th → Formed o (loader_step o th s)
    unfolding loader_step loader_idle loader_walk
    loader_formed Idle e =
        cond_cases (Formed o) (leb (length o.commands) s.graph.loaded || eqb s.graph.free 0 || s.graph.locked 0) (λ _. k) (λ b.
        let h = (neither (leb (length o.commands) s.graph.loaded || eqb s.graph.free 0) (s.graph.locked 0) b).0 in
        load_formed (leb-false (length o.commands) s.graph.loaded (neither (leb (length o.commands) s.graph.loaded) (eqb s.graph.free 0) h).0))
    loader_formed (Loading a x) e =
        let h = says k 0 e in
        let y = s.graph.next a.0 in
        let j = (k.graph.next a.0).0 in
        let v = Loading (node y) (node x.0) in
        cond_cases (Formed o) (eqb y 0) (λ _. link_formed a.0 x.0 h.0 h.1)
        (λ _. cond_cases (Formed o) (s.graph.locked y) (λ _. k)
        (λ _. moved_formed k 0 v (loader_at v (j, h.1) refl) (add_formed (step_on_formed k.graph a.0 y h.0 j) x.0 y h.1 j)))
    loader_formed (Searching a) e = k
    loader_formed (Holding x) e = k
    loader_formed (LookedUp x f) e = k
    loader_formed (Written x) e = k
    loader_formed (Walking a x) e = k
    loader_formed (Clearing a x) e = k

  -- ---- the service

  module _ {v : Service} (k : ServiceFormed o v) where
    -- a lookup finds a number of two bytes
    pub found_fits_lem : (c : Option Command) → found_for c v.store < 65536
    unfolding found_for
    found_fits_lem none = omega arith
    found_fits_lem (some cmd) = cond_cases (λ (n : ℕ). n < 65536) (has_item cmd.kind) (λ _. look_up_fits v.store k.store cmd.key) (λ _. omega arith)

    -- an image that is written is as long as the one before
    image_after_length : (kind : Kind) (c : ℕ) → length v.image ≡ image_length o.capacity → length (image_after kind o.capacity c v.store v.image) ≡ image_length o.capacity
    unfolding image_after
    image_after_length kind c h = cond_cases (λ (l : List ℕ). length l ≡ image_length o.capacity) (is_checkpoint kind) (λ _. image_length_lem o.capacity c v.store) (λ _. h)

    -- a command writes its chute, of two bytes, and an answer at its own place
    pub write_formed : (c found : ℕ) → c ≤ length o.commands → (cmd : Option Command) → command_at o.commands c ≡ cmd → ServiceFormed o (write_for o cmd c found v)
    unfolding write_for
    write_formed c found h none e = k
    write_formed c found h (some cmd) e =
        let l = command_place o.commands c cmd e in
        record {
          store = write_kind_formed v.store k.store cmd.kind o.capacity cmd.key cmd.chute found (omega (arith, chute_that_fits cmd.kind cmd.chute (fit.chutes c cmd e)));
          answers = upd_keeps (AnswerAt (length o.commands)) c (λ e. absurd (omega arith), λ e. absurd (omega arith)) k.answers;
          limit = count_fits cmd v.limit (fit.chutes c cmd e) k.limit;
          image = image_after_length cmd.kind c k.image;
        }

  -- ---- the workers

  module _ (t : ℕ) (low : 1 ≤ t) (high : t ≤ o.largest) where
    -- a worker's new state needs its nodes and its role
    worker_at : (v : Thread) → ThreadFormed o.size v → is_worker v ≡ true → ThreadAt o.size t v
    worker_at v h r = (h, λ p. absurd (omega (arith, fit.largest)), λ p. absurd (omega arith), λ _. r)

    module _ {s : State} (k : Formed o s) where
      worker_moved : (v : Thread) → ThreadFormed o.size v → is_worker v ≡ true → {g : Graph} → GraphFormed o g → Formed o (move_to t v g s)
      worker_moved v h r = moved_formed k t v (worker_at v h r)

      worker_served : (v : Thread) → ThreadFormed o.size v → is_worker v ≡ true → {w : Service} → ServiceFormed o w → Formed o (serve_to t v w s)
      worker_served v h r = served_formed k t v (worker_at v h r)

      -- the head is a node
      pub enter_formed : (v : Thread) → ThreadFormed o.size v → is_worker v ≡ true → Formed o (enter t v s)
      unfolding enter
      enter_formed v h r = cond_cases (Formed o) (s.graph.locked 0) (λ _. k) (λ _. worker_moved v h r (locked_set o fit k.graph 0 true (omega arith)))

      -- both nodes are the worker's or next indexes
      pub examine_formed : (a y : ℕ) → a ≤ o.size → y ≤ o.size → Formed o (examine t a y s)
      unfolding examine
      examine_formed a y h j =
          let on = step_on_formed k.graph a y h j in
          cond_cases (Formed o) (is_allowed t s && ready s.graph y) (λ _. worker_moved (Holding (node y)) j refl (locked_set o fit (executing_set o fit on y true j) y false j))
          (λ _. worker_moved (Searching (node y)) j refl on)

      -- an idle thread has no node
      pub leave_formed : (a : ℕ) → a ≤ o.size → Formed o (leave t a s)
      unfolding leave
      leave_formed a h = worker_moved Idle tt refl (locked_set o fit k.graph a false h)

      -- a next index is copied from one node to another
      pub bypass_formed : (a x : ℕ) → a ≤ o.size → x ≤ o.size → Formed o (bypass t a x s)
      unfolding bypass
      bypass_formed a x h j = worker_moved (Clearing (node a) (node x)) (h, j) refl (next_set o fit k.graph a (s.graph.next x) h (k.graph.next x).0)

      -- a worker that has looked up writes at its own command's place
      pub writes_formed : (x found : ℕ) → x ≤ o.size → Formed o (looked_up o t x found s)
      unfolding looked_up command_of
      writes_formed x found h = worker_served (Written (node x)) h refl (write_formed k.service (s.graph.seq x) found (k.graph.seq x).0 (command_of o s.graph x) refl)

      -- a worker's nodes are its own, or next indexes
      pub worker_formed : (th : Thread) → s.threads t ≡ th → Formed o (worker_step o t th s)
      unfolding worker_step idle searching holding walking clearing
      worker_formed Idle e = cond_cases (Formed o) (is_allowed t s) (λ _. enter_formed (Searching (node 0)) (omega arith) refl) (λ _. k)
      worker_formed (Loading a x) e = k
      worker_formed (Searching a) e =
          let looks = searches o t a s in
          let h = says k t e in
          let y = s.graph.next a.0 in
          cond_cases (Formed o) (eqb y 0) (λ _. leave_formed a.0 h)
          (λ _. cond_cases (Formed o) (s.graph.locked y) (λ _. k) (λ _. examine_formed a.0 y h (k.graph.next a.0).0))
      worker_formed (Holding x) e =
          let c = command_of o s.graph x.0 in
          let found = found_for c s.service.store in
          cond_cases (Formed o) (in_one_step c) (λ _. writes_formed x.0 found (says k t e))
          (λ _. worker_served (LookedUp (node x.0) found) (says k t e, found_fits_lem k.service c) refl k.service)
      worker_formed (LookedUp x f) e = writes_formed x.0 f (says k t e).0
      worker_formed (Written x) e = enter_formed (Walking (node 0) x) (omega arith, says k t e) refl
      worker_formed (Walking a x) e =
          let h = says k t e in
          let y = s.graph.next a.0 in
          let j = (k.graph.next a.0).0 in
          cond_cases (Formed o) (eqb y 0 || s.graph.locked y) (λ _. k)
          (λ _. cond_cases (Formed o) (eqb y x.0) (λ _. bypass_formed a.0 x.0 h.0 h.1)
          (λ _. worker_moved (Walking (node y) (node x.0)) (j, h.1) refl (step_on_formed k.graph a.0 y h.0 j)))
      worker_formed (Clearing a x) e =
          let h = says k t e in
          let y = s.graph.next a.0 in
          let j = (k.graph.next a.0).0 in
          cond_cases (Formed o) (eqb y 0) (λ _. worker_moved Idle tt refl (return_formed (locked_set o fit k.graph a.0 false h.0) x.0 h.1))
          (λ _. cond_cases (Formed o) (s.graph.locked y) (λ _. k)
          (λ _. worker_moved (Clearing (node y) (node x.0)) (j, h.1) refl
          (waits_set o fit (step_on_formed k.graph a.0 y h.0 j) y (upd (s.graph.waits y) x.0 false) j (changed_set k.graph y x.0 false j h.1))))

-- ---- a step, and a schedule

-- a step of any thread up to the largest worker count
pub step_formed : (o : Setup) → SetupFormed o → (t : ℕ) → t ≤ o.largest → (s : State) → Formed o s → Formed o (step o t s)
unfolding step
step_formed o fit t high s k =
    cond_cases (Formed o) (eqb t 0) (λ _. loader_formed o fit k (s.threads 0) refl)
    (λ b. let n = eqb-false t 0 b in worker_formed o fit t (omega (arith, n)) high k (s.threads t) refl)

-- by induction on the schedule
pub steps_formed : (o : Setup) → SetupFormed o → (ts : List ℕ) → all_within o.largest ts ≡ true → (s : State) → Formed o s → Formed o (steps o ts s)
unfolding steps all_within
steps_formed o fit [] w s k = k
steps_formed o fit (t ∷ ts) w s k =
    let h = (and-eq-true_iff (leb t o.largest) (all_within o.largest ts)).0 w in
    steps_formed o fit ts h.1 (step o t s) (step_formed o fit t (leb-true t o.largest h.0) s k)

-- From every state that meets the invariant the dispatcher's schedule finishes: it removes every command and leaves every thread idle, in at
-- most as many steps as the measure says. Assumes nothing.
use Prim.Native.Nat.{ℕ, zero, suc, ◌+◌, ◌≤◌, ◌<◌}
use native.Mathlib.Omega.{arith}
use Rattle.std.specs.Prelude.{◌≡◌, Bool, not, List, [], ◌∷◌, ◌++◌, ◌⊎◌, length, eqb, leb}
use Rattle.std.proofs.Math.Path.{refl}
use Rattle.std.proofs.Common.{sym, ap, ◌∙◌}
use Rattle.std.proofs.Math.Bool.{true, false, or-false}
use Rattle.std.proofs.Math.Logic.{inl, inr, ⊎_elim}
use borrow.Author.Tests.{le-leb, leb-true, leb-false, eqb-true, eqb-false, not-true, not-false}
use Rattle.model.specs.declared.Thread.TheVariants.{Idle}
use Rattle.model.specs.Setup.{Setup}
use Rattle.model.specs.Step.{State, step, steps}
use Rattle.model.specs.Statement.{Accepted, EachCommand, all_within, removed}
use Rattle.model.specs.Dispatch.{rank, chosen, stands, is_idle, Next, stop, step_of, served, fresh, goes_on, following, steps_from, dispatched, steps_needed}
use Rattle.command.proofs.Tests.{eqb_cases, le_cases, cond_cases}
use Rattle.model.proofs.Chain.Invariant.{Ghost, Inv}
use Rattle.model.proofs.Chain.Ghost.{ghost_step, ghost_steps}
use Rattle.model.proofs.Chain.Keep.{keeps, steps_keep}
use Rattle.model.proofs.Finish.Foremost.{rank_idle, idle_is, busy_rank, standing_rank, Foremost, foremost_within, foremost_largest}
use Rattle.model.proofs.Finish.Measure.{Φ}
use Rattle.model.proofs.Finish.Onward.{step_others, foremost_kept}
use Rattle.model.proofs.Finish.Chosen.{foremost_lowered}
use Rattle.model.proofs.Finish.Idle.{first_lowered, next_lowered, first_busy, next_busy, all_removed}
use Rattle.model.proofs.Finish.Left.{measure_needed}
use Rattle.model.proofs.Finish.Schedule.{steps_tell, steps_append, ghost_steps_append, within_append}
use Rattle.model.proofs.Service.{largest_fits, count_within}

-- every command is removed, and every thread idle
abbrev pub Finished : Setup → State → Ghost → Type 0
Finished o s g = EachCommand o (λ c. g.removed c ≡ true) × ((t : ℕ) → t ≤ o.largest → s.threads t ≡ Idle)

-- the steps m are threads' up to the largest worker count and finish, and they are no more than the measure says
abbrev pub Finishes : Setup → State → Ghost → List ℕ → Type 0
Finishes o s g m = (all_within o.largest m ≡ true) × Finished o (steps o m s) (ghost_steps o m s g) × (length m ≤ Φ o s g)

-- ---- what may come next

-- thread t is at work, and nobody is further along
abbrev AtWork : Setup → State → ℕ → Type 0
AtWork o s t = Foremost o s t × (1 ≤ rank s.graph.seq (s.threads t))

-- all are idle, and thread t begins: worker 1 where the chain is not empty, else the loader where a command is left
abbrev Begins : Setup → State → ℕ → Type 0
Begins o s t = ((u : ℕ) → s.threads u ≡ Idle) × (((t ≡ 1) × (s.graph.next 0 ≡ 0 → ⊥)) ⊎ ((t ≡ 0) × (s.graph.next 0 ≡ 0) × (s.graph.loaded < length o.commands)))

-- no thread but t is at work
abbrev Alone : State → ℕ → Type 0
Alone s t = (u : ℕ) → (u ≡ t → ⊥) → s.threads u ≡ Idle

abbrev Comes : Setup → State → Ghost → Next → Type 0
Comes o s g stop = Finished o s g
Comes o s g (step_of false t) = (t ≤ o.largest) × AtWork o s t
Comes o s g (step_of true t) = (t ≤ o.largest) × Alone s t × (AtWork o s t ⊎ Begins o s t)

-- two of a thread's steps, of which the first leaves it at work, are the first two of the schedule that is settled on it
steps_twice : (o : Setup) (k t : ℕ) (s : State) → is_idle ((step o t s).threads t) ≡ false →
    steps_from o (suc (suc k)) (step_of true t) s ≡ t ∷ t ∷ steps_from o k (following o true t (step o t (step o t s))) (step o t (step o t s))
unfolding steps_from following goes_on
steps_twice o k t s e = rw e

module _ (o : Setup) (accepted : Accepted o) (s : State) (g : Ghost) (i : Inv o s g) where
  -- where all are idle, worker 1 or the loader begins, or all is finished
  served_comes : ((u : ℕ) → s.threads u ≡ Idle) → Comes o s g (served o s)
  unfolding served
  served_comes idle =
      cond_cases (Comes o s g) (eqb (s.graph.next 0) 0)
      (λ e. let end = eqb-true (s.graph.next 0) 0 e in cond_cases (Comes o s g) (leb (length o.commands) s.graph.loaded)
      (λ l. let le = leb-true (length o.commands) s.graph.loaded l in (λ c low high. all_removed o s g i idle end c low (omega arith), λ t h. idle t))
      (λ l. (omega arith, λ u d. idle u, inr (idle, inr (refl, end, leb-false (length o.commands) s.graph.loaded l)))))
      (λ e. ((largest_fits o accepted).0, λ u d. idle u, inr (idle, inl (refl, eqb-false (s.graph.next 0) 0 e))))

  -- the chosen thread is foremost
  chosen_foremost : Foremost o s (chosen o s)
  unfolding chosen
  chosen_foremost u h = foremost_largest (λ t. rank s.graph.seq (s.threads t)) o.largest u h

  chosen_within : chosen o s ≤ o.largest
  unfolding chosen
  chosen_within = foremost_within (λ t. rank s.graph.seq (s.threads t)) o.largest

  -- where it is idle, all threads are
  all_idle : rank s.graph.seq (s.threads (chosen o s)) ≡ 0 → (t : ℕ) → s.threads t ≡ Idle
  all_idle e t = ⊎_elim (λ l. let f = chosen_foremost t l in rank_idle s.graph.seq (s.threads t) (omega arith)) (λ l. i.roles.rest t l) (le_cases t o.largest)

  fresh_comes : Comes o s g (fresh o false s)
  unfolding fresh
  fresh_comes =
      cond_cases (Comes o s g) (eqb (rank s.graph.seq (s.threads (chosen o s))) 0)
      (λ e. served_comes (all_idle (eqb-true (rank s.graph.seq (s.threads (chosen o s))) 0 e)))
      (λ e. let d = eqb-false (rank s.graph.seq (s.threads (chosen o s))) 0 e in (chosen_within, (chosen_foremost, omega arith)))

  -- a thread that alone is at work is the foremost
  alone_foremost : (t : ℕ) → Alone s t → Foremost o s t
  unfolding rank
  alone_foremost t alone u h = ⊎_elim (λ e. rw e.0 (omega arith)) (λ e. rw (alone u e.0) (omega arith)) (eqb_cases u t)

  -- once settled: the same thread, until all are idle
  settled_comes : (t : ℕ) → t ≤ o.largest → Alone s t → Comes o s g (following o true t s)
  unfolding following goes_on fresh
  settled_comes t within alone =
      cond_cases (Comes o s g) (not (is_idle (s.threads t)))
      (λ e. (within, alone, inl (alone_foremost t alone, busy_rank s.graph.seq (s.threads t) (not-true (is_idle (s.threads t)) e))))
      (λ e. served_comes (λ u. ⊎_elim (λ q. rw q.0 (idle_is (s.threads t) (not-false (is_idle (s.threads t)) e))) (λ q. alone u q.0) (eqb_cases u t)))

module _ (o : Setup) (accepted : Accepted o) (s : State) (g : Ghost) (i : Inv o s g) (t : ℕ) (within : t ≤ o.largest) where
  -- the others stay idle
  alone_kept : Alone s t → Alone (step o t s) t
  alone_kept alone u d = step_others o s t u d ∙ alone u d

  -- after a step of the foremost thread: the same while it stands, else the foremost of all
  unsettled_comes : AtWork o s t → Comes o (step o t s) (ghost_step o t s g) (following o false t (step o t s))
  unfolding following goes_on
  unsettled_comes work =
      cond_cases (Comes o (step o t s) (ghost_step o t s g)) (stands ((step o t s).threads t))
      (λ e. (within, (foremost_kept o s g i t work.0 work.1 e, standing_rank (step o t s).graph.seq ((step o t s).threads t) e)))
      (λ e. fresh_comes o accepted (step o t s) (ghost_step o t s g) (keeps o accepted t within s g i))

-- ---- the schedule finishes

-- no step finishes what is finished
none_finishes : (o : Setup) (s : State) (g : Ghost) → Finished o s g → Finishes o s g []
unfolding steps ghost_steps all_within
none_finishes o s g f = (refl, f, omega arith)

-- a step that lowers the measure, and then steps that finish, finish; and so do two
one_more : (o : Setup) (s : State) (g : Ghost) (t : ℕ) (m : List ℕ) → t ≤ o.largest → Φ o (step o t s) (ghost_step o t s g) + 1 ≤ Φ o s g →
    Finishes o (step o t s) (ghost_step o t s g) m → Finishes o s g (t ∷ m)
unfolding steps ghost_steps all_within
one_more o s g t m within l f = let a = f.2 in (rw (le-leb t o.largest within) f.0, f.1, omega arith)

two_more : (o : Setup) (s : State) (g : Ghost) (t : ℕ) (m : List ℕ) → t ≤ o.largest → Φ o (step o t (step o t s)) (ghost_step o t (step o t s) (ghost_step o t s g)) + 2 ≤ Φ o s g →
    Finishes o (step o t (step o t s)) (ghost_step o t (step o t s) (ghost_step o t s g)) m → Finishes o s g (t ∷ t ∷ m)
unfolding steps ghost_steps all_within
two_more o s g t m within l f = let a = f.2 in (rw (le-leb t o.largest within) f.0, f.1, omega arith)

-- where there is nothing to come, there is no step
pub steps_none : (o : Setup) (k : ℕ) (s : State) → steps_from o k stop s ≡ []
unfolding steps_from
steps_none o zero s = refl
steps_none o (suc k) s = refl

module _ (o : Setup) (accepted : Accepted o) where
  -- worker 1 is within the count in force
  limit_positive : (s : State) (g : Ghost) → Inv o s g → 1 ≤ s.service.limit
  limit_positive s g i = rw i.service.limited (count_within o accepted g.written).0

  -- two steps of a thread that begins lower the measure by two, and after the first it is at work
  begun : (s : State) (g : Ghost) (i : Inv o s g) (t : ℕ) → Begins o s t →
      (Φ o (step o t (step o t s)) (ghost_step o t (step o t s) (ghost_step o t s g)) + 2 ≤ Φ o s g) × (is_idle ((step o t s).threads t) ≡ false)
  begun s g i t (idle, which) =
      ⊎_elim
      (λ e. rw e.0 (first_lowered o s g i idle (largest_fits o accepted).0 (limit_positive s g i) e.1, first_busy o s g i idle (largest_fits o accepted).0 (limit_positive s g i) e.1))
      (λ e. rw e.0 (next_lowered o s g i idle e.1 accepted.size.0 e.2, next_busy o s g i idle e.1 accepted.size.0 e.2))
      which

  -- the schedule of at most k steps finishes, where the measure is at most k
  Ends : ℕ → Type 0
  Ends k = (n : Next) (s : State) (g : Ghost) → Inv o s g → Comes o s g n → Φ o s g ≤ k → Finishes o s g (steps_from o k n s)

  -- if shorter ones do: what comes next lowers the measure, and where nothing comes all is finished
  module _ (k : ℕ) (shorter : (j : ℕ) → j < k → Ends j) where
    -- one step of thread t, and the rest of the schedule
    one_step : (settled : Bool) (t : ℕ) (s : State) (g : Ghost) (i : Inv o s g) (within : t ≤ o.largest) → AtWork o s t →
        Comes o (step o t s) (ghost_step o t s g) (following o settled t (step o t s)) → Φ o s g ≤ k → Finishes o s g (steps_from o k (step_of settled t) s)
    unfolding Ends steps_from
    one_step settled t s g i within w next h =
        let l = foremost_lowered o s g i t within w.0 w.1 in
        go k refl l
      where
        go : (k' : ℕ) → k ≡ k' → Φ o (step o t s) (ghost_step o t s g) + 1 ≤ Φ o s g → Finishes o s g (steps_from o k' (step_of settled t) s)
        go zero e l = absurd (omega arith)
        go (suc j) e l = one_more o s g t _ within l (shorter j (omega arith) (following o settled t (step o t s)) (step o t s) (ghost_step o t s g) (keeps o accepted t within s g i) next (omega arith))

    -- two steps of a thread that begins, and the rest
    two_steps : (t : ℕ) (s : State) (g : Ghost) (i : Inv o s g) (within : t ≤ o.largest) → Alone s t → Begins o s t → Φ o s g ≤ k → Finishes o s g (steps_from o k (step_of true t) s)
    unfolding Ends
    two_steps t s g i within alone b h = go k refl (begun s g i t b)
      where
        once : Inv o (step o t s) (ghost_step o t s g)
        once = keeps o accepted t within s g i

        twice : Inv o (step o t (step o t s)) (ghost_step o t (step o t s) (ghost_step o t s g))
        twice = keeps o accepted t within (step o t s) (ghost_step o t s g) once

        go : (k' : ℕ) → k ≡ k' → (Φ o (step o t (step o t s)) (ghost_step o t (step o t s) (ghost_step o t s g)) + 2 ≤ Φ o s g) × (is_idle ((step o t s).threads t) ≡ false) →
            Finishes o s g (steps_from o k' (step_of true t) s)
        go zero e l = let m = l.0 in absurd (omega arith)
        go (suc zero) e l = let m = l.0 in absurd (omega arith)
        go (suc (suc j)) e l =
            let m = l.0 in
            rw (steps_twice o j t s l.1) (two_more o s g t _ within l.0
            (shorter j (omega arith) (following o true t (step o t (step o t s))) (step o t (step o t s)) (ghost_step o t (step o t s) (ghost_step o t s g)) twice
            (settled_comes o accepted (step o t (step o t s)) (ghost_step o t (step o t s) (ghost_step o t s g)) twice t within (alone_kept o accepted (step o t s) (ghost_step o t s g) once t within (alone_kept o accepted s g i t within alone)))
            (omega arith)))

    longer : Ends k
    unfolding Ends
    longer stop s g i c h = rw (steps_none o k s) (none_finishes o s g c)
    longer (step_of false t) s g i c h = one_step false t s g i c.0 c.1 (unsettled_comes o accepted s g i t c.0 c.1) h
    longer (step_of true t) s g i c h =
        ⊎_elim
        (λ w. one_step true t s g i c.0 w (settled_comes o accepted (step o t s) (ghost_step o t s g) (keeps o accepted t c.0 s g i) t c.0 (alone_kept o accepted s g i t c.0 c.1)) h)
        (λ b. two_steps t s g i c.0 c.1 b h) c.2

  ends_below : (k j : ℕ) → j < k → Ends j
  ends_below zero j l = absurd (omega arith)
  ends_below (suc k) j l = longer j (λ m q. ends_below k m (omega arith))

  -- the dispatcher's schedule finishes, within the measure
  pub dispatch_finishes : (s : State) (g : Ghost) → Inv o s g → Finishes o s g (dispatched o s)
  unfolding dispatched Ends
  dispatch_finishes s g i = ends_below (suc (steps_needed o s)) (steps_needed o s) (omega arith) (fresh o false s) s g i (fresh_comes o accepted s g i) (measure_needed o s g i accepted.size.0)

  -- After a schedule from a state in which no command is removed, the dispatcher's steps leave every command returned by the schedule or by
  -- themselves, and every thread idle.
  pub schedule_finishes : (s : State) (g : Ghost) → Inv o s g → ((c : ℕ) → g.removed c ≡ false) → (ts : List ℕ) → all_within o.largest ts ≡ true →
      let more : List ℕ = dispatched o (steps o ts s) in
      (all_within o.largest more ≡ true) × EachCommand o (λ c. removed o c (ts ++ more) s ≡ true) × ((t : ℕ) → t ≤ o.largest → (steps o (ts ++ more) s).threads t ≡ Idle)
  schedule_finishes s g i none_removed ts within =
      let s' = steps o ts s in
      let g' = ghost_steps o ts s g in
      let f = dispatch_finishes s' g' (steps_keep o accepted ts within s g i) in
      (f.0, returned (dispatched o s') f.0 f.1.0, rw (steps_append o ts (dispatched o s') s) f.1.1)
    where
      returned : (more : List ℕ) → all_within o.largest more ≡ true → EachCommand o (λ c. (ghost_steps o more (steps o ts s) (ghost_steps o ts s g)).removed c ≡ true) →
          EachCommand o (λ c. removed o c (ts ++ more) s ≡ true)
      returned more w h c low high =
          let k = (steps_tell o accepted c low (ts ++ more) (within_append o.largest ts more within w) s g i).1 in
          sym (k ∙ rw (none_removed c) (or-false (removed o c (ts ++ more) s))) ∙ (ap (λ (z : Ghost). z.removed c) (ghost_steps_append o ts more s g) ∙ h c low high)

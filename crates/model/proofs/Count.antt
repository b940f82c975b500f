-- The promise on the worker count, proved. At a taking, every earlier command on which the taken one depends is answered, and no later one
-- that depends on it is: so the count in force is that of the last kind 5 delivered before it. Assumes nothing.
use Rattle.std.specs.Prelude.{ℕ, ◌+◌, ◌≤◌, ◌<◌, ◌≡◌, Bool, true, false, cond, ◌&&◌, ◌||◌, List, [], ◌∷◌, ◌⊎◌, length, leb}
use Rattle.std.proofs.Common.{arith, sym, ◌∙◌, inl, inr, ⊎_elim}
use Rattle.std.proofs.Math.Path.{refl, ap}
use Rattle.std.proofs.Math.Bool.{and-eq-true_iff}
use Rattle.std.proofs.Math.Option.{none, some}
use Rattle.std.proofs.Math.Dec.{eqb}
use borrow.Author.Tests.{leb-true, leb-false, lt-leb, ne_eqb, eqb-false}
use Rattle.node_set.specs.declared.Node.{Node}
use Rattle.model.specs.declared.Thread.{Thread}
use Rattle.model.specs.declared.Thread.TheVariants.{Idle, Loading, Searching, Holding, LookedUp, Written, Walking, Clearing}
use Rattle.model.specs.Upd.{upd}
use Rattle.model.specs.Setup.{Setup, both_dependent}
use Rattle.model.specs.Graph.{Graph, set_next, set_seq, set_executing, set_locked, set_waits, set_free, set_loaded}
use Rattle.model.specs.Service.{in_one_step}
use Rattle.model.proofs.Searches.{searches}
use Rattle.model.specs.Step.{State, node, opened, command_of, loader_step, loader_idle, load, loader_walk, link, add_dependence, step_on, move_to, serve_to, is_allowed, ready, idle, enter, searching, leave, examine, holding, looked_up, walking, bypass, clearing, return, worker_step, step, steps}
use Rattle.model.specs.Statement.{Accepted, all_within}
use Rattle.model.specs.Count.{count_before, node_of, with_limit, CountIsKept}
use Rattle.command.proofs.Tests.{neither, true_false, none_some, cond_cases}
use Rattle.model.proofs.Upd.{upd_same, upd_other, upd_cases}
use Rattle.model.proofs.Service.{count_agree, count_found}
use Rattle.model.proofs.Chain.Invariant.{Ghost, Inv, executes, clears, done}
use Rattle.model.proofs.Chain.Ghost.{ghost_step}
use Rattle.model.proofs.Chain.Facts.{executes_used}
use Rattle.model.proofs.Chain.Load.{same}
use Rattle.model.proofs.Chain.Take.{node_taken}
use Rattle.model.proofs.Chain.Write.{node_command, earlier_answered, unanswered}
use Rattle.model.proofs.Chain.Opening.{opened_ghost, opened_meets}
use Rattle.model.proofs.Chain.Keep.{keeps}
use Rattle.model.proofs.Theorem.{reached, written_is}

-- a worker's node is in the chain and executing, or bypassed
own_cases : (th : Thread) (x : ℕ) → node_of th ≡ some x → (executes th ≡ some x) ⊎ (clears th ≡ some x)
own_cases Idle x e = absurd (none_some none refl e)
own_cases (Loading a n) x e = absurd (none_some none refl e)
own_cases (Searching a) x e = absurd (none_some none refl e)
own_cases (Holding n) x e = inl e
own_cases (LookedUp n f) x e = inl e
own_cases (Written n) x e = inl e
own_cases (Walking a n) x e = inl e
own_cases (Clearing a n) x e = inr e

-- the count in force is the count before the command of a worker that has not written
limit_found : (o : Setup) (s : State) (g : Ghost) → Inv o s g → (t x : ℕ) → executes (s.threads t) ≡ some x → done (s.threads t) ≡ none
    → s.service.limit ≡ count_before o (s.graph.seq x)
limit_found o s g i t x own not_yet =
    let command = node_command o s g i x (executes_used o s g i t x own) in
    i.service.limited
    ∙ count_found o g.written (s.graph.seq x) command.0 i.service.closed command.1 (unanswered o s g i t x own not_yet)
    (earlier_answered o s g i x command.0 (i.executing.own_linked t x own) (i.executing.own_executing t x own) command.1)

-- ---- whoever has a node is within the count before its command

abbrev Owned : Setup → (ℕ → Thread) → (ℕ → ℕ) → Type 0
Owned o threads seq = (u x : ℕ) → node_of (threads u) ≡ some x → u ≤ count_before o (seq x)

abbrev OwnedAt : Setup → State → Type 0
OwnedAt o s = Owned o s.threads s.graph.seq

module _ (o : Setup) (acc : Accepted o) (s : State) (g : Ghost) (i : Inv o s g) (p : OwnedAt o s) where
  own_used : (u x : ℕ) → node_of (s.threads u) ≡ some x → 1 ≤ s.graph.seq x
  own_used u x e = ⊎_elim (executes_used o s g i u x) (i.clearing.used u x) (own_cases (s.threads u) x e)

  -- a step after which thread t has a node within the count, and the others' nodes keep their commands
  moved : (t : ℕ) (v : Thread) (seq' : ℕ → ℕ) → ((x : ℕ) → node_of v ≡ some x → t ≤ count_before o (seq' x))
      → ((u x : ℕ) → (u ≡ t → ⊥) → node_of (s.threads u) ≡ some x → seq' x ≡ s.graph.seq x) → Owned o (upd s.threads t v) seq'
  moved t v seq' mine kept u x e = ⊎_elim (λ h. own h.0 h.1) (λ h. other h.0 h.1) (upd_cases s.threads t v u)
    where
      own : u ≡ t → upd s.threads t v u ≡ v → u ≤ count_before o (seq' x)
      own q h = rw q (mine x (ap node_of (sym h) ∙ e))

      other : (u ≡ t → ⊥) → upd s.threads t v u ≡ s.threads u → u ≤ count_before o (seq' x)
      other d h = let k = ap node_of (sym h) ∙ e in rw (kept u x d k) (p u x k)

  -- thread t has no node then
  empty : (t : ℕ) (v : Thread) → node_of v ≡ none → Owned o (upd s.threads t v) s.graph.seq
  empty t v out = moved t v s.graph.seq (λ x e. absurd (none_some (node_of v) out e)) (λ u x d e. refl)

  -- or the node that it had
  goes_on : (t : ℕ) (v : Thread) → node_of v ≡ node_of (s.threads t) → Owned o (upd s.threads t v) s.graph.seq
  goes_on t v still = moved t v s.graph.seq (λ x e. p t x (sym still ∙ e)) (λ u x d e. refl)

  loader_owned : (th : Thread) → s.threads 0 ≡ th → OwnedAt o (loader_step o th s)
  unfolding loader_step loader_idle load loader_walk link add_dependence step_on move_to set_next set_seq set_executing set_locked set_waits set_free set_loaded
  loader_owned Idle e =
      cond_cases (OwnedAt o) (leb (length o.commands) s.graph.loaded || eqb s.graph.free 0 || s.graph.locked 0) (λ _. p) (λ b.
      let k = neither (leb (length o.commands) s.graph.loaded || eqb s.graph.free 0) (s.graph.locked 0) b in
      let j = neither (leb (length o.commands) s.graph.loaded) (eqb s.graph.free 0) k.0 in
      moved 0 (Loading (node 0) (node s.graph.free)) (upd s.graph.seq s.graph.free (s.graph.loaded + 1)) (λ x h. absurd (none_some none refl h))
      (λ u x d h. same o s g i e (leb-false (length o.commands) s.graph.loaded j.0) (eqb-false s.graph.free 0 j.1) k.1 x (own_used u x h)))
  loader_owned (Loading a x) e =
      let y = s.graph.next a.0 in
      let v = Loading (node y) (node x.0) in
      cond_cases (OwnedAt o) (eqb y 0) (λ _. empty 0 Idle refl) (λ _. cond_cases (OwnedAt o) (s.graph.locked y) (λ _. p)
      (λ _. cond_cases (λ (h : Graph). Owned o (upd s.threads 0 v) h.seq) (both_dependent (command_of o (step_on a.0 y s.graph) y) (command_of o (step_on a.0 y s.graph) x.0)) (λ _. empty 0 v refl) (λ _. empty 0 v refl)))
  loader_owned (Searching a) e = p
  loader_owned (Holding x) e = p
  loader_owned (LookedUp x f) e = p
  loader_owned (Written x) e = p
  loader_owned (Walking a x) e = p
  loader_owned (Clearing a x) e = p

  module _ (t : ℕ) (low : 1 ≤ t) (high : t ≤ o.largest) where
    -- a taking asks that t is within the count in force
    takes : (a : Node) → s.threads t ≡ Searching a → (s.graph.next a.0 ≡ 0 → ⊥) → s.graph.locked (s.graph.next a.0) ≡ false
        → is_allowed t s && ready s.graph (s.graph.next a.0) ≡ true → Owned o (upd s.threads t (Holding (node (s.graph.next a.0)))) s.graph.seq
    unfolding is_allowed move_to set_locked set_executing step_on
    takes a e more free r =
        let y = s.graph.next a.0 in
        let k = (and-eq-true_iff (is_allowed t s) (ready s.graph y)).0 r in
        let within = leb-true t s.service.limit k.0 in
        let v = Holding (node y) in
        let found = limit_found o _ g (node_taken o acc s g i t low high a e more free k.1) t y (ap executes (upd_same s.threads t v)) (ap done (upd_same s.threads t v)) in
        moved t v s.graph.seq (λ x h. let q : x ≡ y = cc in rw q (omega (arith, within, found))) (λ u x d h. refl)

    -- the node that t returns is nobody else's
    returns : (a x : Node) → s.threads t ≡ Clearing a x → Owned o (upd s.threads t Idle) (upd s.graph.seq x.0 0)
    returns a x e =
        moved t Idle (upd s.graph.seq x.0 0) (λ y h. absurd (none_some none refl h))
        (λ u y d h. upd_other s.graph.seq x.0 0 y (λ q. ⊎_elim
        (λ k. true_false (g.linked y) (i.executing.own_linked u y k) (ap g.linked q ∙ i.clearing.out t x.0 (ap clears e)))
        (λ k. d (i.clearing.alone u t y k (ap clears e ∙ ap some (sym q)))) (own_cases (s.threads u) y h)))

    worker_owned : (th : Thread) → s.threads t ≡ th → OwnedAt o (worker_step o t th s)
    unfolding worker_step idle enter searching leave examine holding looked_up walking bypass clearing return command_of step_on move_to serve_to set_next set_seq set_executing set_locked set_waits set_free
    worker_owned Idle e = cond_cases (OwnedAt o) (is_allowed t s) (λ _. cond_cases (OwnedAt o) (s.graph.locked 0) (λ _. p) (λ _. empty t (Searching (node 0)) refl)) (λ _. p)
    worker_owned (Loading a x) e = p
    worker_owned (Searching a) e =
        let looks = searches o t a s in
        let y = s.graph.next a.0 in
        cond_cases (OwnedAt o) (eqb y 0) (λ _. empty t Idle refl) (λ b. cond_cases (OwnedAt o) (s.graph.locked y) (λ _. p)
        (λ u. cond_cases (OwnedAt o) (is_allowed t s && ready s.graph y) (takes a e (eqb-false y 0 b) u) (λ _. empty t (Searching (node y)) refl)))
    worker_owned (Holding x) e =
        cond_cases (OwnedAt o) (in_one_step (command_of o s.graph x.0)) (λ _. goes_on t (Written (node x.0)) (sym (ap node_of e))) (λ _. goes_on t (LookedUp (node x.0) _) (sym (ap node_of e)))
    worker_owned (LookedUp x f) e = goes_on t (Written (node x.0)) (sym (ap node_of e))
    worker_owned (Written x) e = cond_cases (OwnedAt o) (s.graph.locked 0) (λ _. p) (λ _. goes_on t (Walking (node 0) x) (sym (ap node_of e)))
    worker_owned (Walking a x) e =
        let y = s.graph.next a.0 in
        cond_cases (OwnedAt o) (eqb y 0 || s.graph.locked y) (λ _. p)
        (λ _. cond_cases (OwnedAt o) (eqb y x.0) (λ _. goes_on t (Clearing (node a.0) (node x.0)) (sym (ap node_of e))) (λ _. goes_on t (Walking (node y) (node x.0)) (sym (ap node_of e))))
    worker_owned (Clearing a x) e =
        let y = s.graph.next a.0 in
        cond_cases (OwnedAt o) (eqb y 0) (λ _. returns a x e)
        (λ _. cond_cases (OwnedAt o) (s.graph.locked y) (λ _. p) (λ _. goes_on t (Clearing (node y) (node x.0)) (sym (ap node_of e))))

-- every step, and every schedule, keeps it
step_owned : (o : Setup) → Accepted o → (s : State) (g : Ghost) → Inv o s g → OwnedAt o s → (t : ℕ) → t ≤ o.largest → OwnedAt o (step o t s)
unfolding step
step_owned o acc s g i p t high =
    cond_cases (OwnedAt o) (eqb t 0) (λ _. loader_owned o acc s g i p (s.threads 0) refl)
    (λ b. let n = eqb-false t 0 b in worker_owned o acc s g i p t (omega (arith, n)) high (s.threads t) refl)

steps_owned : (o : Setup) → Accepted o → (ts : List ℕ) → all_within o.largest ts ≡ true → (s : State) (g : Ghost) → Inv o s g → OwnedAt o s → OwnedAt o (steps o ts s)
unfolding steps all_within
steps_owned o acc [] w s g i p = p
steps_owned o acc (t ∷ ts) w s g i p =
    let k = (and-eq-true_iff (leb t o.largest) (all_within o.largest ts)).0 w in
    let high = leb-true t o.largest k.0 in
    steps_owned o acc ts k.1 (step o t s) (ghost_step o t s g) (keeps o acc t high s g i) (step_owned o acc s g i p t high)

-- from the opening, where nobody has a node
reached_owned : (o : Setup) → Accepted o → (ts : List ℕ) → all_within o.largest ts ≡ true → OwnedAt o (steps o ts (opened o))
unfolding opened
reached_owned o acc ts w = steps_owned o acc ts w (opened o) (opened_ghost o) (opened_meets o acc) (λ u x e. absurd (none_some none refl e))

-- ---- what the count in force does, on every state

module _ (o : Setup) (s : State) (t : ℕ) where
  -- an idle worker above it waits
  idle_waits : s.service.limit < t → s.threads t ≡ Idle → step o t s ≡ s
  unfolding step worker_step idle is_allowed
  idle_waits above here = rw (ne_eqb t 0 (λ (z : t ≡ 0). omega arith), here, lt-leb t s.service.limit above)

  -- a searching one goes on without a node
  takes_nothing : (a : Node) → s.service.limit < t → s.threads t ≡ Searching a → node_of ((step o t s).threads t) ≡ none
  unfolding step worker_step searching leave examine is_allowed move_to
  takes_nothing a above here =
      rw (ne_eqb t 0 (λ (z : t ≡ 0). omega arith), here, lt-leb t s.service.limit above)
      (cond_cases Without (eqb (s.graph.next a.0) 0) (λ _. ap node_of (upd_same s.threads t Idle))
      (λ _. cond_cases Without (s.graph.locked (s.graph.next a.0)) (λ _. ap node_of here) (λ _. ap node_of (upd_same s.threads t (Searching (node (s.graph.next a.0)))))))
    where
      Without : State → Type 0
      Without s' = node_of (s'.threads t) ≡ none

  -- with a node no worker looks at it
  abbrev Alike : State → State → Type 0
  Alike a b = (a.graph ≡ b.graph) × (a.threads ≡ b.threads)

  either : (b : Bool) (w x y z : State) → Alike w y → Alike x z → Alike (cond b w x) (cond b y z)
  either true w x y z p q = p
  either false w x y z p q = q

  alike : (n x : ℕ) (th : Thread) → node_of th ≡ some x → Alike (worker_step o t th (with_limit n s)) (worker_step o t th s)
  unfolding worker_step enter holding looked_up walking bypass clearing command_of move_to serve_to
  alike n x Idle e = absurd (none_some none refl e)
  alike n x (Loading a y) e = absurd (none_some none refl e)
  alike n x (Searching a) e = absurd (none_some none refl e)
  alike n x (Holding y) e = either (in_one_step (command_of o s.graph y.0)) _ _ _ _ (refl, refl) (refl, refl)
  alike n x (LookedUp y f) e = (refl, refl)
  alike n x (Written y) e = either (s.graph.locked 0) _ _ _ _ (refl, refl) (refl, refl)
  alike n x (Walking a y) e =
      let z = s.graph.next a.0 in
      either (eqb z 0 || s.graph.locked z) _ _ _ _ (refl, refl) (either (eqb z y.0) _ _ _ _ (refl, refl) (refl, refl))
  alike n x (Clearing a y) e =
      let z = s.graph.next a.0 in
      either (eqb z 0) _ _ _ _ (refl, refl) (either (s.graph.locked z) _ _ _ _ (refl, refl) (refl, refl))

  goes_on_alike : (x n : ℕ) → 1 ≤ t → node_of (s.threads t) ≡ some x → Alike (step o t (with_limit n s)) (step o t s)
  unfolding step
  goes_on_alike x n low e = rw (ne_eqb t 0 (λ (z : t ≡ 0). omega arith)) (alike n x (s.threads t) e)

pub count_is_kept : CountIsKept
count_is_kept o acc ts w = record {
  in_force = (reached o acc ts w).service.limited ∙ count_agree o _ _ (λ c low high. written_is o acc ts w c low);
  taken = reached_owned o acc ts w;
  waits = idle_waits o (steps o ts (opened o));
  takes_nothing = takes_nothing o (steps o ts (opened o));
  goes_on = goes_on_alike o (steps o ts (opened o));
}

-- Facts that follow from the invariant, for every kind of step: what a thread's state implies, and which nodes are different because one
-- has a command or stands in the chain and the other does not. Assumes nothing.
use Rattle.std.specs.Prelude.{ℕ, ◌≤◌, ◌<◌, ◌≡◌, refl, Bool, true, false, List, [], ◌∷◌, ◌⊎◌}
use Rattle.std.proofs.Common.{arith, sym, ap, ◌∙◌, inl, inr, ⊎_elim}
use Rattle.std.proofs.Math.Option.{none, some}
use Rattle.model.specs.declared.Thread.{Thread}
use Rattle.model.specs.declared.Thread.TheVariants.{Idle, Loading, Searching, Holding, LookedUp, Written, Walking, Clearing}
use Rattle.model.specs.Upd.{upd}
use Rattle.model.specs.Setup.{Setup}
use Rattle.model.specs.Step.{State}
use Rattle.command.proofs.Tests.{fails, true_false, none_some, le_cases}
use Rattle.model.proofs.Upd.{upd_other}
use Rattle.model.proofs.Chain.Invariant.{Ghost, Inv, On, In, ChainFrom, Order, executes, walks, clears, done, looked}

-- ---- threads

-- a worker that has written its answer executes its node or clears it
pub done_own : (th : Thread) (x : ℕ) → done th ≡ some x → (executes th ≡ some x) ⊎ (clears th ≡ some x)
done_own Idle x e = absurd (none_some none refl e)
done_own (Loading a y) x e = absurd (none_some none refl e)
done_own (Searching a) x e = absurd (none_some none refl e)
done_own (Holding y) x e = absurd (none_some none refl e)
done_own (LookedUp y f) x e = absurd (none_some none refl e)
done_own (Written y) x e = inl e
done_own (Walking a y) x e = inl e
done_own (Clearing a y) x e = inr e

-- a worker that has looked up executes its node
pub looked_own : (th : Thread) (x : ℕ) → looked th ≡ some x → executes th ≡ some x
looked_own Idle x e = absurd (none_some none refl e)
looked_own (Loading a y) x e = absurd (none_some none refl e)
looked_own (Searching a) x e = absurd (none_some none refl e)
looked_own (Holding y) x e = absurd (none_some none refl e)
looked_own (LookedUp y f) x e = e
looked_own (Written y) x e = absurd (none_some none refl e)
looked_own (Walking a y) x e = absurd (none_some none refl e)
looked_own (Clearing a y) x e = absurd (none_some none refl e)

-- a walking worker executes its node
pub walks_own : (th : Thread) (x : ℕ) → walks th ≡ some x → executes th ≡ some x
walks_own Idle x e = absurd (none_some none refl e)
walks_own (Loading a y) x e = absurd (none_some none refl e)
walks_own (Searching a) x e = absurd (none_some none refl e)
walks_own (Holding y) x e = absurd (none_some none refl e)
walks_own (LookedUp y f) x e = absurd (none_some none refl e)
walks_own (Written y) x e = absurd (none_some none refl e)
walks_own (Walking a y) x e = e
walks_own (Clearing a y) x e = absurd (none_some none refl e)

-- a clearing worker has written its answer
pub clears_done : (th : Thread) (x : ℕ) → clears th ≡ some x → done th ≡ some x
clears_done Idle x e = absurd (none_some none refl e)
clears_done (Loading a y) x e = absurd (none_some none refl e)
clears_done (Searching a) x e = absurd (none_some none refl e)
clears_done (Holding y) x e = absurd (none_some none refl e)
clears_done (LookedUp y f) x e = absurd (none_some none refl e)
clears_done (Written y) x e = absurd (none_some none refl e)
clears_done (Walking a y) x e = absurd (none_some none refl e)
clears_done (Clearing a y) x e = e

-- ---- nodes

module _ (o : Setup) (s : State) (g : Ghost) (i : Inv o s g) where
  -- a node with no command is not in the chain
  pub unused_out : (x : ℕ) → s.graph.seq x ≡ 0 → g.linked x ≡ false
  unused_out x e = fails (g.linked x) (λ l. let u = i.order.linked_used x l in absurd (omega arith))

  -- a node that is executed, walked to, looked up for or cleared has a command
  pub executes_used : (t x : ℕ) → executes (s.threads t) ≡ some x → 1 ≤ s.graph.seq x
  executes_used t x e = i.order.linked_used x (i.executing.own_linked t x e)

  pub done_used : (t x : ℕ) → done (s.threads t) ≡ some x → 1 ≤ s.graph.seq x
  done_used t x e = ⊎_elim (λ h. executes_used t x h) (λ h. i.clearing.used t x h) (done_own (s.threads t) x e)

-- where a node is neither the head nor in the chain, every node that is differs from it
pub on_other : (linked : ℕ → Bool) (f x : ℕ) → (f ≡ 0 → ⊥) → linked f ≡ false → On linked x → x ≡ f → ⊥
on_other linked f x n l on e = ⊎_elim (λ h. n (sym e ∙ h)) (λ h. true_false (linked f) (ap linked (sym e) ∙ h) l) on

-- the chain's clauses do not see a node outside it: sequence number and next index of that node may change
module _ {size loaded count : ℕ} {seq next : ℕ → ℕ} {linked : ℕ → Bool} (k : Order size loaded count seq linked next)
    (f q m : ℕ) (n : f ≡ 0 → ⊥) (l : linked f ≡ false) where
  pub seq_on : (x : ℕ) → On linked x → upd seq f q x ≡ seq x
  seq_on x on = upd_other seq f q x (on_other linked f x n l on)

  pub next_on : (x : ℕ) → On linked x → upd next f m x ≡ next x
  next_on x on = upd_other next f m x (on_other linked f x n l on)

  pub last_kept : (x : ℕ) → On linked x → upd next f m x ≡ 0 → (z : ℕ) → linked z ≡ true → upd seq f q z ≤ upd seq f q x
  last_kept x on e z lz = rw (seq_on x on, seq_on z (inr lz)) (k.last x on (sym (next_on x on) ∙ e) z lz)

  pub next_linked_kept : (x : ℕ) → On linked x → (upd next f m x ≡ 0 → ⊥) → linked (upd next f m x) ≡ true
  next_linked_kept x on e = rw (next_on x on) (k.next_linked x on (λ h. e (next_on x on ∙ h)))

  pub next_later_kept : (x : ℕ) → On linked x → (upd next f m x ≡ 0 → ⊥) → upd seq f q x < upd seq f q (upd next f m x)
  next_later_kept x on e =
      let more : next x ≡ 0 → ⊥ = λ h. e (next_on x on ∙ h) in
      rw (next_on x on, seq_on x on, seq_on (next x) (inr (k.next_linked x on more))) (k.next_later x on more)

  pub next_first_kept : (x : ℕ) → On linked x → (upd next f m x ≡ 0 → ⊥) → (z : ℕ) → linked z ≡ true → upd seq f q x < upd seq f q z → upd seq f q (upd next f m x) ≤ upd seq f q z
  next_first_kept x on e z lz h =
      let more : next x ≡ 0 → ⊥ = λ h. e (next_on x on ∙ h) in
      rw (next_on x on, seq_on (next x) (inr (k.next_linked x on more)), seq_on z (inr lz)) (k.next_first x on more z lz (rw (seq_on x on, seq_on z (inr lz)) at h))

-- a chain of next indexes does not see a node that is not in it
pub chain_kept : (next : ℕ → ℕ) (y m f : ℕ) (l : List ℕ) → (In y l → ⊥) → ChainFrom next f l → ChainFrom (upd next y m) f l
chain_kept next y m f [] n c = c
chain_kept next y m f (x ∷ l) n c =
    (c.0, rw (upd_other next y m x (λ e. n (inl (sym e)))) (chain_kept next y m (next x) l (λ h. n (inr h)) c.1))

module _ {size loaded count : ℕ} {seq next : ℕ → ℕ} {linked : ℕ → Bool} (k : Order size loaded count seq linked next) where
  -- the head and the nodes of the chain have different sequence numbers
  pub on_distinct : (x y : ℕ) → On linked x → On linked y → seq x ≡ seq y → x ≡ y
  on_distinct x y =
      ⊎_elim (λ p. ⊎_elim (λ q e. p ∙ sym q) (λ q e. let a = ap seq p in let b = k.head_seq in let c = k.linked_used y q in absurd (omega arith)))
      (λ p q e. k.distinct x y (k.linked_used x p) e)

  -- a node that somebody can stand on and that has a command is in the chain
  pub on_linked : (x : ℕ) → On linked x → 1 ≤ seq x → linked x ≡ true
  on_linked x = ⊎_elim (λ p u. let a = ap seq p in let b = k.head_seq in absurd (omega arith)) (λ p u. p)

  -- nothing of the chain lies between a node and its next
  pub on_before : (a : ℕ) → On linked a → (next a ≡ 0 → ⊥) → (b : ℕ) → On linked b → seq b < seq (next a) → seq b ≤ seq a
  on_before a on more b =
      ⊎_elim (λ p h. let e = ap seq p in let z = k.head_seq in omega arith)
      (λ p h. ⊎_elim (λ q. q) (λ q. let r = k.next_first a on more b p q in absurd (omega arith)) (le_cases (seq b) (seq a)))

  -- two nodes with one next node are one
  pub same_next : (x y : ℕ) → On linked x → On linked y → (next y ≡ 0 → ⊥) → next x ≡ next y → x ≡ y
  same_next x y on_x on_y more e =
      let more' : next x ≡ 0 → ⊥ = λ h. more (sym e ∙ h) in
      let p = k.next_later x on_x more' in
      let q = k.next_later y on_y more in
      let f = ap seq e in
      let a = on_before x on_x more' y on_y (omega arith) in
      let b = on_before y on_y more x on_x (omega arith) in
      on_distinct x y on_x on_y (omega arith)

-- a node that somebody can stand on is not free
pub on_not_free : (o : Setup) (s : State) (g : Ghost) → Inv o s g → (l : ℕ) → On g.linked l → In l g.frees → ⊥
on_not_free o s g i l on h =
    let w = i.free_list.is_unused l h in
    ⊎_elim (λ e. let b = w.0 in omega arith) (λ e. let b = i.order.linked_used l e in let c = w.2 in omega arith) on

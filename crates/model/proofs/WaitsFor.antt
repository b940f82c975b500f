-- For whom a node waits, proved: the clauses on sets say it of the nodes of the chain and of the node being loaded; no other node waits.
-- Assumes nothing.
use Rattle.std.specs.Prelude.{ℕ, ◌<◌, ◌≡◌, Bool, true, false, not, ◌&&◌, ◌⊎◌, eqb}
use Rattle.std.proofs.Common.{arith, sym, ap, ◌∙◌, inl, inr, ⊎_elim, eqb-true}
use Rattle.std.proofs.Math.Path.{refl}
use Rattle.std.proofs.lemmas.Bool.{false≢true, not-true}
use Rattle.std.proofs.Math.Bool.{and-eq-true_iff}
use Rattle.std.proofs.Math.Option.{Option, none, some}
use Rattle.command.specs.declared.Kind.{Kind}
use Rattle.command.specs.declared.Command.{Command}
use Rattle.command.specs.Dependent.{is_insert_or_delete, is_read, are_dependent, has_item}
use Rattle.command.proofs.Laws.{dependence_is_symmetric, no_read, read_has_item}
use Rattle.model.specs.declared.Thread.{Thread}
use Rattle.model.specs.declared.Thread.TheVariants.{Idle, Loading, Searching, Holding, LookedUp, Written, Walking, Clearing}
use Rattle.model.specs.Setup.{Setup, both_dependent}
use Rattle.model.specs.Step.{State, opened, command_of, steps}
use Rattle.model.specs.WaitsFor.{WaitsFor, WaitsOnlyForDependent}
use Rattle.command.proofs.Tests.{fails, true_false, one_passes, none_some, le_cases}
use Rattle.model.proofs.Chain.Invariant.{Ghost, Inv, at, loads, clears, Pending, Waited}
use Rattle.model.proofs.Chain.Keep.{steps_keep}
use Rattle.model.proofs.Chain.Opening.{opened_ghost, opened_meets}

-- dependent commands both insert or delete, or are for one key, or one is for no item; and they are no two reads
abbrev Because : Command → Command → Type 0
Because a b =
    (((is_insert_or_delete a.kind ≡ true) × (is_insert_or_delete b.kind ≡ true)) ⊎ (a.key ≡ b.key) ⊎ (has_item a.kind && has_item b.kind ≡ false))
    × (is_read a.kind && is_read b.kind ≡ false)

-- what is for no item is no read
items_read : (a b : Kind) → has_item a && has_item b ≡ false → is_read a && is_read b ≡ false
items_read a b h = fails (is_read a && is_read b) (λ r. let k = (and-eq-true_iff (is_read a) (is_read b)).0 r in false≢true (sym h ∙ rw (read_has_item a k.0, read_has_item b k.1)))

dependent_because : (a b : Command) → are_dependent a b ≡ true → Because a b
unfolding are_dependent
dependent_because a b e = ⊎_elim (λ w. ⊎_elim no_item writers (one_passes _ _ w)) one_key (one_passes _ (eqb a.key b.key && not both) e)
  where
    both : Bool
    both = is_read a.kind && is_read b.kind

    no_item : not (has_item a.kind && has_item b.kind) ≡ true → Because a b
    no_item h = let k = not-true _ h in (inr (inr k), items_read a.kind b.kind k)

    writers : is_insert_or_delete a.kind && is_insert_or_delete b.kind ≡ true → Because a b
    writers h =
        let k = (and-eq-true_iff (is_insert_or_delete a.kind) (is_insert_or_delete b.kind)).0 h in
        (inl k, rw (no_read a.kind k.0))

    one_key : eqb a.key b.key && not both ≡ true → Because a b
    one_key h =
        let k = (and-eq-true_iff (eqb a.key b.key) (not both)).0 h in
        (inr (inl (eqb-true _ _ k.0)), not-true both k.1)

-- a loading thread stands somewhere
loads_at : (th : Thread) (x : ℕ) → loads th ≡ some x → (l : ℕ) × (at th ≡ some l)
loads_at Idle x e = absurd (none_some none refl e)
loads_at (Loading a n) x e = (a.0, refl)
loads_at (Searching a) x e = absurd (none_some none refl e)
loads_at (Holding n) x e = absurd (none_some none refl e)
loads_at (LookedUp n f) x e = absurd (none_some none refl e)
loads_at (Written n) x e = absurd (none_some none refl e)
loads_at (Walking a n) x e = absurd (none_some none refl e)
loads_at (Clearing a n) x e = absurd (none_some none refl e)

module _ (o : Setup) (s : State) (g : Ghost) (i : Inv o s g) (x y : ℕ) (w : s.graph.waits x y ≡ true) where
  -- two commands of which one is earlier and depends on the other
  from : (a b : Option Command) → command_of o s.graph x ≡ a → command_of o s.graph y ≡ b → both_dependent b a ≡ true → s.graph.seq y < s.graph.seq x
      → WaitsFor o s x y
  unfolding both_dependent
  from none none p q d l = absurd (false≢true d)
  from none (some b) p q d l = absurd (false≢true d)
  from (some a) none p q d l = absurd (false≢true d)
  from (some a) (some b) p q d l =
      let k = dependent_because a b (dependence_is_symmetric a b ∙ d) in
      record { own = a; other = b; own_is = p; other_is = q; earlier = l; because = k.0; not_reads = k.1 }

  waited : (before p : ℕ) → Waited o s.graph.seq g.linked (λ t. at (s.threads t)) (λ t. clears (s.threads t)) x y before p → s.graph.seq y < s.graph.seq x → WaitsFor o s x y
  unfolding command_of
  waited before p v l = from _ _ refl refl v.dependent l

  -- a node of the chain waits for nodes before it, the node being loaded for nodes up to the loader's, and a clearing worker's for none
  linked : g.linked x ≡ true → WaitsFor o s x y
  linked l = let v = i.sets.linked_sound x y l w in waited _ _ v v.earlier

  -- a node that is in the chain or a clearing worker's is not the one being loaded
  not_loaded : (t p : ℕ) → loads (s.threads t) ≡ some x → Pending s.graph.seq g.linked (λ u. at (s.threads u)) (λ u. clears (s.threads u)) y p → y ≡ x → ⊥
  not_loaded t p l pending q =
      ⊎_elim (λ k. true_false _ k (ap g.linked q ∙ i.loading.out t x l))
      (λ c. true_false _ (i.clearing.own_executing c.0 y c.2) (ap s.graph.executing q ∙ i.loading.waiting t x l)) pending

  loaded : (t : ℕ) → loads (s.threads t) ≡ some x → WaitsFor o s x y
  loaded t l =
      let a = loads_at (s.threads t) x l in
      let v = i.sets.loading_sound t x a.0 y l a.1 w in
      let up = i.order.below a.0 in
      let new = i.loading.newest t x l in
      let before = v.earlier in
      let apart : s.graph.seq y ≡ s.graph.seq x → ⊥ = λ q. not_loaded t _ l v.pending (i.order.distinct y x v.used q) in
      waited _ _ v (omega (arith, apart))

  cleared : (t : ℕ) → clears (s.threads t) ≡ some x → WaitsFor o s x y
  cleared t c = absurd (true_false _ w (i.sets.executing_empty x y (i.clearing.own_executing t x c)))

  waits_for : WaitsFor o s x y
  waits_for =
      ⊎_elim (λ u. ⊎_elim linked (⊎_elim (λ l. loaded l.0 l.1) (λ c. cleared c.0 c.1)) (i.partition.one_of x u))
      (λ z. absurd (true_false _ w (i.sets.unused_empty x y (omega arith)))) (le_cases 1 (s.graph.seq x))

pub waits_only_for_dependent : WaitsOnlyForDependent
waits_only_for_dependent o acc ts w x y v =
    waits_for o (steps o ts (opened o)) _ (steps_keep o acc ts w (opened o) (opened_ghost o) (opened_meets o acc)) x y v

-- The counts along the chain: how many nodes a node waits for, and a loop that goes from node to node and stays at 0 behind the last. Assumes nothing.
use Prim.Native.Nat.{ℕ, zero, suc, ◌+◌, ◌-◌, ◌≤◌, ◌<◌}
use native.Mathlib.Numerals.{add-one}
use native.Mathlib.Omega.{arith}
use mathlib.Core.Path.{◌≡◌, refl, sym, ap, ap₂, ◌∙◌}
use mathlib.Core.Bool.{Bool, true, false, cond}
use mathlib.Core.List.{List, ◌∷◌, ◌++◌, map}
use lib.ListN.{length, set, replicate}
use lib.Dec.{eqb}
use borrow.Author.Tests.{lt-ltb, le-ltb, ne_eqb, eqb-true}
use Rattle.node_set.specs.Members.{member, count_below}
use Rattle.model.specs.Graph.{chain_from}
use Rattle.model.specs.Step.{State}
use Rattle.byte_fields.specs.Bytes.{tabulate}
use Rattle.state_bytes.specs.Layout.{Lists, state_in, set_at}
use Rattle.byte_fields.proofs.Fill.{Filled, filled_none, filled_more, filled_all}
use Rattle.panel.specs.Reports.{pending_counts}

-- ---- how many pass a test

-- tests that agree are passed as often
count_same : (k : ℕ) (f g : ℕ → Bool) → ((y : ℕ) → f y ≡ g y) → count_below k f ≡ count_below k g
unfolding count_below
count_same zero f g same = refl
count_same (suc k) f g same = ap₂ (λ (t : Bool) (n : ℕ). cond t 1 0 + n) (same k) (count_same k f g same)

-- a test that always fails is never passed
count_none : (k : ℕ) → count_below k (λ y. false) ≡ 0
unfolding count_below
count_none zero = refl
count_none (suc k) = let e = count_none k in omega arith

-- of k numbers at most k pass
one_at_most : (t : Bool) → cond t 1 0 ≤ 1
one_at_most true = omega arith
one_at_most false = omega arith

pub count_within : (k : ℕ) (test : ℕ → Bool) → count_below k test ≤ k
unfolding count_below
count_within zero test = omega arith
count_within (suc k) test = omega (arith, one_at_most (test k), count_within k test)

-- ---- how many nodes a node waits for

module _ (l : Lists) (n : ℕ) where
  -- a number that no node has waits for none
  waits_past : 150 < n → (y : ℕ) → (state_in l).graph.waits n y ≡ false
  unfolding state_in
  waits_past h y =
      let past : 151 ≤ n = omega arith in
      rw (le-ltb n 151 past)

  pub count_past : 150 < n → 0 ≡ count_below 192 ((state_in l).graph.waits n)
  count_past h = sym (count_same 192 ((state_in l).graph.waits n) (λ y. false) (waits_past h) ∙ count_none 192)

  -- a node's set is what the bytes say
  waits_read : (b : List ℕ) → l.state ≡ b → n ≤ 150 → (y : ℕ) → member (set_at b n) y ≡ (state_in l).graph.waits n y
  unfolding state_in
  waits_read b same h y =
      let among : n < 151 = omega arith in
      rw (lt-ltb n 151 among, same)

  pub count_read : (b : List ℕ) {set : List ℕ} {r : ℕ} → l.state ≡ b → n ≤ 150 → set ≡ set_at b n → r ≡ count_below 192 (member set)
      → r ≡ count_below 192 ((state_in l).graph.waits n)
  count_read b same h is counted =
      counted ∙ ap (λ (set : List ℕ). count_below 192 (member set)) is ∙ count_same 192 (member (set_at b n)) ((state_in l).graph.waits n) (waits_read b same h)

-- ---- the walk

-- the node behind a node, and a node's count; 0 is followed by 0 and counts 0
unfoldable pub after : State → ℕ → ℕ
after s y = cond (eqb y 0) 0 (s.graph.next y)

unfoldable pub shown : State → ℕ → ℕ
shown s y = cond (eqb y 0) 0 (count_below 192 (s.graph.waits y))

-- where a walk from a node stands after i steps, and what it has counted there
unfoldable pub walked : State → ℕ → ℕ → ℕ
walked s y zero = y
walked s y (suc i) = walked s (after s y) i

abbrev pub walked_count : State → ℕ → ℕ → ℕ
walked_count s y i = shown s (walked s y i)

-- the last step of a walk
walked_more : (s : State) (y i : ℕ) → walked s y (suc i) ≡ after s (walked s y i)
unfolding walked
walked_more s y zero = refl
walked_more s y (suc i) = walked_more s (after s y) i

-- a walk that has ended counts 0
walked_end : (s : State) (i : ℕ) → walked_count s 0 i ≡ 0
unfolding walked after shown
walked_end s zero = refl
walked_end s (suc i) = walked_end s i

ended_counts : (f : ℕ → ℕ) (k : ℕ) → ((i : ℕ) → f i ≡ 0) → replicate k 0 ≡ tabulate k f
unfolding tabulate
ended_counts f zero each = refl
ended_counts f (suc k) each = ap₂ ◌∷◌ (sym (each 0)) (ended_counts (λ i. f (suc i)) k (λ i. each (suc i)))

-- ---- the report is what the walk counts

abbrev counts : State → ℕ → ℕ → List ℕ
counts s k x = map (λ (n : ℕ). count_below 192 (s.graph.waits n)) (chain_from k x s.graph) ++ replicate (k - length (chain_from k x s.graph)) 0

-- behind the last node there are zeros
counts_end : (s : State) (k x : ℕ) → eqb (s.graph.next x) 0 ≡ true → counts s (suc k) x ≡ replicate (suc k) 0
unfolding chain_from
counts_end s k x e =
    let all : suc k - 0 ≡ suc k = omega arith in
    rw (e, all)

-- the next node is counted first
one_less : (m n : ℕ) → suc m - suc n ≡ m - n
one_less m n = omega arith

counts_next : (s : State) (k x : ℕ) → eqb (s.graph.next x) 0 ≡ false → counts s (suc k) x ≡ count_below 192 (s.graph.waits (s.graph.next x)) ∷ counts s k (s.graph.next x)
unfolding chain_from
counts_next s k x e =
    let y : ℕ = s.graph.next x in
    rw e (ap (λ (m : ℕ). count_below 192 (s.graph.waits y) ∷ (map (λ (n : ℕ). count_below 192 (s.graph.waits n)) (chain_from k y s.graph) ++ replicate m 0)) (one_less k (length (chain_from k y s.graph))))

-- and so it is by the walk
walked_first : (s : State) (k y : ℕ) → eqb y 0 ≡ false → tabulate (suc k) (walked_count s y) ≡ count_below 192 (s.graph.waits y) ∷ tabulate k (walked_count s (s.graph.next y))
unfolding tabulate walked after shown
walked_first s k y e = rw e

-- whether or not there is a next node
counts_either : (s : State) (k x : ℕ) → ((y : ℕ) → counts s k y ≡ tabulate k (walked_count s (s.graph.next y)))
    → (t : Bool) → eqb (s.graph.next x) 0 ≡ t → counts s (suc k) x ≡ tabulate (suc k) (walked_count s (s.graph.next x))
counts_either s k x rest true e =
    counts_end s k x e ∙ ended_counts (walked_count s 0) (suc k) (walked_end s)
    ∙ ap (λ (y : ℕ). tabulate (suc k) (walked_count s y)) (sym (eqb-true (s.graph.next x) 0 e))
counts_either s k x rest false e =
    counts_next s k x e ∙ ap (λ (more : List ℕ). count_below 192 (s.graph.waits (s.graph.next x)) ∷ more) (rest (s.graph.next x)) ∙ sym (walked_first s k (s.graph.next x) e)

counts_walked : (s : State) (k x : ℕ) → counts s k x ≡ tabulate k (walked_count s (s.graph.next x))
unfolding tabulate chain_from
counts_walked s zero x = refl
counts_walked s (suc k) x = counts_either s k x (counts_walked s k) (eqb (s.graph.next x) 0) refl

-- ---- the loop

-- The first i entries are written, and the walk stands at node n.
pub record Counted (s : State) (entries : List ℕ) (n i : ℕ) : Type 0 where
  pub filled : Filled (walked_count s (s.graph.next 0)) 150 entries i
  pub stands : n ≡ walked s (s.graph.next 0) i

module _ {s : State} {entries : List ℕ} {n : ℕ} where
  -- at first it stands behind the head
  pub counted_none : n ≡ s.graph.next 0 → length entries ≡ 150 → Counted s entries n 0
  unfolding walked
  counted_none is long = record { filled = filled_none long; stands = is }

  -- at 0 it stays, and any other node is counted
  pub counted_end : {i : ℕ} → Counted s entries n i → i < 150 → n ≡ 0 → Counted s (set entries i 0) n (i + 1)
  unfolding after shown
  counted_end {i} c h e =
      let at : walked s (s.graph.next 0) i ≡ 0 = sym c.stands ∙ e in
      record { filled = filled_more 0 c.filled h (rw at); stands = e ∙ sym (rw (add-one, walked_more, at)) }

  pub counted_more : {i v m : ℕ} → Counted s entries n i → i < 150 → (n ≡ 0 → ⊥) → v ≡ count_below 192 (s.graph.waits n) → m ≡ s.graph.next n → Counted s (set entries i v) m (i + 1)
  unfolding after shown
  counted_more {i} {v} {m} c h some is next =
      let at : walked s (s.graph.next 0) i ≡ n = sym c.stands in
      record {
        filled = filled_more v c.filled h (is ∙ sym (rw (at, ne_eqb n 0 some)));
        stands = next ∙ sym (rw (add-one, walked_more, at, ne_eqb n 0 some));
      }

  -- after the last pass they are the report
  pub counted_all : {i : ℕ} → Counted s entries n i → 150 ≤ i → entries ≡ pending_counts s
  unfolding pending_counts
  counted_all c h = filled_all c.filled h ∙ sym (counts_walked s 150 0)

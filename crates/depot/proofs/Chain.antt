-- Laws of the chain's length: a walk that goes on counts one node and then the rest. Assumes nothing.
use Prim.Native.Nat.{ℕ, zero, suc, ◌+◌, ◌-◌, ◌≤◌, ◌<◌}
use native.Mathlib.Nat.{zero-add}
use native.Mathlib.Omega.{arith}
use mathlib.Core.Path.{◌≡◌, refl, ap, sym, ◌∙◌}
use mathlib.Core.Bool.{cond}
use mathlib.Core.List.{List}
use borrow.Author.Tests.{eq-eqb, ne_eqb}
use lib.ListN.{length, get_or}
use lib.Dec.{ltb}
use Rattle.model.specs.Graph.{Graph, chain_from}
use Rattle.state_bytes.specs.Layout.{Lists, state_in}
use Rattle.byte_fields.specs.Bytes.{number_at}
use Rattle.depot.specs.Program.{totals, report}

-- nothing is behind a node whose next index is 0
pub chain_ends : (k x : ℕ) (g : Graph) → g.next x ≡ 0 → length (chain_from k x g) ≡ 0
unfolding chain_from
chain_ends zero x g e = refl
chain_ends (suc k) x g e = rw (eq-eqb (g.next x) 0 e)

-- behind any other stands the next, and what is behind that
chain_goes_on : (k x y : ℕ) (g : Graph) → y ≡ g.next x → (y ≡ 0 → ⊥) → length (chain_from (suc k) x g) ≡ suc (length (chain_from k y g))
unfolding chain_from
chain_goes_on k x y g e some = rw (e, ne_eqb (g.next x) 0 (λ z. some (e ∙ z)))

-- no step is left
chain_cut : (x : ℕ) (g : Graph) → length (chain_from 0 x g) ≡ 0
unfolding chain_from
chain_cut x g = refl

-- a walk along the chain: some nodes are counted, and what is behind the last of them is left
abbrev pub Walked : Graph → ℕ → ℕ → Type 0
Walked g node count = (count ≤ 150) × (length (chain_from 150 0 g) ≡ count + length (chain_from (150 - count) node g))

pub walk_begins : (g : Graph) → Walked g 0 0
walk_begins g = (omega arith, sym (zero-add _))

-- it goes on to the next node
pub walk_goes_on : (g : Graph) (node next count : ℕ) → Walked g node count → count < 150 → next ≡ g.next node → (next ≡ 0 → ⊥) → Walked g next (count + 1)
walk_goes_on g node next count w h e some =
    let more : 150 - count ≡ suc (150 - (count + 1)) = omega arith in
    let all = rw more at w.1 in
    (omega arith, omega (arith, chain_goes_on (150 - (count + 1)) node next g e some))

-- it ends where the next index is 0
pub walk_ends : (g : Graph) (node count : ℕ) → Walked g node count → g.next node ≡ 0 → count ≡ length (chain_from 150 0 g)
walk_ends g node count w e = omega (arith, w.1, chain_ends (150 - count) node g e)

-- and after 150 nodes
pub walk_is_cut : (g : Graph) (node count : ℕ) → Walked g node count → 150 ≤ count → count ≡ length (chain_from 150 0 g)
walk_is_cut g node count w h =
    let none : 150 - count ≡ 0 = omega arith in
    let all = rw none at w.1 in
    omega (arith, chain_cut node g)

-- the chain goes by the next indexes alone
chain_by_next : (k x : ℕ) (g h : Graph) → g.next ≡ h.next → chain_from k x g ≡ chain_from k x h
unfolding chain_from
chain_by_next zero x g h e = refl
chain_by_next (suc k) x g h e = rw (ap (λ f. f x) e, chain_by_next k (h.next x) g h e)

-- so the last line goes by the state bytes alone
pub totals_by_bytes : (l m : Lists) → l.state ≡ m.state → totals (state_in l) ≡ totals (state_in m)
unfolding totals state_in
totals_by_bytes l m e =
    let nexts : (state_in l).graph.next ≡ (state_in m).graph.next = ap (λ (b : List ℕ). λ (n : ℕ). cond (ltb n 151) (get_or b (14 + n) 0) 0) e in
    rw (chain_by_next 150 0 (state_in l).graph (state_in m).graph nexts, ap (number_at 2 10) e)

-- and the report by these and the answers
pub report_by_bytes : (commands : List ℕ) (l m : Lists) → l.state ≡ m.state → l.answers ≡ m.answers → report commands l ≡ report commands m
unfolding report
report_by_bytes commands l m e f = rw (totals_by_bytes l m e, f)

-- `store::place` meets its contract. The loop's invariant: halvings lead from the first n places to those left. The measure is how many are
-- left. Assumes nothing.
use Prim.Native.Nat.{ℕ, ◌+◌, ◌≤◌}
use mathlib.Core.Bool.{cond}
use mathlib.Core.Path.{◌≡◌, refl, sym, ◌∙◌}
use mathlib.Core.List.{List}
use native.Mathlib.Omega.{arith}
use borrow.Author.Tests.{ne_eqb, eq-eqb}
use lib.ListN.{length, get_or}
use lib.Dec.{ltb}
use Rattle.model.specs.Store.{halve, place_among}
use Rattle.model.proofs.Formed.Store.{place_within}
use Rattle.store.specs.declared.Left.{Left}
use Rattle.store.specs.Find.{Leads}
use Rattle.store.proofs.Halve.{halve_rest, leads_trans}
use Rattle.store.proofs.place.Goals as goal

-- the first n places
abbrev first : ℕ → Left
first n = record { from = 0; size = n }

-- what is left lies inside the list
inside : (keys : List ℕ) (key n : ℕ) (left : Left) → n ≤ length keys → Leads keys key (first n) left → (1 ≤ left.size) × (left.from + left.size ≤ length keys)
inside keys key n left long l = (l.some, omega (arith, l.inside))

-- where one is left, the definition's halvings end there
ends : (keys : List ℕ) (key n : ℕ) (left : Left) → (n ≡ 0 → ⊥) → left.size ≤ 1 → Leads keys key (first n) left
    → place_among n keys key ≡ cond (ltb (get_or keys left.from 0) key) (left.from + 1) left.from
unfolding place_among
ends keys key n left some one l =
    let at : halve n keys key 0 n ≡ left.from = l.same n (omega arith) ∙ halve_rest keys key n left.from left.size one in
    rw (ne_eqb n 0 some, at)

pub returns-then-n-eq0 : goal.returns-then-n-eq0
unfolding place_among
returns-then-n-eq0 c = record { found = rw (eq-eqb c.args.n 0 (omega arith)); within = omega arith }

pub loop-left-init : goal.loop-left-init
loop-left-init c = record { same = λ n h. refl; some = omega arith; fewer = omega arith; inside = omega arith }

pub halved-left-requires : goal.halved-left-requires
halved-left-requires c =
    inside c.args.keys.now c.args.key c.args.n c.loop-left.left c.requires c.loop-left.invariant

pub loop-left-smaller : goal.loop-left-smaller
loop-left-smaller c = omega (arith, c.halved-left.ensures.1)

pub loop-left-preserved : goal.loop-left-preserved
loop-left-preserved c =
    leads_trans c.args.keys.now c.args.key (first c.args.n) c.loop-left.left c.halved-left.result c.loop-left.invariant c.halved-left.ensures.0

-- the halvings of one call further c.args.keys.now c.args.key c.args.n on from those before
further : (keys : List ℕ) (key n : ℕ) {before after : Left} → Leads keys key (first n) before → Leads keys key before after → Leads keys key (first n) after
further keys key n {before = before} {after = after} p q = leads_trans keys key (first n) before after p q

pub narrowed-few-requires : goal.narrowed-few-requires
narrowed-few-requires c =
    let i = inside c.args.keys.now c.args.key c.args.n c.loop-left.left c.requires c.loop-left.invariant in
    (i.0, i.1, omega arith)

pub narrowed-fewer-requires : goal.narrowed-fewer-requires
narrowed-fewer-requires c =
    let few = further c.args.keys.now c.args.key c.args.n c.loop-left.invariant c.narrowed-few.ensures.0 in
    let i = inside c.args.keys.now c.args.key c.args.n c.narrowed-few.result c.requires few in
    (i.0, i.1, c.narrowed-few.ensures.1)

pub thrice-last-requires : goal.thrice-last-requires
thrice-last-requires c =
    let few = further c.args.keys.now c.args.key c.args.n c.loop-left.invariant c.narrowed-few.ensures.0 in
    let fewer = further c.args.keys.now c.args.key c.args.n few c.narrowed-fewer.ensures.0 in
    inside c.args.keys.now c.args.key c.args.n c.narrowed-fewer.result c.requires fewer

pub behind-requires : goal.behind-requires
behind-requires c =
    let few = further c.args.keys.now c.args.key c.args.n c.loop-left.invariant c.narrowed-few.ensures.0 in
    let fewer = further c.args.keys.now c.args.key c.args.n few c.narrowed-fewer.ensures.0 in
    let last = further c.args.keys.now c.args.key c.args.n fewer c.thrice-last.ensures.0 in
    let i = inside c.args.keys.now c.args.key c.args.n c.thrice-last.result c.requires last in
    omega arith

pub returns : goal.returns
returns c =
    let keys = c.args.keys.now in
    let few = further keys c.args.key c.args.n c.loop-left.invariant c.narrowed-few.ensures.0 in
    let fewer = further keys c.args.key c.args.n few c.narrowed-fewer.ensures.0 in
    let last = further keys c.args.key c.args.n fewer c.thrice-last.ensures.0 in
    let found = c.behind.ensures
    ∙ sym (ends keys c.args.key c.args.n c.thrice-last.result (λ e. absurd (omega (arith, last.some, last.fewer))) (omega (arith, c.thrice-last.ensures.1, c.narrowed-fewer.ensures.1)) last) in
    record { found = found; within = rw found (place_within c.args.n keys c.args.key) }

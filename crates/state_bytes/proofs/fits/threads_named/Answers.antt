-- `state_bytes::fits::threads_named` meets its contract. The loop's invariant: all steps are within exactly if the largest of those so far is, and
-- those to come are. Assumes nothing.
use Prim.Native.Nat.{ℕ, ◌+◌, ◌≤◌, ◌<◌}
use native.Mathlib.Numerals.{add-one}
use native.Mathlib.Omega.{arith}
use mathlib.Core.Bool.{Bool, true, ◌&&◌, and_assoc, and-true}
use mathlib.Core.List.{List}
use mathlib.Core.Path.{◌≡◌, sym, ap, ◌∙◌}
use borrow.Author.Tests.{le-leb}
use lib.Dec.{leb}
use lib.ListN.{length, get_or, drop, drop_of_length-le}
use lib.Seq.{drop-cons}
use Rattle.std.specs.Ordering.{ord_max, nat_cmp}
use Rattle.std.proofs.lemmas.Bool.Decides.{nat_tests}
use Rattle.model.specs.Statement.{all_within}
use Rattle.state_bytes.proofs.fits.threads_named.Goals as goal

-- those from place i on are the one at i and those after it
within_from : (workers i : ℕ) (schedule : List ℕ) → i < length schedule
    → all_within workers (drop i schedule) ≡ (leb (get_or schedule i 0) workers && all_within workers (drop (i + 1) schedule))
unfolding all_within
within_from workers i schedule h = rw (add-one, drop-cons schedule i 0 h)

-- of none all are within
within_none : (workers i : ℕ) (schedule : List ℕ) → length schedule ≤ i → all_within workers (drop i schedule) ≡ true
unfolding all_within
within_none workers i schedule h = rw (drop_of_length-le schedule h)

-- of two numbers the larger decides
larger_decides : (a b limit : ℕ) → (leb a limit && leb b limit) ≡ leb (ord_max nat_cmp a b) limit
larger_decides a b limit = grind (arith, nat_tests)

pub loop-t-init : goal.loop-t-init
loop-t-init c = (omega arith, rw (le-leb 0 c.args.workers (omega arith)))

pub loop-t-preserved : goal.loop-t-preserved
loop-t-preserved c =
    let schedule = c.args.schedule.now in
    let limit = c.args.workers in
    let i = c.loop-t.t-index in
    let step = get_or schedule i 0 in
    let rest = all_within limit (drop (i + 1) schedule) in
    let largest = c.loop-t.largest in (
      omega arith,
      c.loop-t.invariant.1 ∙ ap (λ (t : Bool). leb largest limit && t) (within_from limit i schedule c.loop-t-test.true)
          ∙ sym (and_assoc (leb largest limit) (leb step limit) rest)
          ∙ ap (λ (t : Bool). t && rest) (larger_decides largest step limit ∙ ap (λ (n : ℕ). leb n limit) (sym c.max-largest.ensures)),
    )

pub returns : goal.returns
returns c =
    let limit = c.args.workers in
    sym (c.loop-t.invariant.1 ∙ ap (λ (t : Bool). leb c.loop-t.largest limit && t) (within_none limit c.loop-t.t-index c.args.schedule.now c.loop-t-test.false)
    ∙ and-true (leb c.loop-t.largest limit))

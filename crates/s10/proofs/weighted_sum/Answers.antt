-- `s10::weighted_sum` meets its contract. Assumes nothing.
use Prim.Native.Nat.{ℕ, ◌+◌, ◌*◌, ◌-◌, ◌≤◌, ◌<◌}
use mathlib.Core.Path.{◌≡◌}
use mathlib.Core.List.{List}
use native.Mathlib.Omega.{arith}
use lib.ListN.{length, get_or, length-append}
use Rattle.std.proofs.lemmas.Slice.Zip.{zip_turn, zip_end}
use Rattle.s10.specs.Text.{weights, weighted}
use Rattle.s10.specs.Parts.{Serial, values}
use Rattle.s10.proofs.Values.{length_values, get_d_values}
use Rattle.s10.proofs.Weighted.{weighted_step, weighted_bound}
use Rattle.s10.proofs.weighted_sum.Invariants.{rest}
use Rattle.s10.proofs.weighted_sum.Goals as goal

-- one more product in the sum
abbrev Step : List ℕ → ℕ → ℕ → Type 0
Step text sum k =
    (sum + get_or weights k 0 * (get_or text k 0 - 48) + rest text (k + 1) ≡ weighted weights (values text))
    × (sum + get_or weights k 0 * (get_or text k 0 - 48) ≤ 396)

-- the k-th product goes over from what is left to the sum, and the sum stays under its bound
sum_step : (text : List ℕ) (sum k : ℕ) → Serial text → k < 8 → sum + rest text k ≡ weighted weights (values text) →
    Step text sum k
unfolding weights
sum_step text sum k s h inv =
    let long = length_values text in
    let bound = weighted_bound text s in
    let step = rw (get_d_values text k) at (weighted_step weights (values text) k h (omega arith)) in
    omega arith

pub overflow_add-sum : goal.overflow_add-sum
unfolding weights
overflow_add-sum c =
    let turn = zip_turn weights c.args.digits.now c.loop-weight.yielded c.into_iter-weight-iterator.result c.loop-weight.weight-iterator c.next.new.self c.next.result (cc) (cc) c.loop-weight.yielded_by (c.in-Some.weight, c.in-Some.digit) c.in-Some.is c.next.ensures.steps in
    let next = sum_step c.args.digits.now c.loop-weight.sum (length c.loop-weight.yielded) c.requires turn.0 c.loop-weight.invariant in
    rw (turn.2 0, turn.3 0) (omega (arith, next.1))

pub loop-weight-preserved : goal.loop-weight-preserved
unfolding weights
loop-weight-preserved c =
    let turn = zip_turn weights c.args.digits.now c.loop-weight.yielded c.into_iter-weight-iterator.result c.loop-weight.weight-iterator c.next.new.self c.next.result (cc) (cc) c.loop-weight.yielded_by (c.in-Some.weight, c.in-Some.digit) c.in-Some.is c.next.ensures.steps in
    let next = sum_step c.args.digits.now c.loop-weight.sum (length c.loop-weight.yielded) c.requires turn.0 c.loop-weight.invariant in
    simp length-append (rw (turn.2 0, turn.3 0) next.0)

pub returns : goal.returns
unfolding weights weighted
returns c =
    let all = zip_end weights c.args.digits.now c.loop-weight.yielded c.into_iter-weight-iterator.result c.loop-weight.weight-iterator c.next.new.self c.next.result (cc) (cc) c.loop-weight.yielded_by c.in-None.is c.next.ensures.steps in
    let eight : length c.loop-weight.yielded ≡ 8 = omega (arith, all, c.requires.long) in
    let whole = rw eight at c.loop-weight.invariant in
    let bound = weighted_bound c.args.digits.now c.requires in
    record { value = omega arith; upper_bound = omega arith }

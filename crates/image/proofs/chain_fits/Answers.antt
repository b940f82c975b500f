-- `image::chain_fits` meets its contract. The loop's invariant: the first n indexes passed, and those from i on decide. Assumes nothing.
use Rattle.std.proofs.Common.{◌<◌, arith}
use Rattle.std.specs.Prelude.{IfSome}
use Rattle.image.proofs.Chain.{testing_begins, testing_past, testing_low, testing_goes_on, testing_ends, testing_full}
use Rattle.image.proofs.chain_fits.Goals as goal
use Rattle.image.proofs.chain_fits.Goals.{in-Some+else-key-last, in_default}

pub loop-init : goal.loop-init
loop-init c = testing_begins _ _ c.next_in-i.ensures

pub returns-then-i-capacity : goal.returns-then-i-capacity
returns-then-i-capacity c = testing_past c.loop.invariant c.loop-test.true c.if-i-eq0.false c.if-i-capacity.true

pub returns-then-key-last : goal.returns-then-key-last
returns-then-key-last c =
    testing_low c.loop.invariant c.loop-test.true c.if-i-eq0.false c.key_in-key.ensures c.in-Some.is (omega arith)

pub loop-preserved : goal.loop-preserved
loop-preserved c =
    let high : IfSome c.loop.last (λ k. k < c.key_in-key.result)
    = elim c.match-last.branch [ in-Some+else-key-last w ↦ rw w.in-Some.is w.if-key-last.false | in_default w ↦ rw w.in_default.is tt ] in
    testing_goes_on c.loop.invariant c.loop-test.true c.if-i-eq0.false c.if-i-capacity.false c.key_in-key.ensures c.next_in-i-in-loop.ensures high

pub returns-then-i-eq0 : goal.returns-then-i-eq0
returns-then-i-eq0 c = testing_ends c.loop.invariant c.if-i-eq0.true

pub returns-after-last : goal.returns-after-last
returns-after-last c =
    let high : IfSome c.loop.last (λ k. k < c.key_in-key.result)
    = elim c.match-last.branch [ in-Some+else-key-last w ↦ rw w.in-Some.is w.if-key-last.false | in_default w ↦ rw w.in_default.is tt ] in
    testing_full (testing_goes_on c.loop.invariant c.loop-test.true c.if-i-eq0.false c.if-i-capacity.false c.key_in-key.ensures c.next_in-i-in-loop.ensures high) (omega arith)

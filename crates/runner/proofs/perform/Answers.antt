-- `runner::perform` meets its contract. The outer loop's invariant: after so many steps memory and threads show the state after them, and with what
-- is left, the rest of the schedule or what the dispatcher still chooses, they are all. The inner loop's: the steps of the first j threads kept
-- ahead are made. Assumes nothing.
use Prim.Native.Nat.{ℕ, ◌<◌}
use native.Mathlib.Omega.{arith}
use mathlib.Core.Path.{◌≡◌, refl, ◌∙◌}
use borrow.Author.Rules.{rules}
use lib.ListN.{length, get_or}
use Rattle.graph.specs.Memory.{memory}
use Rattle.runner.specs.Performed.{order_of}
use Rattle.runner.proofs.Performing.{along_none, along_block, block_none, block_more, ahead_named, performed, still_named}
use Rattle.runner.proofs.perform.Goals.{After-look_ahead-n}
use Rattle.runner.proofs.perform.Goals as goal

-- the thread kept ahead is one of the 65
named : (j : ℕ) (c : After-look_ahead-n) → j < c.look_ahead-n.result → get_or c.look_ahead-n.new.ahead j 0 < 65
named j c more =
    let a = c.args in
    let l = c.loop-plan in
    ahead_named (order_of a.order) j a.lent.now c.look_ahead-n.ensures.ahead more c.requires.named
    (still_named (order_of a.order) a.settings l.plan (memory l.graph l.keys l.chutes l.answers l.image l.counters) l.threads c.planned-plan.result c.planned-plan.ensures l.invariant.0.steady)

-- as many are kept as there is room for
long : (c : After-look_ahead-n) → length c.look_ahead-n.new.ahead ≡ 256
long c = c.look_ahead-n.auto.ahead ∙ c.loop-plan.invariant.1

pub loop-plan-init : goal.loop-plan-init
loop-plan-init c =
    (along_none (order_of c.args.order) c.requires.ready c.requires.within (search rules), refl)

pub loop-j-init : goal.loop-j-init
loop-j-init c = block_none c.look_ahead-n.new.ahead c.loop-plan.invariant.0.kept

pub bounds-threads-place : goal.bounds-threads-place
bounds-threads-place c = named c.loop-j.j (goal.at.bounds-threads-place c).After-look_ahead-n c.loop-j-test.true

pub bounds-threads-place-in-loop-j : goal.bounds-threads-place-in-loop-j
bounds-threads-place-in-loop-j c = named c.loop-j.j (goal.at.bounds-threads-place-in-loop-j c).After-look_ahead-n c.loop-j-test.true

pub loop-j-preserved : goal.loop-j-preserved
loop-j-preserved c =
    let here = (goal.at.loop-j-preserved c).After-look_ahead-n in
    let j = c.loop-j.j in
    let called = c.step-r in
    let inside : j < length c.look_ahead-n.new.ahead = omega (arith, c.loop-j-test.true, c.look_ahead-n.ensures.ahead.few, long here) in
    block_more {m' = memory called.new.graph called.new.keys called.new.chutes called.new.answers called.new.image called.result.counters} c.look_ahead-n.new.ahead j called.result.thread inside (named j here c.loop-j-test.true) called.ensures called.auto.keys called.auto.chutes called.auto.answers called.auto.image c.loop-j.invariant

pub loop-plan-preserved : goal.loop-plan-preserved
loop-plan-preserved c =
    let here = (goal.at.loop-plan-preserved c).After-look_ahead-n in
    let kept = c.look_ahead-n in
    let all : c.loop-j.j ≡ kept.result = omega (arith, c.loop-j-test.false) in (
      along_block kept.new.ahead kept.new.lent (order_of c.args.order) c.requires.named c.planned-plan.ensures kept.ensures.ahead c.if-n-eq0.false (omega (arith, kept.ensures.ahead.few, long here)) kept.ensures.noted
          (rw all at c.loop-j.invariant) c.loop-plan.invariant.0,
      long here,
    )

pub returns : goal.returns
returns c =
    let a = c.args in
    let kept = c.look_ahead-n in
    let l = c.loop-plan in
    performed (order_of a.order) c.planned-plan.result kept.new.ahead a.settings l.counters l.graph l.keys l.chutes l.answers l.image _ kept.new.lent
    l.invariant.0 c.planned-plan.ensures kept.ensures.ahead c.if-n-eq0.true kept.ensures.noted c.write_state.ensures

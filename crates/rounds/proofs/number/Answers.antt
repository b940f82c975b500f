-- Part by part. Assumes nothing.
use Rattle.std.specs.Iterator.Adapters.{enumerate_count}
use Rattle.std.proofs.Common.{rules, ◌≡◌, ◌/◌, length, sym, ap, ◌∙◌, arith}
use native.Mathlib.Numerals.{add-one}
use Rattle.command.specs.Read.{command_outcome, refusal_for}
use Rattle.rounds.proofs.Numbering.{begins, goes, stops, ends}
use Rattle.rounds.proofs.number.Goals as goal

pub loop-i-init : goal.loop-i-init
loop-i-init c = (
  rw (c.into_iter-i-iterator.ensures.into_iter_gives, c.enumerate-i-items.ensures.source, c.enumerate-i-items.ensures.count, c.chunks.ensures.rest) (begins c.args.list.now c.args.rounds.now c.new-numbered.result c.new-numbered.ensures.0 c.new-numbered.ensures.1),
  search rules,
  search rules,
  search rules,
)

pub loop-i-preserved : goal.loop-i-preserved
loop-i-preserved c =
    let n = c.loop-i.invariant.0 in
    let s = c.in-Some.ensures.steps in
    let long : length c.in-Some.part.now ≡ 16 = omega (arith, s.0.1.1, s.0.1.2, c.loop-i.invariant.1, n.inside, c.requires.0) in
    let lent : length c.loop-i.rounds ≡ 4096 = search rules in
    let read = sym c.read.ensures ∙ ap command_outcome c.in-Ok.is in
    let place : c.in-Some.i ≡ length n.es = s.1 ∙ sym n.count in (
      rw (s.2, add-one, place) (goes n c.in-Some.part.now _ s.0.1.0 long c.in-Ok.command read (c.enter.ensures n.es c.loop-i.rounds (omega (arith, n.count, n.inside, s.0.1.2, c.requires.1, lent)) n.holds)),
      search rules,
      search rules,
      search rules,
    )

pub returns-in-Err-clause-outcome : goal.returns-in-Err-clause-outcome
returns-in-Err-clause-outcome c =
    let n = c.loop-i.invariant.0 in
    let s = c.in-Some.ensures.steps in
    let long : length c.in-Some.part.now ≡ 16 = omega (arith, s.0.1.1, s.0.1.2, c.loop-i.invariant.1, n.inside, c.requires.0) in
    let read = sym c.read.ensures ∙ ap command_outcome c.in-Err.is in
    rw (s.1, add-one) (stops n c.in-Some.part.now _ s.0.1.0 long (refusal_for c.in-Err.reason) read)

pub returns-clause-outcome : goal.returns-clause-outcome
returns-clause-outcome c = (ends c.loop-i.invariant.0 c.in-None.ensures.steps.0.1.0).0

pub returns-clause-rounds : goal.returns-clause-rounds
returns-clause-rounds c = λ n e.
    let i = c.loop-i.invariant.0 in
    let none = c.in-None.ensures.steps.0.1.0 in
    let all = ends i none in
    let end : enumerate_count c.loop-i.i-iterator ≡ length c.args.list.now / 16 = omega (arith, none, i.inside, c.requires.0) in
    let same : c.loop-i.numbered.largest.top ≡ n = cc in
    (rw end at all.1, sym same ∙ all.2)

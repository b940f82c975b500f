-- `depot::report::put_lines` meets its contract: line by line. Assumes nothing.
use Rattle.std.proofs.Common.{rules, ◌≡◌, length, refl, arith}
use native.Mathlib.Numerals.{add-one}
use Rattle.depot.proofs.Lines.{none_lined, next_whole, one_lined, all_lined, some_from, first_from}
use Rattle.depot.proofs.report.put_lines.Goals as goal

pub loop-i-init : goal.loop-i-init
loop-i-init c = record {
  size = search rules;
  same = refl;
  lined = rw (c.into_iter-i-iterator.ensures.into_iter_gives, c.enumerate-i-items.ensures.source, c.enumerate-i-items.ensures.count, c.chunks.ensures.rest) (none_lined _ _ _);
}

pub bounds-rest-0 : goal.bounds-rest-0
bounds-rest-0 c =
    let v = c.loop-i.invariant in
    let s = c.in-Some.ensures.steps in
    let next = next_whole c.requires.0 v.lined c.in-Some.command.now (omega (arith, s.0.1.1, s.0.1.2, v.size)) (omega (arith, s.0.1.1, s.0.1.2)) in
    some_from c.in-Some.i c.args.answers.now c.answers_from-rest.result.now c.answers_from-rest.ensures.answers (rw s.1 next.1)

pub loop-i-preserved : goal.loop-i-preserved
loop-i-preserved c =
    let v = c.loop-i.invariant in
    let s = c.in-Some.ensures.steps in
    let next = next_whole c.requires.0 v.lined c.in-Some.command.now (omega (arith, s.0.1.1, s.0.1.2, v.size)) (omega (arith, s.0.1.1, s.0.1.2)) in
    let own = first_from c.in-Some.i c.args.answers.now c.answers_from-rest.result.now c.answers_from-rest.ensures.answers in
    let line = rw (own, s.1, add-one) at c.put_line-at.ensures.wrote in
    record {
      size = search rules;
      same = search rules;
      lined = rw (s.2, add-one) (one_lined c.requires.0 v.lined c.in-Some.command.now _ _ _ s.0.1.0 next.0 next.1 (omega (arith, v.lined.bound, next.1, c.requires)) line c.put_line-at.ensures.upper_bound);
    }

pub returns-clause-wrote : goal.returns-clause-wrote
returns-clause-wrote c = (all_lined c.requires.0 c.loop-i.invariant.lined c.in-None.ensures.steps.0.1.0).0

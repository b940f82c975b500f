-- `rounds::find` meets its contract: the tests come in the definition's order. Assumes nothing.
use native.Mathlib.Omega.{arith}
use lib.ListN.{length}
use Rattle.rounds.proofs.Calls.{refused_4, refused_5, refused_6, passed, left_refused}
use Rattle.rounds.proofs.find.Goals as goal

pub returns-then-commands-ne0 : goal.returns-then-commands-ne0
returns-then-commands-ne0 c =
    let a = c.args in
    let is = left_refused _ _ a.rounds.now (refused_4 a.commands.now (length a.rounds.now) c.if-commands-ne0.true) in
    record { answer = is.0; left = is.1 }

pub returns-then-count-gt-MOST : goal.returns-then-count-gt-MOST
returns-then-count-gt-MOST c =
    let a = c.args in
    let is = left_refused _ _ a.rounds.now (refused_5 a.commands.now (length a.rounds.now) (omega arith) c.if-count-gt-MOST.true) in
    record { answer = is.0; left = is.1 }

pub returns-then-rounds-count : goal.returns-then-rounds-count
returns-then-rounds-count c =
    let a = c.args in
    let is = left_refused _ _ a.rounds.now (refused_6 a.commands.now (length a.rounds.now) (omega arith) (omega arith) c.if-rounds-count.true) in
    record { answer = is.0; left = is.1 }

pub returns : goal.returns
returns c =
    let a = c.args in
    let is = passed a.commands.now (length a.rounds.now) (omega arith) (omega arith) (omega arith) in
    let f = c.found_in.ensures in
    record { answer = rw is f.answer; left = rw is f.left }

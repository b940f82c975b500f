-- The list gets its rounds, or stays as it was. Assumes nothing.
use Rattle.std.proofs.Common.{refl, ◌∙◌}
use Rattle.std.proofs.lemmas.Result.{err_from_is_err_and}
use Rattle.rounds.proofs.Calls.{found_is, refused_is, left_refused}
use Rattle.rounds.proofs.found_in.Goals as goal

pub returns-in_err-count : goal.returns-in_err-count
returns-in_err-count c =
    let p = err_from_is_err_and c.from_residual.result c.from_residual.ensures.1 in
    let is = left_refused _ _ c.args.rounds.now (refused_is c.args.commands.now _ c.in_err-count.ensures.outcome) in
    record { answer = rw (p.1, p.2) is.0; left = is.1 }

pub returns : goal.returns
returns c =
    let n = c.in_ok-count in
    let rounds = n.ensures.rounds n.count refl in
    let is = found_is c.args.commands.now _ c.args.rounds.now n.count n.ensures.outcome (c.copy_from_slice.ensures.after ∙ rw c.requires.1 rounds.0) rounds.1 in
    record { answer = is.0; left = is.1 }

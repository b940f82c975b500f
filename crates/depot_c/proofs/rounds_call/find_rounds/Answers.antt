-- `depot_c::rounds_call::find_rounds` meets its contract: what was found in the room is written into the lists. Assumes nothing.
use Prim.Native.Nat.{ℕ, ◌*◌}
use mathlib.Core.Path.{sym, ap, ◌∙◌}
use native.Mathlib.Omega.{arith}
use Rattle.byte_fields.specs.Bytes.{bytes_of}
use Rattle.byte_fields.proofs.Bytes.{bytes_length}
use Rattle.byte_fields.proofs.Paste.{pasted_whole}
use Rattle.depot_c.specs.Boundary.{packed}
use Rattle.depot_c.proofs.Refused.{passed_on, rounds_refused}
use Rattle.depot_c.proofs.Entries.{written_numbers}
use Rattle.depot_c.proofs.RoundsLent.{told_found, found_in_order, told_refused, refused_place}
use Rattle.depot_c.proofs.rounds_call.find_rounds.Goals as goal

pub returns-in_err-needed-clause-number : goal.returns-in_err-needed-clause-number
returns-in_err-needed-clause-number c =
    let a = c.args in
    ap packed (passed_on _ _ c.from_residual.ensures.1) ∙ (told_refused a.commands.now a.rounds.now a.count.now _ c.requires _ c.in_err-needed.ensures.answer).0

pub returns-in_err-needed-clause-fits : goal.returns-in_err-needed-clause-fits
returns-in_err-needed-clause-fits c =
    let a = c.args in
    rw (passed_on _ _ c.from_residual.ensures.1)
    ((rounds_refused _).1, refused_place a.commands.now a.rounds.now a.count.now _ c.requires _ c.in_err-needed.ensures.answer)

pub returns-in_err-needed-clause-left : goal.returns-in_err-needed-clause-left
returns-in_err-needed-clause-left c =
    let a = c.args in
    (told_refused a.commands.now a.rounds.now a.count.now _ c.requires _ c.in_err-needed.ensures.answer).1

pub returns-in_err-needed-clause-counted : goal.returns-in_err-needed-clause-counted
returns-in_err-needed-clause-counted c =
    let a = c.args in
    (told_refused a.commands.now a.rounds.now a.count.now _ c.requires _ c.in_err-needed.ensures.answer).2

pub write_fields-requires : goal.write_fields-requires
write_fields-requires c =
    let a = c.args in
    omega (arith, (found_in_order a.commands.now a.rounds.now a.count.now _ c.requires _ _ c.in_ok-needed.ensures.answer).0, c.find.auto.rounds)

pub write-requires : goal.write-requires
write-requires c =
    let a = c.args in
    omega (arith, (found_in_order a.commands.now a.rounds.now a.count.now _ c.requires _ _ c.in_ok-needed.ensures.answer).1)

pub returns-clause-number : goal.returns-clause-number
returns-clause-number c =
    let a = c.args in
    (told_found a.commands.now a.rounds.now a.count.now _ c.requires _ _ c.in_ok-needed.ensures.answer).0

pub returns-clause-left : goal.returns-clause-left
returns-clause-left c =
    let a = c.args in
    let order = found_in_order a.commands.now a.rounds.now a.count.now _ c.requires _ _ c.in_ok-needed.ensures.answer in
    written_numbers 2 _ a.rounds.now _ (order.0 ∙ ap (λ (m : ℕ). 2 * m) (sym c.find.auto.rounds)) (c.write_fields.ensures 0)
    ∙ (told_found a.commands.now a.rounds.now a.count.now _ c.requires _ _ c.in_ok-needed.ensures.answer).1

pub returns-clause-counted : goal.returns-clause-counted
returns-clause-counted c =
    let a = c.args in
    let n = c.in_ok-needed.needed in
    let order = found_in_order a.commands.now a.rounds.now a.count.now _ c.requires _ _ c.in_ok-needed.ensures.answer in
    c.write.ensures ∙ pasted_whole (bytes_of 8 n) a.count.now (bytes_length 8 n ∙ sym order.1)
    ∙ (told_found a.commands.now a.rounds.now a.count.now _ c.requires _ _ c.in_ok-needed.ensures.answer).2

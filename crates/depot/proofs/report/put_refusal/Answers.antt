-- `depot::report::put_refusal` meets its contract: three texts one behind the other. Assumes nothing.
use native.Mathlib.Omega.{arith}
use Rattle.depot.specs.Program.{refusal}
use Rattle.depot.proofs.Decimal.{decimal_length}
use Rattle.depot.proofs.Wrote.{wrote_then}
use Rattle.depot.proofs.report.put_refusal.Goals as goal

pub put_number-at-requires : goal.put_number-at-requires
put_number-at-requires c = omega (arith, decimal_length 1 c.args.number c.requires.1)

pub put_byte-requires : goal.put_byte-requires
put_byte-requires c = omega (arith, decimal_length 1 c.args.number c.requires.1)

pub returns : goal.returns
unfolding refusal
returns c =
    let two = decimal_length 1 c.args.number c.requires.1 in
    wrote_then (omega arith) (wrote_then (omega arith) c.put_text-at.ensures c.put_number-at.ensures) c.put_byte.ensures

-- `depot::report::put_totals` meets its contract: five texts one behind the other. Assumes nothing.
use native.Mathlib.Omega.{arith}
use Rattle.state_bytes.specs.Layout.{state_in}
use Rattle.depot.specs.Program.{totals}
use Rattle.depot.proofs.Decimal.{decimal_length}
use Rattle.depot.proofs.Wrote.{wrote_then}
use Rattle.depot.proofs.report.put_totals.Goals as goal

pub put_number-at-requires : goal.put_number-at-requires
put_number-at-requires c = omega (arith, decimal_length 4 c.number_at.result (omega arith))

pub put_text-at-requires-2 : goal.put_text-at-requires-2
put_text-at-requires-2 c = omega (arith, decimal_length 4 c.number_at.result (omega arith))

pub put_number-at-requires-2 : goal.put_number-at-requires-2
put_number-at-requires-2 c = omega (arith, decimal_length 4 c.number_at.result (omega arith), decimal_length 2 c.chain_length.result (omega arith))

pub put_byte-requires : goal.put_byte-requires
put_byte-requires c = omega (arith, decimal_length 4 c.number_at.result (omega arith), decimal_length 2 c.chain_length.result (omega arith))

pub returns : goal.returns
unfolding totals state_in
returns c =
    let used = decimal_length 4 c.number_at.result (omega arith) in
    let count = decimal_length 2 c.chain_length.result (omega arith) in
    let second = rw c.number_at.ensures at c.put_number-at.ensures in
    let fourth = rw c.chain_length.ensures.value at c.put_number-at-2.ensures in
    wrote_then (omega arith)
    (wrote_then (omega arith)
    (wrote_then (omega arith) (wrote_then (omega arith) c.put_text-at.ensures second) c.put_text-at-2.ensures)
    fourth)
    c.put_byte.ensures

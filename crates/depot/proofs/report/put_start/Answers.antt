-- `depot::report::put_start` meets its contract: four texts one behind the other. Assumes nothing.
use native.Mathlib.Omega.{arith}
use Rattle.depot.proofs.Decimal.{decimal_length}
use Rattle.depot.proofs.Wrote.{wrote_then}
use Rattle.depot.proofs.report.put_start.Goals as goal

pub put_number-at-requires : goal.put_number-at-requires
put_number-at-requires c = omega (arith, decimal_length 3 c.args.place.0 c.requires.1)

pub put_byte-at-requires : goal.put_byte-at-requires
put_byte-at-requires c = omega (arith, decimal_length 3 c.args.place.0 c.requires.1)

pub put_kind-at-requires : goal.put_kind-at-requires
put_kind-at-requires c = omega (arith, decimal_length 3 c.args.place.0 c.requires.1)

pub put_byte-requires : goal.put_byte-requires
put_byte-requires c = omega (arith, decimal_length 3 c.args.place.0 c.requires.1)

pub returns : goal.returns
returns c =
    let place = decimal_length 3 c.args.place.0 c.requires.1 in record {
      wrote = wrote_then (omega arith)
          (wrote_then (omega arith) (wrote_then (omega arith) c.put_number-at.ensures c.put_byte-at.ensures) c.put_kind-at.ensures.wrote)
          c.put_byte.ensures;
      upper_bound = omega arith;
    }

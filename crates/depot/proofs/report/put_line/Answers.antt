-- `depot::report::put_line` meets its contract: five texts one behind the other. Assumes nothing.
use Prim.Native.Nat.{ℕ}
use native.Mathlib.Omega.{arith}
use mathlib.Core.Path.{◌≡◌}
use mathlib.Core.List.{List}
use lib.ListN.{length, take, drop, length-take, length-drop}
use Rattle.depot.specs.Program.{command_line}
use Rattle.depot.proofs.Decimal.{decimal_length}
use Rattle.depot.proofs.Wrote.{wrote_then}
use Rattle.depot.proofs.report.put_line.Goals as goal

-- a command's identifier
identifier_length : (command : List ℕ) → length command ≡ 16 → length (take 13 (drop 1 command)) ≡ 13
identifier_length command long = simp (length-take, length-drop) (omega arith)

pub put_number-at-requires : goal.put_number-at-requires
put_number-at-requires c =
    omega (arith, identifier_length c.args.command.now c.requires.2, decimal_length 4 c.args.answer (omega arith))

pub put_byte-requires : goal.put_byte-requires
put_byte-requires c =
    omega (arith, identifier_length c.args.command.now c.requires.2, decimal_length 4 c.args.answer (omega arith))

pub returns : goal.returns
unfolding command_line
returns c =
    let identifier = identifier_length c.args.command.now c.requires.2 in
    let answer = decimal_length 4 c.args.answer (omega arith) in record {
      wrote = wrote_then (omega arith)
          (wrote_then (omega arith)
          (wrote_then (omega arith) (wrote_then (omega arith) c.put_start-at.ensures.wrote c.put_text-at.ensures) c.put_byte-at.ensures)
          c.put_number-at.ensures)
          c.put_byte.ensures;
      upper_bound = omega arith;
    }

use native.Mathlib.Omega.{arith}
use Rattle.byte_fields.proofs.Fill.{number_two}
use Rattle.byte_fields.proofs.U16Field.read.Goals as goal

pub returns : goal.returns
returns c = omega (arith, c.from_be_bytes.ensures, number_two c.args.at c.args.list.now c.requires)

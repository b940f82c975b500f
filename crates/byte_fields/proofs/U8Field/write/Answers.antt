use native.Mathlib.Omega.{arith}
use Rattle.byte_fields.proofs.Paste.{byte_pastes}
use Rattle.byte_fields.proofs.U8Field.write.Goals as goal

pub returns : goal.returns
returns c = byte_pastes c.args.at c.args.value c.args.list.now (omega (arith, c.ranges.value))

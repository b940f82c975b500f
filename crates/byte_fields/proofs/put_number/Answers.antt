-- `byte_fields::put_number` meets its contract. The loop's invariant: the bytes from k on are put. Assumes nothing.
use native.Mathlib.Omega.{arith}
use Rattle.byte_fields.proofs.Paste.{bytes_none, bytes_more, bytes_all}
use Rattle.byte_fields.proofs.put_number.Goals as goal

pub loop-k-init : goal.loop-k-init
loop-k-init c = bytes_none _ _ _ _

pub loop-k-preserved : goal.loop-k-preserved
loop-k-preserved c = bytes_more c.loop-k.invariant (omega arith)

pub returns : goal.returns
returns c = bytes_all c.loop-k.invariant (omega arith)

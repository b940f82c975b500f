-- `byte_fields::put_number` meets its contract. The loop's invariant: the bytes from k on are put. Assumes nothing.
use Rattle.byte_fields.proofs.Paste.{PutBytes}
use Rattle.byte_fields.proofs.put_number.Given as goal

abbrev pub invariant-loop-k : goal.invariant-loop-k
invariant-loop-k l = PutBytes l.at l.width l.n l.initial.list l.list l.rest l.k

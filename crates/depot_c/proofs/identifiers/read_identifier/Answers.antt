-- `depot_c::identifiers::read_identifier` meets its contract: the key is written where the text was accepted. Assumes nothing.
use borrow.Author.Tests.{eq-eqb, ne_eqb}
use mathlib.Core.Path.{refl, sym, ap, ◌∙◌}
use Rattle.byte_fields.specs.Bytes.{bytes_of}
use Rattle.byte_fields.proofs.Bytes.{bytes_length}
use Rattle.byte_fields.proofs.Paste.{pasted_whole}
use Rattle.depot_c.specs.Boundary.{packed, bytes_read, read_answer, read_left}
use Rattle.depot_c.proofs.Refused.{passed_on}
use Rattle.depot_c.proofs.identifiers.read_identifier.Goals as goal

pub returns-then-key-ne-KEY-clause-number : goal.returns-then-key-ne-KEY-clause-number
unfolding read_answer
returns-then-key-ne-KEY-clause-number c = rw (ne_eqb _ _ c.if-key-ne-KEY.true, c.from.ensures) refl

pub returns-then-key-ne-KEY-clause-left : goal.returns-then-key-ne-KEY-clause-left
unfolding read_left
returns-then-key-ne-KEY-clause-left c = rw (ne_eqb _ _ c.if-key-ne-KEY.true)

pub returns-in_err-read-clause-number : goal.returns-in_err-read-clause-number
unfolding read_answer
returns-in_err-read-clause-number c = rw (eq-eqb _ _ c.if-key-ne-KEY.false, ← c.in_err-read.ensures) (ap packed (passed_on _ _ c.from_residual.ensures.1))

pub returns-in_err-read-clause-left : goal.returns-in_err-read-clause-left
unfolding read_left bytes_read
returns-in_err-read-clause-left c = rw (eq-eqb _ _ c.if-key-ne-KEY.false, ← c.in_err-read.ensures)

pub returns-clause-number : goal.returns-clause-number
unfolding read_answer
returns-clause-number c = rw (eq-eqb _ _ c.if-key-ne-KEY.false, ← c.in_ok-read.ensures)

pub returns-clause-left : goal.returns-clause-left
unfolding read_left bytes_read
returns-clause-left c =
    let key = c.in_ok-read.read in
    rw (eq-eqb _ _ c.if-key-ne-KEY.false, ← c.in_ok-read.ensures) (c.write.ensures ∙ pasted_whole (bytes_of 8 key) c.args.key.now (bytes_length 8 key ∙ sym c.if-key-ne-KEY.false))

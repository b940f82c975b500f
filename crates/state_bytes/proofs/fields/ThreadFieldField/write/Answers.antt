-- A thread is written as three bytes and a number, one after the other. Assumes nothing.
use Prim.Native.Nat.{ℕ}
use mathlib.Core.Path.{ap, sym, ◌∙◌}
use mathlib.Core.List.{List}
use Rattle.byte_fields.specs.Bytes.{bytes_of, pasted}
use Rattle.byte_fields.proofs.Paste.{stores_before}
use Rattle.state_bytes.proofs.fields.ThreadFieldField.write.Goals as goal

pub returns : goal.returns
returns c =
    let parts = c.parts_of-parts in
    let r = parts.result in
    c.write.ensures
    ∙ stores_before c.args.at r.0 r.1 r.2 (bytes_of 2 r.3) c.args.list.now
    ∙ ap (λ (part : List ℕ). pasted c.args.at part c.args.list.now) (sym parts.ensures)

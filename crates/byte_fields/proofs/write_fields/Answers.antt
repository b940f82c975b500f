-- `byte_fields::write_fields` meets its contract. The loop's invariant: the first n values are put. Assumes nothing.
use Prim.Native.Nat.{ℕ, ◌+◌, ◌*◌}
use native.Mathlib.Omega.{arith}
use mathlib.Core.Path.{ap}
use Rattle.std.proofs.lemmas.List.{get_or_read}
use Rattle.byte_fields.proofs.Paste.{fields_none, fields_put, fields_all}
use Rattle.byte_fields.proofs.write_fields.Goals as goal

pub loop-n-init : goal.loop-n-init
loop-n-init g c = λ default. fields_none _ _ _ _ _

pub loop-n-preserved : goal.loop-n-preserved
loop-n-preserved g c = λ default.
    let f = g.F.Field in
    let at = c.args.at + c.WIDTH.result * c.loop-n.n in
    let value = get_or_read c.args.from.now _ _ c.loop-n-test.true c.index-from-n.is default in
    fields_put (c.loop-n.invariant default) at c.loop-n-test.true (ap (λ (w : ℕ). c.args.at + w * c.loop-n.n) c.WIDTH.ensures) (g.met.F.Field.has_width _)
    (rw value at c.write.ensures)

pub returns : goal.returns
returns g c = λ default. fields_all (c.loop-n.invariant default) (omega arith)

-- A number grows by one byte at a time, and fits eight. Assumes nothing.
use Prim.Native.Nat.{◌+◌, ◌<◌}
use native.Mathlib.Omega.{arith}
use mathlib.Core.Path.{◌≡◌, sym}
use lib.ListN.{get_or}
use borrow.Author.Rules.{rules}
use Rattle.byte_fields.proofs.Fill.{number_none, number_more, byte_more, byte_fits}
use Rattle.byte_fields.proofs.U64Field.read.Goals as goal

pub loop-k-init : goal.loop-k-init
loop-k-init c = (sym (number_none c.args.at c.args.list.now), omega arith)

pub overflow_mul-n : goal.overflow_mul-n
overflow_mul-n c = let s = c.loop-k in omega (arith, byte_fits s.k s.n 0 s.invariant.1 (omega arith) (omega arith))

pub overflow_add-n-in-loop-k : goal.overflow_add-n-in-loop-k
overflow_add-n-in-loop-k c =
    let byte : get_or c.args.list.now (c.args.at + c.loop-k.k) 0 < 256 = search rules in
    let s = c.loop-k in
    omega (arith, byte_fits s.k s.n _ s.invariant.1 byte (omega arith))

pub loop-k-preserved : goal.loop-k-preserved
loop-k-preserved c =
    let byte : get_or c.args.list.now (c.args.at + c.loop-k.k) 0 < 256 = search rules in
    let s = c.loop-k in
    let more = number_more s.k c.args.at c.args.list.now (omega arith) in
    (rw (more, ← s.invariant.0), byte_more s.k s.n _ s.invariant.1 byte)

pub returns : goal.returns
returns c =
    let e : c.loop-k.k ≡ 8 = omega arith in
    rw e at c.loop-k.invariant.0

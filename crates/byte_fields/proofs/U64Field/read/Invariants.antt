-- The loop's invariant: n is the number of the first k bytes, and below 256 ^ k. Assumes nothing.
use Prim.Native.Nat.{◌^◌, ◌<◌}
use mathlib.Core.Path.{◌≡◌}
use Rattle.byte_fields.specs.Bytes.{number_at}
use Rattle.byte_fields.proofs.U64Field.read.Given as goal

abbrev pub invariant-loop-k : goal.invariant-loop-k
invariant-loop-k l = (l.n ≡ number_at l.k l.at l.list) × (l.n < 256 ^ l.k)

-- `byte_fields::read_fields` meets its contract. The loop's invariant: the first n values are filled. Assumes nothing.
use Prim.Native.Nat.{ℕ, ◌+◌, ◌*◌}
use lib.ListN.{length}
use Rattle.byte_fields.proofs.Fill.{Filled}
use Rattle.byte_fields.proofs.read_fields.Given as goal

abbrev pub invariant-loop-n : goal.invariant-loop-n
invariant-loop-n g l = let f = g.F.Field in Filled (λ (n : ℕ). f.value_at (l.at + f.WIDTH * n) l.list) (length l.initial.out) l.out l.n

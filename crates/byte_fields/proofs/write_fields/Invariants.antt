-- `byte_fields::write_fields` meets its contract. The loop's invariant: the first n values are put. Assumes nothing.
use Prim.Native.Nat.{ℕ}
use lib.ListN.{length, get_or}
use Rattle.byte_fields.proofs.Paste.{PutFields}
use Rattle.byte_fields.proofs.write_fields.Given as goal

abbrev pub invariant-loop-n : goal.invariant-loop-n
invariant-loop-n g l =
    let f = g.F.Field in
    (default : _) → PutFields (λ (n : ℕ). f.bytes (get_or l.from n default)) f.WIDTH (length l.from) l.at l.initial.list l.list l.n

-- `image::write_image` meets its contract. The loop's invariant: behind record 0 the first i records are put. Assumes nothing.
use Rattle.std.proofs.Common.{ℕ, suc, length}
use Rattle.byte_fields.proofs.Paste.{PutFields}
use Rattle.model.specs.Image.{slot_of}
use Rattle.store.specs.Lists.{store_of}
use Rattle.image.proofs.write_image.Given as goal

abbrev pub invariant-loop-i : goal.invariant-loop-i
invariant-loop-i l = PutFields (λ (k : ℕ). slot_of l.place (store_of l.keys l.chutes l.used) (suc k)) 16 (length l.keys) 16 l.initial.image l.image l.i

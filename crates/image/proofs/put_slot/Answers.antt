-- `image::put_slot` meets its contract: four numbers, one after the other. Assumes nothing.
use Prim.Native.Nat.{◌+◌, ◌*◌}
use native.Mathlib.Omega.{arith}
use Rattle.byte_fields.specs.Bytes.{bytes_of}
use Rattle.byte_fields.proofs.Bytes.{bytes_length}
use Rattle.byte_fields.proofs.Paste.{put_none, put_more}
use Rattle.model.specs.Image.{slot_bytes}
use Rattle.image.proofs.put_slot.Goals as goal

pub returns : goal.returns
unfolding slot_bytes
returns c =
    let args = c.args in
    let at = 16 * args.i in
    let next = args.next in
    let chute = args.chute in
    let key = args.key in
    let image = args.image.now in
    let one = put_more (put_none at image) (bytes_of 2 next) at 2 (omega arith) (bytes_length 2 next) c.put_number.ensures in
    let two = put_more one (bytes_of 2 chute) (at + 2) 2 (omega arith) (bytes_length 2 chute) c.put_number-2.ensures in
    let three = put_more two (bytes_of 8 key) (at + 4) 8 (omega arith) (bytes_length 8 key) c.put_number-3.ensures in
    let four = put_more three (bytes_of 4 0) (at + 12) 4 (omega arith) (bytes_length 4 0) c.put_number-4.ensures in
    four.is

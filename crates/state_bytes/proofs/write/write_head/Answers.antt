-- `state_bytes::write::write_head` meets its contract: ten fields, one after the other. Assumes nothing.
use mathlib.Core.Path.{refl}
use Rattle.byte_fields.specs.Bytes.{bytes_of}
use Rattle.state_bytes.specs.Layout.{lock_coupled}
use Rattle.state_bytes.specs.Head.{head_of}
use Rattle.byte_fields.proofs.Bytes.{bytes_length}
use Rattle.byte_fields.proofs.Paste.{Put, put_none, put_more}
use Rattle.state_bytes.proofs.write.write_head.Goals as goal

pub returns : goal.returns
unfolding lock_coupled
returns c =
    let one : Put 0 (bytes_of 1 lock_coupled) 1 c.args.state.now c.write.new.list = put_more (put_none 0 c.args.state.now) _ 0 1 refl (bytes_length 1 _) c.write.ensures in
    let two = put_more one _ 1 1 refl (bytes_length 1 _) c.write-2.ensures in
    let three = put_more two _ 2 1 refl (bytes_length 1 _) c.write-3.ensures in
    let four = put_more three _ 3 1 refl (bytes_length 1 _) c.write-4.ensures in
    let five = put_more four _ 4 2 refl (bytes_length 2 _) c.write-5.ensures in
    let six = put_more five _ 6 2 refl (bytes_length 2 _) c.write-6.ensures in
    let seven = put_more six _ 8 2 refl (bytes_length 2 _) c.put_number.ensures in
    let eight = put_more seven _ 10 2 refl (bytes_length 2 _) c.put_number-2.ensures in
    let nine = put_more eight _ 12 1 refl (bytes_length 1 _) c.write-7.ensures in
    let ten : Put 0 (head_of c.args.settings c.args.counters) 14 c.args.state.now c.put_number-3.new.list = put_more nine _ 13 1 refl (bytes_length 1 _) c.put_number-3.ensures in
    ten.is

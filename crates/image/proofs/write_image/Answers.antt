-- `image::write_image` meets its contract. The loop's invariant: behind record 0 the first i records are put. Assumes nothing.
use Rattle.std.proofs.Common.{◌≡◌, ℕ, suc, ◌*◌, ◌+◌, List, length, ap, ◌∙◌, arith}
use Rattle.byte_fields.specs.Bytes.{pasted}
use Rattle.byte_fields.proofs.Paste.{pasted_length, fields_none, fields_put}
use Rattle.model.specs.Store.{Store}
use Rattle.model.specs.Image.{image_length}
use Rattle.model.proofs.Image.{slot_length}
use Rattle.store.specs.Lists.{store_of}
use Rattle.image.proofs.Slots.{slot_entry, slot_zeros, zeros_put, image_put}
use Rattle.image.proofs.write_image.Goals as goal

pub loop-i-init : goal.loop-i-init
loop-i-init c = fields_none _ _ _ _ _

pub put_slot-requires-in-loop-i : goal.put_slot-requires-in-loop-i
unfolding image_length
put_slot-requires-in-loop-i c =
    let long : length c.put_slot.new.image ≡ length c.args.image.now = ap length c.put_slot.ensures ∙ pasted_length _ _ _ in
    omega (arith, c.requires)

pub loop-i-preserved : goal.loop-i-preserved
loop-i-preserved c =
    let store : Store = store_of c.args.keys.now c.args.chutes.now c.args.used in
    let i = c.loop-i.i in
    let entry = slot_entry c.args.place store c.in_use-n.ensures.counted i c.loop-i-test.true c.next_index-in-loop-i.ensures in
    fields_put c.loop-i.invariant (16 * (i + 1)) (omega arith) (omega arith) (slot_length c.args.place store (suc i))
    (c.put_slot-in-loop-i.ensures ∙ ap (λ (part : List ℕ). pasted (16 * (i + 1)) part c.loop-i.image) entry)

pub returns : goal.returns
returns c =
    let store : Store = store_of c.args.keys.now c.args.chutes.now c.args.used in
    let place = c.args.place in
    let counted = c.in_use-n.ensures.counted in
    let all : c.loop-i.i ≡ c.in_use-n.result = omega arith in
    let long : length c.put_slot.new.image ≡ length c.args.image.now = ap length c.put_slot.ensures ∙ pasted_length _ _ _ in
    let others = zeros_put (rw all at c.loop-i.invariant) (slot_zeros place store counted) (long ∙ c.requires) (c.fill.ensures.after (λ y e. e)) in
    image_put (length c.args.keys.now) place store c.args.image.now c.requires counted c.next_index.ensures c.put_slot.ensures others

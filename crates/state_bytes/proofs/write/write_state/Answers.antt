-- `state_bytes::write::write_state` meets its contract: the head, five arrays and the threads, one after the other, are all state bytes. Assumes nothing.
use mathlib.Core.Path.{refl, sym, ◌∙◌}
use mathlib.Core.List.{[]}
use lib.ListN.{get_or}
use mathlib.Core.Bool.{false}
use Rattle.model.specs.declared.Thread.TheVariants.{Idle}
use Rattle.state_bytes.specs.Layout.{state_length}
use Rattle.state_bytes.specs.Head.{head_of}
use Rattle.state_bytes.proofs.StateParts.{flag_length, set_length, thread_length}
use Rattle.byte_fields.proofs.Bytes.{bytes_length}
use Rattle.byte_fields.proofs.Paste.{put_none, put_more, put_fields, put_whole}
use Rattle.state_bytes.proofs.Shown.{head_length, shown_bytes}
use Rattle.state_bytes.proofs.write.write_state.Goals as goal

pub returns : goal.returns
unfolding state_length
returns c o s h i =
    let args = c.args in
    let graph = args.graph.now in
    let one = put_more (put_none 0 args.state.now) (head_of args.settings args.counters) 0 14 refl (head_length _ _) c.write_head.ensures in
    let two = put_fields one 1 151 _ (λ n. bytes_length 1 _) c.write_fields-arg-2-1.given (c.write_fields.ensures 0) in
    let three = put_fields two 2 151 _ (λ n. bytes_length 2 _) c.write_fields-arg-4-1.given (c.write_fields-2.ensures 0) in
    let four = put_fields three 1 151 _ (λ n. flag_length (get_or graph.executing n false)) c.write_fields-arg-6-1.given (c.write_fields-3.ensures false) in
    let five = put_fields four 1 151 _ (λ n. flag_length (get_or graph.locked n false)) c.write_fields-arg-8-1.given (c.write_fields-4.ensures false) in
    let six = put_fields five 24 151 _ (λ n. set_length _) c.write_fields-arg-10-1.given (c.write_fields-5.ensures []) in
    let seven = put_fields six 5 65 _ (λ n. thread_length _) c.told-threads (c.write_fields-6.ensures Idle) in
    put_whole seven refl c.requires ∙ sym (shown_bytes o s args.settings args.counters _ _ _ _ _ _ h i)

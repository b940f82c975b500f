-- A set is written as three words, one after the other. Assumes nothing.
use Prim.Native.Nat.{ℕ, ◌+◌}
use native.Mathlib.Omega.{arith}
use mathlib.Core.Path.{ap, sym, ◌∙◌}
use mathlib.Core.List.{List}
use lib.ListN.{get_or}
use Rattle.node_set.specs.Laws.{NodeSet}
use Rattle.node_set.specs.Members.{member}
use Rattle.node_set.proofs.Words.{array_is_a_set}
use Rattle.byte_fields.specs.Bytes.{bytes_of, pasted}
use Rattle.byte_fields.proofs.Bytes.{bytes_length}
use Rattle.byte_fields.proofs.Paste.{put_none, put_more}
use Rattle.state_bytes.specs.Layout.{set_bytes}
use Rattle.state_bytes.proofs.Shown.{set_bytes_lem}
use borrow.Author.Rules.{rules}
use Rattle.state_bytes.proofs.fields.SetFieldField.write.Goals as goal

pub returns : goal.returns
returns c =
    let ws : List ℕ = c.words-words.result in
    let words : NodeSet ws = array_is_a_set ws (search rules) (λ i. search rules) in
    let at = c.args.at in
    let b = c.args.list.now in
    let word : ℕ → List ℕ = λ i. bytes_of 8 (get_or ws i 0) in
    let one = put_more (put_none at b) (word 0) at 8 (omega arith) (bytes_length 8 _) c.write.ensures in
    let two = put_more one (word 1) (at + 8) 8 (omega arith) (bytes_length 8 _) c.write-2.ensures in
    let three = put_more two (word 2) (at + 16) 8 (omega arith) (bytes_length 8 _) c.write-3.ensures in
    three.is ∙ ap (λ (part : List ℕ). pasted at part b) (sym (set_bytes_lem ws (words).fits) ∙ ap (λ (set : List ℕ). set_bytes (member set)) c.words-words.ensures)

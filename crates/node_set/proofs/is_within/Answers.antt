-- `node_set::is_within` meets its contract: no member is above the limit exactly if each word has only the places that the limit leaves it. Assumes nothing.
use borrow.Author.Rules.{rules}
use mathlib.Core.Path.{refl, sym, ◌∙◌}
use Prim.Native.Nat.{◌+◌}
use native.Mathlib.Omega.{arith}
use Rattle.node_set.specs.Laws.{NodeSet}
use Rattle.node_set.proofs.Words.{array_is_a_set}
use Rattle.node_set.proofs.Within.{tested_word, word_above, third_word_decides}
use Rattle.node_set.proofs.is_within.Goals as goal

pub returns-then-not-has_places : goal.returns-then-not-has_places
returns-then-not-has_places c =
    let words : NodeSet c.args.set = array_is_a_set c.args.set (search rules) (λ i. search rules) in
    let set = c.args.set in
    let limit = c.args.limit in
    word_above set words limit 0 (omega arith)
    (tested_word set words limit 0 {places = limit + 1} (omega arith) c.has_places.ensures c.if-not-has_places.true)

pub returns-then-not-has_places-2 : goal.returns-then-not-has_places-2
returns-then-not-has_places-2 c =
    let words : NodeSet c.args.set = array_is_a_set c.args.set (search rules) (λ i. search rules) in
    let set = c.args.set in
    let limit = c.args.limit in
    word_above set words limit 1 (omega arith)
    (tested_word set words limit 1 c.saturating_sub.ensures c.has_places-2.ensures c.if-not-has_places-2.true)

pub returns : goal.returns
returns c =
    let words : NodeSet c.args.set = array_is_a_set c.args.set (search rules) (λ i. search rules) in
    let set = c.args.set in
    let is = words in
    let limit = c.args.limit in
    let first = tested_word set is limit 0 {places = limit + 1} (omega arith) c.has_places.ensures c.if-not-has_places.false in
    let second = tested_word set is limit 1 c.saturating_sub.ensures c.has_places-2.ensures c.if-not-has_places-2.false in
    let third = tested_word set is limit 2 c.saturating_sub-2.ensures c.has_places-3.ensures refl in
    sym third ∙ third_word_decides set is limit first second

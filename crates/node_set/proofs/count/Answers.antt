-- `node_set::count` meets its contract: the set bits of the three words are as many as the members, at most 64 for each word.
-- Assumes nothing.
use borrow.Author.Rules.{rules}
use mathlib.Core.List.{List}
use mathlib.Core.Path.{ap, sym, ◌∙◌}
use native.Mathlib.Omega.{arith}
use Prim.Native.Nat.{ℕ, ◌≤◌}
use lib.Count.{ones, ones-le}
use lib.ListN.{get_or}
use Rattle.node_set.specs.Laws.{NodeSet}
use Rattle.node_set.specs.Members.{member, count_below}
use Rattle.node_set.proofs.Laws.{ones_count_members}
use Rattle.node_set.proofs.Words.{array_is_a_set, three_words}
use Rattle.node_set.proofs.count.Goals as goal

-- a word has at most 64 set bits
few_ones : (set : List ℕ) (i : ℕ) → NodeSet set → ones (get_or set i 0) ≤ 64
few_ones set i words = ones-le 64 (get_or set i 0) (words.fits i)

pub overflow_add-result : goal.overflow_add-result
overflow_add-result c =
    let words : NodeSet c.args.set = array_is_a_set c.args.set (search rules) (λ i. search rules) in
    omega (arith, few_ones c.args.set 0 words, few_ones c.args.set 1 words)

pub overflow_add-result-2 : goal.overflow_add-result-2
overflow_add-result-2 c =
    let words : NodeSet c.args.set = array_is_a_set c.args.set (search rules) (λ i. search rules) in
    omega (arith, few_ones c.args.set 0 words, few_ones c.args.set 1 words, few_ones c.args.set 2 words)

pub returns : goal.returns
returns c =
    let words : NodeSet c.args.set = array_is_a_set c.args.set (search rules) (λ i. search rules) in
    ones_count_members (get_or c.args.set 0 0) (get_or c.args.set 1 0) (get_or c.args.set 2 0) (words.fits 0) (words.fits 1) (words.fits 2)
    ∙ ap (λ (s : List ℕ). count_below 192 (member s)) (sym (three_words c.args.set words.three))

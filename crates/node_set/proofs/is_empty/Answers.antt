-- `node_set::is_empty` meets its contract: the `|` of the three words is 0 exactly if each of them is, and a set of such words
-- is the only one with no member. Assumes nothing.
use borrow.Author.Rules.{rules}
use borrow.Author.Tests.{eqb-true}
use mathlib.Core.Bool.{Bool, true, false}
use mathlib.Core.List.{List}
use mathlib.Core.Path.{◌≡◌, refl, sym, ap, ◌∙◌}
use Prim.Native.Nat.{ℕ}
use lib.Bits.{bit_or}
use lib.Dec.{eqb}
use lib.ListN.{get_or}
use Rattle.node_set.specs.Laws.{NodeSet}
use Rattle.node_set.specs.Members.{member, none_below}
use Rattle.node_set.proofs.Bits.{or_zero_both_zero}
use Rattle.node_set.proofs.Laws.{none_below_all_fail, same_members_same_set}
use Rattle.node_set.proofs.Words.{array_is_a_set, three_words, zeros, no_member_of_zeros, zeros_are_a_set}
use Rattle.node_set.proofs.is_empty.Goals as goal

-- two tests that pass together are the same
same_test : (t u : Bool) → (t ≡ true → u ≡ true) → (u ≡ true → t ≡ true) → t ≡ u
same_test true u there back = sym (there refl)
same_test false true there back = back refl
same_test false false there back = refl

-- the `|` of a set's words
abbrev joined : List ℕ → ℕ
joined s = bit_or (bit_or (get_or s 0 0) (get_or s 1 0)) (get_or s 2 0)

module _ (s : List ℕ) (is : NodeSet s) where
  -- each word is at most the `|`
  joined_zero_are_zeros : joined s ≡ 0 → s ≡ zeros
  joined_zero_are_zeros e =
      let third = or_zero_both_zero (bit_or (get_or s 0 0) (get_or s 1 0)) (get_or s 2 0) e in
      let first = or_zero_both_zero (get_or s 0 0) (get_or s 1 0) third.0 in
      three_words s is.three
      ∙ cc (first.0, first.1, third.1)

  -- a set is known by its members
  none_are_zeros : none_below 192 (member s) ≡ true → s ≡ zeros
  none_are_zeros e =
      same_members_same_set s zeros is zeros_are_a_set (λ n h.
      (none_below_all_fail 192 (member s)).0 e n h ∙ sym (no_member_of_zeros n))

  -- no bit of 0 is set
  zeros_have_none : s ≡ zeros → none_below 192 (member s) ≡ true
  zeros_have_none e = (none_below_all_fail 192 (member s)).1 (λ n h. ap (λ (l : List ℕ). member l n) e ∙ no_member_of_zeros n)

  -- so both tests pass at the same sets
  joined_zero_is_none : eqb (joined s) 0 ≡ none_below 192 (member s)
  joined_zero_is_none =
      same_test (eqb (joined s) 0) (none_below 192 (member s))
      (λ e. zeros_have_none (joined_zero_are_zeros (eqb-true (joined s) 0 e)))
      (λ e. ap (λ (l : List ℕ). eqb (joined l) 0) (none_are_zeros e))

pub returns : goal.returns
returns c = joined_zero_is_none c.args.set (array_is_a_set c.args.set (search rules) (λ i. search rules))

-- `node_set::remove` meets its contract: a number of 192 or more is no member, and any other clears its one bit in its one word.
-- Assumes nothing.
use borrow.Author.Rules.{rules}
use borrow.Author.Tests.{eqb-true}
use mathlib.Core.Bool.{Bool, true, false, not, ◌&&◌, and-true, and-false}
use mathlib.Core.List.{List}
use mathlib.Core.Path.{◌≡◌, refl, sym, ap, ◌∙◌}
use Prim.Native.Nat.{ℕ, ◌-◌, ◌*◌, ◌/◌, ◌%◌, ◌^◌, ◌≤◌, ◌<◌}
use native.Mathlib.Omega.{arith}
use lib.Bits.{bit_and}
use lib.Dec.{eqb}
use lib.ListN.{length, get_or}
use lib.Pow.{pow-lt}
use Rattle.node_set.specs.Members.{bit, member}
use Rattle.node_set.proofs.Bits.{bit_of_and, bit_of_complement, bit_of_power, shifted_one_is_power}
use Rattle.node_set.proofs.Words.{member_of_store, no_member_past}
use Rattle.node_set.proofs.remove.Goals as goal

-- what is past the words is no member, so that it is taken away changes nothing
past_is_not_there : (s : List ℕ) (m n : ℕ) → length s ≤ m / 64 → member s n ≡ (member s n && not (eqb n m))
past_is_not_there s m n h = go (eqb n m) refl
  where
    go : (t : Bool) → eqb n m ≡ t → member s n ≡ (member s n && not t)
    go true e = ap (member s) (eqb-true n m e) ∙ no_member_past s m h ∙ sym (and-false (member s n))
    go false e = sym (and-true (member s n))

-- the word with bit b clear
bits_without : (w b k : ℕ) → b < 64 → k < 64 → bit (bit_and w ((2 ^ 64 - 1) - (1 * 2 ^ b) % 2 ^ 64)) k ≡ (bit w k && not (eqb k b))
bits_without w b k hb hk =
    ap (λ (x : ℕ). bit (bit_and w ((2 ^ 64 - 1) - x)) k) (shifted_one_is_power b hb)
    ∙ bit_of_and w ((2 ^ 64 - 1) - 2 ^ b) k
    ∙ ap (λ (t : Bool). bit w k && t) (bit_of_complement 64 (2 ^ b) k (pow-lt hb) hk ∙ ap not (bit_of_power b k))

pub returns-then-n-ge192 : goal.returns-then-n-ge192
returns-then-n-ge192 c n =
    let long : length c.args.set ≡ 3 = search rules in
    past_is_not_there c.args.set c.args.node.0 n (omega arith)

pub returns : goal.returns
returns c n =
    let s = c.args.set in
    let m = c.args.node.0 in
    member_of_store (λ x t. x && not t) and-true s m (bit_and (get_or s (m / 64) 0) ((2 ^ 64 - 1) - (1 * 2 ^ (m % 64)) % 2 ^ 64)) (search rules)
    (λ b h. bits_without (get_or s (m / 64) 0) (m % 64) b (omega arith) h) n

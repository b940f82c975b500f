-- `node_set::add` meets its contract: a number of 192 or more changes nothing, and any other sets its one bit in its one word.
-- Assumes nothing.
use borrow.Author.Rules.{rules}
use borrow.Author.Tests.{eqb-true, lt-ltb, le-ltb}
use mathlib.Core.Bool.{Bool, true, false, ◌&&◌, ◌||◌, and-true, and-false, or-false}
use mathlib.Core.Path.{◌≡◌, refl, sym, ap, ◌∙◌}
use Prim.Native.Nat.{ℕ, ◌*◌, ◌/◌, ◌%◌, ◌^◌, ◌<◌}
use native.Mathlib.Omega.{arith}
use lib.Bits.{bit_or}
use lib.Dec.{eqb, ltb}
use lib.ListN.{get_or}
use Rattle.node_set.specs.Members.{bit, member}
use Rattle.node_set.proofs.Bits.{bit_of_or, bit_of_power, shifted_one_is_power}
use Rattle.node_set.proofs.Words.{member_of_store}
use Rattle.node_set.proofs.add.Goals as goal

-- where n is m, a test of n is the test of m
tested_at_the_same : (n m : ℕ) (test : ℕ → Bool) → (eqb n m && test n) ≡ (eqb n m && test m)
tested_at_the_same n m test = go (eqb n m) refl
  where
    go : (t : Bool) → eqb n m ≡ t → (t && test n) ≡ (t && test m)
    go true e = ap test (eqb-true n m e)
    go false e = refl

-- so the test of n is the one that the code makes of m
test_of_node : (n m : ℕ) (t : Bool) → ltb m 192 ≡ t → (eqb n m && t) ≡ (eqb n m && ltb n 192)
test_of_node n m t e =
    sym (tested_at_the_same n m (λ k. ltb k 192) ∙ ap (λ (u : Bool). eqb n m && u) e)

-- the word with bit b set
bits_with : (w b k : ℕ) → b < 64 → bit (bit_or w ((1 * 2 ^ b) % 2 ^ 64)) k ≡ (bit w k || eqb k b)
bits_with w b k h =
    ap (λ (x : ℕ). bit (bit_or w x) k) (shifted_one_is_power b h)
    ∙ bit_of_or w (2 ^ b) k ∙ ap (λ (t : Bool). bit w k || t) (bit_of_power b k)

pub returns-then-n-ge192 : goal.returns-then-n-ge192
returns-then-n-ge192 c n =
    let m = c.args.node.0 in
    let old = member c.args.set n in
    sym (or-false old)
    ∙ ap (λ (t : Bool). old || t) (sym (and-false (eqb n m)) ∙ test_of_node n m false (le-ltb m 192 (omega arith)))

pub returns : goal.returns
returns c n =
    let s = c.args.set in
    let m = c.args.node.0 in
    let old = member s n in
    member_of_store ◌||◌ or-false s m (bit_or (get_or s (m / 64) 0) ((1 * 2 ^ (m % 64)) % 2 ^ 64)) (search rules)
    (λ b h. bits_with (get_or s (m / 64) 0) (m % 64) b (omega arith)) n
    ∙ ap (λ (t : Bool). old || t) (sym (and-true (eqb n m)) ∙ test_of_node n m true (lt-ltb m 192 (omega arith)))

-- What holds of sets of nodes, of tests on the first k numbers, and of words made from a test. Each name here is a statement;
-- its proof has the same words as its name, in `proofs/Laws.antt`. Assumes nothing.
use Rattle.std.specs.Prelude.{◌≡◌, ◌↔◌, Bool, true, false, List, [], ◌∷◌, ℕ, ◌+◌, ◌^◌, ◌≤◌, ◌<◌, length, get_or}
use Rattle.std.specs.Int.Count.{ones}
use Rattle.node_set.specs.Members.{bit, member, none_below, count_below, word_of}

-- a list is the three words of a set
pub record NodeSet (set : List ℕ) : Type 0 where
  pub three : length set ≡ 3
  pub fits : (i : ℕ) → get_or set i 0 < 2 ^ 64

-- the set bits of the three words are as many as the members
abbrev pub OnesCountMembers : Type 0
OnesCountMembers =
    (w0 w1 w2 : ℕ) → w0 < 2 ^ 64 → w1 < 2 ^ 64 → w2 < 2 ^ 64
    → ones w0 + ones w1 + ones w2 ≡ count_below 192 (member (w0 ∷ w1 ∷ w2 ∷ []))

-- two sets with the same members are the same words
abbrev pub SameMembersSameSet : Type 0
SameMembersSameSet =
    (v w : List ℕ) → NodeSet v → NodeSet w → ((n : ℕ) → n < 192 → member v n ≡ member w n) → v ≡ w

-- none of the first k passes exactly if each of them fails
abbrev pub NoneBelowAllFail : Type 0
NoneBelowAllFail =
    (k : ℕ) (test : ℕ → Bool) → (none_below k test ≡ true) ↔ ((n : ℕ) → n < k → test n ≡ false)

-- the count of the first k is 0 exactly if none of them passes
abbrev pub CountZeroNoneBelow : Type 0
CountZeroNoneBelow = (k : ℕ) (test : ℕ → Bool) → (count_below k test ≡ 0) ↔ (none_below k test ≡ true)

-- the word has k bits, and each is what the test says
pub record IsWordOf (k : ℕ) (test : ℕ → Bool) (word : ℕ) : Type 0 where
  pub fits : word < 2 ^ k
  pub inside : (b : ℕ) → b < k → bit word b ≡ test b
  pub outside : (b : ℕ) → k ≤ b → bit word b ≡ false

-- every test has its word
abbrev pub WordOfIsWordOf : Type 0
WordOfIsWordOf = (k : ℕ) (test : ℕ → Bool) → IsWordOf k test (word_of k test)

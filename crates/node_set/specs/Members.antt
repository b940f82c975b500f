-- The waits-for set of document 01, "Records and turns": "The set is three 64-bit words". Node n is a member if bit n % 64
-- of word n / 64 is set, so the nodes from 0 to 191 can be members. Assumes nothing.
use Rattle.std.specs.Prelude.{ℕ, zero, suc, ◌+◌, ◌/◌, ◌%◌, ◌^◌, Bool, true, not, cond, ◌&&◌, ◌||◌, List, get_or, eqb, leb}

-- bit b of a word
unfoldable pub bit : ℕ → ℕ → Bool
bit word b = eqb (word / 2 ^ b % 2) 1

unfoldable pub member : List ℕ → ℕ → Bool
unfolding bit
member set n = bit (get_or set (n / 64) 0) (n % 64)

-- whether none of the first k numbers passes a test
unfoldable pub none_below : ℕ → (ℕ → Bool) → Bool
none_below zero test = true
none_below (suc k) test = not (test k) && none_below k test

-- how many of the first k numbers pass a test
unfoldable pub count_below : ℕ → (ℕ → Bool) → ℕ
count_below zero test = 0
count_below (suc k) test = cond (test k) 1 0 + count_below k test

-- the word of k bits whose bit b is set where the test passes at b
unfoldable pub word_of : ℕ → (ℕ → Bool) → ℕ
word_of zero test = 0
word_of (suc k) test = cond (test k) (2 ^ k) 0 + word_of k test

-- whether none of the first k numbers that pass a test is above a limit
unfoldable pub none_above : ℕ → ℕ → (ℕ → Bool) → Bool
none_above zero limit test = true
none_above (suc k) limit test = (not (test k) || leb k limit) && none_above k limit test

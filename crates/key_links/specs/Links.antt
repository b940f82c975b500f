-- Commands linked by their keys: each to the one before it in its bucket, so that the last of a key is found without looking at those of other buckets.
-- Places are counted from 0, and links from 1, 0 for none. Assumes nothing.
use Rattle.std.specs.Prelude.{ℕ, zero, suc, ◌%◌, ◌<◌, ◌≡◌, cond, List, get_or, eqb, Option, Some, None}

-- the bucket of a key; a prime number of buckets, so that keys in even steps spread
unfoldable pub bucket_of : ℕ → ℕ
bucket_of key = key % 4093

-- the last of the first k keys in a bucket
unfoldable pub last_in : List ℕ → ℕ → ℕ → ℕ
unfolding bucket_of
last_in keys b zero = 0
last_in keys b (suc k) = cond (eqb (bucket_of (get_or keys k 0)) b) (suc k) (last_in keys b k)

-- the last of them that has a key
unfoldable pub last_of : List ℕ → ℕ → ℕ → ℕ
last_of keys key zero = 0
last_of keys key (suc k) = cond (eqb (get_or keys k 0) key) (suc k) (last_of keys key k)

-- the place that a link leads to
abbrev pub place_at : ℕ → Option ℕ
place_at zero = None
place_at (suc j) = Some j

-- what a list says at a link, 0 at none
unfoldable pub at_link : List ℕ → ℕ → ℕ
at_link list zero = 0
at_link list (suc j) = get_or list j 0

-- The first k commands are linked: each to the one before it in its bucket.
abbrev pub Linked : List ℕ → List ℕ → ℕ → Type 0
Linked keys previous k = (j : ℕ) → j < k → get_or previous j 0 ≡ last_in keys (bucket_of (get_or keys j 0)) j

-- And for each bucket the last command in it is known.
abbrev pub Indexed : List ℕ → List ℕ → List ℕ → ℕ → Type 0
Indexed keys previous heads k = Linked keys previous k × ((b : ℕ) → b < 4096 → get_or heads b 0 ≡ last_in keys b k)

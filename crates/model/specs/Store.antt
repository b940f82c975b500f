-- The store of document 01, "Command list and store": two lists, both as long as the capacity ("room"), of which the first places are in
-- use. The operations are defined for any contents; on ascending keys they are the serial run's (proofs/Store). Assumes nothing.
use Rattle.std.specs.Prelude.{ℕ, zero, suc, ◌+◌, ◌-◌, ◌/◌, min, Bool, cond, ◌&&◌, List, ◌∷◌, ◌++◌, map, length, get_or, take, drop, set, replicate, eqb, leb, ltb}
use Rattle.model.specs.Serial.{Entry}

-- "a lent list of keys and a lent list of chutes", and how many places are in use
pub record Store : Type 0 where
  pub keys : List ℕ
  pub chutes : List ℕ
  pub used : ℕ

-- "laid out as the store is, 0 past them up to the room"
unfoldable pub lay_out : ℕ → List Entry → Store
lay_out capacity es = record {
  keys = map (λ (e : Entry). e.key) es ++ replicate (capacity - length es) 0;
  chutes = map (λ (e : Entry). e.chute) es ++ replicate (capacity - length es) 0;
  used = length es;
}

-- how many places both lists have
unfoldable pub room : Store → ℕ
room st = min (length st.keys) (length st.chutes)

-- the places in use: as many as `used` says, and no more than there are
unfoldable pub in_use : Store → ℕ
unfolding room
in_use st = min st.used (room st)

-- The last of `size` places from `from` on whose key is smaller, by n halvings, or the first of them: from the middle on where the middle's key
-- is smaller, else up to it. Where one place is left, nothing changes.
unfoldable pub halve : ℕ → List ℕ → ℕ → ℕ → ℕ → ℕ
halve zero keys key from size = from
halve (suc n) keys key from size =
    let middle : ℕ = from + size / 2 in
    halve n keys key (cond (ltb (get_or keys middle 0) key) middle from) (size - size / 2)

-- where a key stands among the first n of a list, or belongs where it is absent: behind that place, if its key is smaller
unfoldable pub place_among : ℕ → List ℕ → ℕ → ℕ
unfolding halve
place_among n keys key =
    let last : ℕ = halve n keys key 0 n in
    cond (eqb n 0) 0 (cond (ltb (get_or keys last 0) key) (last + 1) last)

-- and in the store
unfoldable pub key_place : ℕ → Store → ℕ
unfolding place_among in_use
key_place key st = place_among (in_use st) st.keys key

unfoldable pub holds : ℕ → Store → Bool
unfolding key_place
holds key st = ltb (key_place key st) (in_use st) && eqb (get_or st.keys (key_place key st) 0) key

-- the chute of a key, 0 where the store does not hold it
unfoldable pub look_up : ℕ → Store → ℕ
unfolding holds
look_up key st = cond (holds key st) (get_or st.chutes (key_place key st) 0) 0

-- "Insert shifts later entries up": v at place p of the first n of a list, which must have a place more
unfoldable pub shift_up : ℕ → ℕ → ℕ → List ℕ → List ℕ
shift_up p n v l = take p l ++ (v ∷ take (n - p) (drop p l)) ++ drop (n + 1) l

-- "delete shifts them down, so freed places serve again": place p of the first n of a list is gone, and place n - 1 holds 0
unfoldable pub shift_down : ℕ → ℕ → List ℕ → List ℕ
shift_down p n l = take p l ++ take (n - (p + 1)) (drop (p + 1) l) ++ (0 ∷ drop n l)

-- a key and its chute are gone; nothing changes where the key is not held
unfoldable pub remove : ℕ → Store → Store
unfolding holds shift_down
remove key st = cond (holds key st) (record {
  keys = shift_down (key_place key st) (in_use st) st.keys;
  chutes = shift_down (key_place key st) (in_use st) st.chutes;
  used = in_use st - 1;
}) st

-- another chute for a key; nothing changes where the key is not held
unfoldable pub replace : ℕ → ℕ → Store → Store
unfolding holds
replace key chute st = cond (holds key st) (record {
  keys = st.keys;
  chutes = set st.chutes (key_place key st) chute;
  used = st.used;
}) st

-- a key and its chute: a key that is held gets the chute, and nothing changes where it is not and no place is left
unfoldable pub insert : ℕ → ℕ → Store → Store
unfolding replace shift_up
insert key chute st = cond (holds key st) (replace key chute st) (cond (leb (room st) (in_use st)) st (record {
  keys = shift_up (key_place key st) (in_use st) key st.keys;
  chutes = shift_up (key_place key st) (in_use st) chute st.chutes;
  used = in_use st + 1;
}))

-- The store's shape: two lists as long as the capacity, no more places in use than there are, every chute a number of two bytes. Every
-- operation of the store keeps it, on any contents, and every lookup finds a number of two bytes. Assumes nothing.
use Rattle.std.specs.Prelude.{ℕ, zero, suc, ◌+◌, ◌-◌, ◌/◌, ◌≤◌, ◌<◌, ◌≡◌, refl, Bool, true, false, cond, List, [], ◌∷◌, ◌++◌, map, length, get_or, take, drop, set, replicate, eqb, leb, ltb}
use Rattle.std.proofs.Common.{arith, ◌∙◌, length-append, length-take, length-drop, get_or-drop}
use Rattle.std.proofs.Math.Bool.{and-eq-true_iff}
use Rattle.std.proofs.Math.ListN.{length-set}
use borrow.Author.Tests.{ltb-true, leb-false, eqb-false}
use Rattle.command.specs.declared.Kind.{Kind}
use Rattle.command.specs.declared.Kind.TheVariants.{Insert, Delete, Read, Update, Workers, Checkpoint}
use Rattle.model.specs.Serial.{Entry, All, Stored}
use Rattle.model.specs.Store.{Store, lay_out, room, in_use, halve, place_among, key_place, holds, look_up, shift_up, shift_down, insert, remove, replace}
use Rattle.model.specs.Service.{Write, write_kind}
use Rattle.command.proofs.Tests.{cond_cases}
use Rattle.model.proofs.Store.{key_of, chute_of, length_laid}

-- ---- lists of numbers of two bytes

-- every element, and the 0 past the end, is a number of two bytes
abbrev pub Fit : List ℕ → Type 0
Fit l = (i : ℕ) → get_or l i 0 < 65536

-- zeros
pub replicate_fit : (n : ℕ) → Fit (replicate n 0)
replicate_fit zero i = omega arith
replicate_fit (suc n) zero = omega arith
replicate_fit (suc n) (suc i) = replicate_fit n i

-- a part of such a list, two such lists in a row, and such a list with one element changed
pub take_fit : (n : ℕ) (l : List ℕ) → Fit l → Fit (take n l)
take_fit zero l h i = omega arith
take_fit (suc n) [] h i = omega arith
take_fit (suc n) (x ∷ l) h zero = h 0
take_fit (suc n) (x ∷ l) h (suc i) = take_fit n l (λ j. h (suc j)) i

pub drop_fit : (n : ℕ) (l : List ℕ) → Fit l → Fit (drop n l)
drop_fit n l h i = rw get_or-drop (h (n + i))

pub cons_fit : (v : ℕ) (l : List ℕ) → v < 65536 → Fit l → Fit (v ∷ l)
cons_fit v l f h zero = f
cons_fit v l f h (suc i) = h i

pub append_fit : (l r : List ℕ) → Fit l → Fit r → Fit (l ++ r)
append_fit [] r h k i = k i
append_fit (x ∷ l) r h k zero = h 0
append_fit (x ∷ l) r h k (suc i) = append_fit l r (λ j. h (suc j)) k i

pub set_fit : (l : List ℕ) (p v : ℕ) → v < 65536 → Fit l → Fit (set l p v)
set_fit [] p v f h i = omega arith
set_fit (x ∷ l) zero v f h i = cons_fit v l f (λ j. h (suc j)) i
set_fit (x ∷ l) (suc p) v f h i = cons_fit x (set l p v) (h 0) (set_fit l p v f (λ j. h (suc j))) i

-- ---- the search and the shifts

-- halving ends among the places that it begins with, since the middle is one of them
pub halve_within : (keys : List ℕ) (key n from size : ℕ) → 1 ≤ size → halve n keys key from size < from + size
unfolding halve
halve_within keys key zero from size h = omega arith
halve_within keys key (suc n) from size h = by (ltb (get_or keys (from + size / 2) 0) key) (halve_within keys key n)
  where
    by : (b : Bool) → ((f s : ℕ) → 1 ≤ s → halve n keys key f s < f + s) → halve n keys key (cond b (from + size / 2) from) (size - size / 2) < from + size
    by true go = omega (arith, go (from + size / 2) (size - size / 2) (omega arith))
    by false go = omega (arith, go from (size - size / 2) (omega arith))

pub place_within : (n : ℕ) (keys : List ℕ) (key : ℕ) → place_among n keys key ≤ n
unfolding place_among
place_within n keys key = by (eqb n 0) refl (ltb (get_or keys last 0) key)
  where
    last : ℕ
    last = halve n keys key 0 n

    by : (e : Bool) → eqb n 0 ≡ e → (b : Bool) → cond e 0 (cond b (last + 1) last) ≤ n
    by true q b = omega arith
    by false q true = let some = eqb-false n 0 q in omega (arith, halve_within keys key n 0 n (omega arith))
    by false q false = let some = eqb-false n 0 q in omega (arith, halve_within keys key n 0 n (omega arith))

pub place_of_within : (key : ℕ) (st : Store) → key_place key st ≤ in_use st
unfolding key_place
place_of_within key st = place_within (in_use st) st.keys key

-- a key that is held has a place in use
pub held_in_use : (key : ℕ) (st : Store) → holds key st ≡ true → key_place key st < in_use st
unfolding holds
held_in_use key st h = ltb-true _ _ ((and-eq-true_iff (ltb (key_place key st) (in_use st)) _).0 h).0

-- shifting up moves the first n elements within a list that has a place more, shifting down within a list that has n
pub shift_up_length : (p n v : ℕ) (l : List ℕ) → p ≤ n → n < length l → length (shift_up p n v l) ≡ length l
unfolding shift_up
shift_up_length p n v l h k = simp (length-append, length-take, length-drop) (omega arith)

pub shift_down_length : (p n : ℕ) (l : List ℕ) → p < n → n ≤ length l → length (shift_down p n l) ≡ length l
unfolding shift_down
shift_down_length p n l h k = simp (length-append, length-take, length-drop) (omega arith)

-- what is shifted is parts of the list, with one element put in
pub shift_up_fit : (p n v : ℕ) (l : List ℕ) → v < 65536 → Fit l → Fit (shift_up p n v l)
unfolding shift_up
shift_up_fit p n v l f h =
    let moved : List ℕ = take (n - p) (drop p l) in
    append_fit (take p l ++ v ∷ moved) (drop (n + 1) l)
    (append_fit (take p l) (v ∷ moved) (take_fit p l h) (cons_fit v moved f (take_fit (n - p) (drop p l) (drop_fit p l h)))) (drop_fit (n + 1) l h)

pub shift_down_fit : (p n : ℕ) (l : List ℕ) → Fit l → Fit (shift_down p n l)
unfolding shift_down
shift_down_fit p n l h =
    let moved : List ℕ = take (n - (p + 1)) (drop (p + 1) l) in
    append_fit (take p l ++ moved) (0 ∷ drop n l)
    (append_fit (take p l) moved (take_fit p l h) (take_fit (n - (p + 1)) (drop (p + 1) l) (drop_fit (p + 1) l h)))
    (cons_fit 0 (drop n l) (omega arith) (drop_fit n l h))

-- ---- the store

pub record StoreFormed (capacity : ℕ) (st : Store) : Type 0 where
  pub keys_length : length st.keys ≡ capacity
  pub chutes_length : length st.chutes ≡ capacity
  pub used_fits : st.used ≤ capacity
  pub chutes_fit : Fit st.chutes

-- chutes of entries are such
chutes_of_fit : (es : List Entry) → All (λ (e : Entry). (1 ≤ e.chute) × (e.chute ≤ 512)) es → Fit (map chute_of es)
chutes_of_fit [] h = λ i. omega arith
chutes_of_fit (e ∷ es) h = cons_fit e.chute (map chute_of es) (omega (arith, h.0.1)) (chutes_of_fit es h.1)

-- so a store of entries that it can hold has the shape
pub lay_out_formed : (capacity : ℕ) (es : List Entry) → Stored capacity es → StoreFormed capacity (lay_out capacity es)
unfolding lay_out
lay_out_formed capacity es h = record {
  keys_length = length_laid key_of capacity es h.fits;
  chutes_length = length_laid chute_of capacity es h.fits;
  used_fits = h.fits;
  chutes_fit = append_fit (map chute_of es) (replicate (capacity - length es) 0) (chutes_of_fit es h.chutes) (replicate_fit (capacity - length es));
}

module _ {capacity : ℕ} (st : Store) (k : StoreFormed capacity st) where
  -- as many places as the capacity, of which as many are in use as `used` says
  pub room_capacity : room st ≡ capacity
  unfolding room
  room_capacity = omega (arith, k.keys_length, k.chutes_length)

  pub in_use_used : in_use st ≡ st.used
  unfolding in_use
  in_use_used = omega (arith, room_capacity, k.used_fits)

  -- a lookup finds an element, or 0
  pub look_up_fits : (key : ℕ) → look_up key st < 65536
  unfolding look_up
  look_up_fits key = cond_cases (λ (n : ℕ). n < 65536) (holds key st) (λ _. k.chutes_fit (key_place key st)) (λ _. omega arith)

  -- removing shifts within the places in use, of which a held key's is one
  pub remove_formed : (key : ℕ) → StoreFormed capacity (remove key st)
  unfolding remove
  remove_formed key =
      cond_cases (StoreFormed capacity) (holds key st)
      (λ e.
      let place = held_in_use key st e in
      let fits : in_use st ≤ capacity = omega (arith, in_use_used, k.used_fits) in
      record {
        keys_length = shift_down_length (key_place key st) (in_use st) st.keys place (omega (arith, k.keys_length)) ∙ k.keys_length;
        chutes_length = shift_down_length (key_place key st) (in_use st) st.chutes place (omega (arith, k.chutes_length)) ∙ k.chutes_length;
        used_fits = omega arith;
        chutes_fit = shift_down_fit (key_place key st) (in_use st) st.chutes k.chutes_fit;
      })
      (λ _. k)

  -- replacing changes one element
  pub replace_formed : (key chute : ℕ) → chute < 65536 → StoreFormed capacity (replace key chute st)
  unfolding replace
  replace_formed key chute f =
      cond_cases (StoreFormed capacity) (holds key st)
      (λ _. record {
        keys_length = k.keys_length;
        chutes_length = length-set st.chutes (key_place key st) chute ∙ k.chutes_length;
        used_fits = k.used_fits;
        chutes_fit = set_fit st.chutes (key_place key st) chute f k.chutes_fit;
      })
      (λ _. k)

  -- inserting replaces, or adds a place in use only where one is left
  pub insert_formed : (key chute : ℕ) → chute < 65536 → StoreFormed capacity (insert key chute st)
  unfolding insert
  insert_formed key chute f =
      cond_cases (StoreFormed capacity) (holds key st) (λ _. replace_formed key chute f)
      (λ _. cond_cases (StoreFormed capacity) (leb (room st) (in_use st)) (λ _. k)
      (λ e.
      let more : in_use st < room st = leb-false (room st) (in_use st) e in
      let place = place_of_within key st in
      let fits : in_use st < capacity = omega (arith, room_capacity) in
      record {
        keys_length = shift_up_length (key_place key st) (in_use st) key st.keys place (omega (arith, k.keys_length)) ∙ k.keys_length;
        chutes_length = shift_up_length (key_place key st) (in_use st) chute st.chutes place (omega (arith, k.chutes_length)) ∙ k.chutes_length;
        used_fits = omega arith;
        chutes_fit = shift_up_fit (key_place key st) (in_use st) chute st.chutes f k.chutes_fit;
      }))

  -- the store that is written has the shape
  abbrev After : Write → Type 0
  After w = StoreFormed capacity w.store

  -- whatever a command's kind writes, by whatever its lookup found
  pub write_kind_formed : (kind : Kind) (room key chute found : ℕ) → chute < 65536 → StoreFormed capacity (write_kind kind room key chute found st).store
  unfolding write_kind
  write_kind_formed Insert room key chute found f =
      cond_cases After (eqb found 0) (λ _. cond_cases After (leb room st.used) (λ _. k) (λ _. insert_formed key chute f)) (λ _. replace_formed key chute f)
  write_kind_formed Delete room key chute found f = cond_cases After (eqb found 0) (λ _. k) (λ _. remove_formed key)
  write_kind_formed Read room key chute found f = cond_cases After (eqb found 0) (λ _. k) (λ _. k)
  write_kind_formed Update room key chute found f = cond_cases After (eqb found 0) (λ _. k) (λ _. replace_formed key chute f)
  write_kind_formed Workers room key chute found f = k
  write_kind_formed Checkpoint room key chute found f = k

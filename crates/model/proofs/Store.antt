-- On ascending entries, laid out as a store, each operation of the store is the serial run's: the binary search finds a key exactly where
-- it is present, and inserting, removing and replacing are putting in, taking out and setting the chute. Assumes nothing.
use Prim.Native.Nat.{ℕ, zero, suc, ◌+◌, ◌-◌, ◌/◌, ◌≤◌, ◌<◌}
use native.Mathlib.Omega.{arith}
use Rattle.std.specs.Prelude.{◌≡◌, Bool, true, false, cond, ◌⊎◌, get_or, set, replicate, eqb, ltb}
use Rattle.std.proofs.Math.Path.{refl, sym}
use Rattle.std.proofs.Common.{◌∙◌, subst, true≢false, inl, inr, ⊎_elim, get_or-append-add}
use Rattle.std.proofs.lemmas.Bool.{false≢true}
use mathlib.Core.List.{List, [], ◌∷◌, ◌++◌, map, append_assoc, map-append}
use Rattle.std.proofs.Math.ListN.{length, length-append}
use Rattle.std.proofs.lemmas.List.{length-map, length-replicate, get_or_at, set_at}
use Rattle.std.proofs.Math.Seq.{take-append_seam, drop-append_seam, drop-append-add, take_at, drop_at}
use borrow.Author.Tests.{ltb-true, ltb-false, lt-ltb, le-ltb, lt-leb, eq-eqb, ne_eqb, eqb-true, eqb-false}
use Rattle.model.specs.Serial.{Entry, present, chute_at, put_in, take_out, set_chute}
use Rattle.model.specs.Store.{Store, lay_out, room, in_use, halve, place_among, key_place, holds, look_up, shift_up, shift_down, insert, remove, replace}
use Rattle.model.proofs.Serial.{all_map, chute_at_absent}
use Rattle.model.specs.Serial.{All, Ascending}

-- The test on two numbers, as a case distinction.
pub lt_or_le : (a b : ℕ) → (a < b) ⊎ (b ≤ a)
lt_or_le a b = by (ltb a b) refl
  where
    by : (t : Bool) → ltb a b ≡ t → (a < b) ⊎ (b ≤ a)
    by true q = inl (ltb-true a b q)
    by false q = inr (ltb-false a b q)

pub trichotomy : (a b : ℕ) → (a < b) ⊎ ((a ≡ b) ⊎ (b < a))
trichotomy a b = ⊎_elim inl (λ n. ⊎_elim (λ g. inr (inr g)) (λ m. inr (inl (omega arith))) (lt_or_le b a)) (lt_or_le a b)

-- The search. Of the first m keys, the first p are smaller than the key and the others are not.
module _ (keys : List ℕ) (key p m : ℕ) (smaller : (i : ℕ) → i < p → get_or keys i 0 < key)
    (others : (j : ℕ) → p + j < m → key ≤ get_or keys (p + j) 0) where
  -- A place whose key is smaller is one of the first p, since the others' keys are not smaller.
  pub left_of : (i : ℕ) → i < m → get_or keys i 0 < key → i < p
  left_of i f s = ⊎_elim (λ h. h) (λ h. absurd (apart h)) (lt_or_le i p)
    where
      apart : p ≤ i → ⊥
      apart h =
          let q : p + (i - p) ≡ i = omega arith in
          let o : key ≤ get_or keys i 0 = rw q at (others (i - p) (omega arith)) in
          omega arith

  -- A place whose key is not smaller is none of the first p, since their keys are smaller.
  pub not_left_of : (i : ℕ) → key ≤ get_or keys i 0 → p ≤ i
  not_left_of i s = ⊎_elim (λ h. absurd (omega (arith, smaller i h))) (λ h. h) (lt_or_le i p)

  -- Halving finds the last of the first p, the first place where there is none: p stays at most one past the places left, and these begin with
  -- one of the first p or with the first place.
  record Last (at : ℕ) : Type 0 where
    inside : at < m
    near : p ≤ at + 1
    smaller_or_first : (at < p) ⊎ (at ≡ 0)

  halve_finds : (n from size : ℕ) → 1 ≤ size → size ≤ n + 1 → from + size ≤ m → p ≤ from + size → (from < p) ⊎ (from ≡ 0) → Last (halve n keys key from size)
  unfolding halve
  halve_finds zero from size s d f h l = record { inside = omega arith; near = omega arith; smaller_or_first = l }
  halve_finds (suc n) from size s d f h l = step (ltb (get_or keys middle 0) key) refl (halve_finds n)
    where
      middle : ℕ
      middle = from + size / 2

      step : (b : Bool) → ltb (get_or keys middle 0) key ≡ b
          → ((f z : ℕ) → 1 ≤ z → z ≤ n + 1 → f + z ≤ m → p ≤ f + z → (f < p) ⊎ (f ≡ 0) → Last (halve n keys key f z))
          → Last (halve n keys key (cond b middle from) (size - size / 2))
      step true t go =
          go middle (size - size / 2) (omega arith) (omega arith) (omega arith) (omega arith) (inl (left_of middle (omega arith) (ltb-true _ _ t)))
      step false t go =
          let r = not_left_of middle (ltb-false _ _ t) in
          go from (size - size / 2) (omega arith) (omega arith) (omega arith) (omega arith) l

  -- So the place is p.
  pub place_finds : p ≤ m → place_among m keys key ≡ p
  unfolding place_among
  place_finds h = by (eqb m 0) refl
    where
      last : ℕ
      last = halve m keys key 0 m

      chosen : (b : Bool) → ltb (get_or keys last 0) key ≡ b → Last last → cond b (last + 1) last ≡ p
      chosen true t l = omega (arith, l.near, left_of last l.inside (ltb-true _ _ t))
      chosen false t l = let r = not_left_of last (ltb-false _ _ t) in ⊎_elim (λ q. absurd (omega arith)) (λ q. omega arith) l.smaller_or_first

      by : (b : Bool) → eqb m 0 ≡ b → cond b 0 (cond (ltb (get_or keys last 0) key) (last + 1) last) ≡ p
      by true e = omega (arith, eqb-true m 0 e)
      by false e =
          let some = eqb-false m 0 e in
          chosen _ refl (halve_finds m 0 m (omega arith) (omega arith) (omega arith) (omega arith) (inr refl))

-- Shifting, on a list that is written as its parts: a before the place, b from there to the last place in use, z past them.
module _ (a b z : List ℕ) (p n : ℕ) (here : length a ≡ p) where
  pub shift_up_parts : (x v : ℕ) → p + length b ≡ n → shift_up p n v (a ++ (b ++ x ∷ z)) ≡ a ++ v ∷ (b ++ z)
  unfolding shift_up
  shift_up_parts x v end =
      let past : n + 1 ≡ length a + (length b + 1) = omega arith in
      let size : n - p ≡ length b = omega arith in
      rw (past, size, take_at a, drop_at a _ p, take-append_seam, drop-append-add, drop-append-add, append_assoc)

  pub shift_down_parts : (x : ℕ) → p + 1 + length b ≡ n → shift_down p n (a ++ x ∷ (b ++ z)) ≡ a ++ (b ++ 0 ∷ z)
  unfolding shift_down
  shift_down_parts x end =
      let next : p + 1 ≡ length a + 1 = omega arith in
      let past : n ≡ length a + suc (length b) = omega arith in
      let size : n - (p + 1) ≡ length b = omega arith in
      rw (size, take_at a, next, past, drop-append-add, drop-append-add, take-append_seam, drop-append_seam, append_assoc)

-- One list of a store: f, the key or the chute, of each entry, and 0 past them up to the capacity.
abbrev pub laid : (Entry → ℕ) → ℕ → List Entry → List ℕ
laid f capacity es = map f es ++ replicate (capacity - length es) 0

-- What the f of every entry has, the f at each place in use has.
pub all_at : (f : Entry → ℕ) (Q : ℕ → Type 0) (es : List Entry) (z : List ℕ) → All (λ (e : Entry). Q (f e)) es
    → (i : ℕ) → i < length es → Q (get_or (map f es ++ z) i 0)
all_at f Q [] z h i l = absurd (omega arith)
all_at f Q (e ∷ es) z h zero l = h.0
all_at f Q (e ∷ es) z h (suc i) l = all_at f Q es z h.1 i (omega arith)

-- An entry after front has a place in use.
pub place_in_use : (front back : List Entry) (e : Entry) → length front < length (front ++ e ∷ back)
place_in_use front back e = omega (arith, length-append front (e ∷ back))

module _ (f : Entry → ℕ) (capacity : ℕ) where
  -- The zeros fill the list up to the capacity.
  pub length_laid : (es : List Entry) → length es ≤ capacity → length (laid f capacity es) ≡ capacity
  length_laid es h = simp (length-append, length-map, length-replicate) (omega arith)

  pub laid_parts : (front rest : List Entry)
      → laid f capacity (front ++ rest) ≡ map f front ++ (map f rest ++ replicate (capacity - length (front ++ rest)) 0)
  laid_parts front rest = simp (map-append, append_assoc)

  module _ (front back : List Entry) (e : Entry) where
    -- The entry after front stands at the place numbered by front's length.
    pub get_d_laid : get_or (laid f capacity (front ++ e ∷ back)) (length front) 0 ≡ f e
    get_d_laid = rw (laid_parts front (e ∷ back)) (get_or_at (map f front) (f e) _ 0 _ (length-map front f))

    pub set_laid : (v : Entry) → set (laid f capacity (front ++ e ∷ back)) (length front) (f v) ≡ laid f capacity (front ++ v ∷ back)
    set_laid v = simp (map-append, append_assoc, length-append) (set_at (map f front) (f e) _ (f v) _ (length-map front f))

    module _ (fits : length (front ++ e ∷ back) ≤ capacity) where
      -- Without the entry one place more is free.
      pub laid_without : laid f capacity (front ++ back) ≡ map f front ++ (map f back ++ 0 ∷ replicate (capacity - length (front ++ e ∷ back)) 0)
      laid_without =
          let long = length-append front back in
          let longer = length-append front (e ∷ back) in
          let free : capacity - length (front ++ back) ≡ suc (capacity - length (front ++ e ∷ back)) = omega arith in
          rw (laid_parts front back, free)

      -- So shifting up from that place puts the entry in, and shifting down takes it out.
      pub shift_up_laid : shift_up (length front) (length (front ++ back)) (f e) (laid f capacity (front ++ back)) ≡ laid f capacity (front ++ e ∷ back)
      shift_up_laid =
          rw (laid_without, laid_parts front (e ∷ back))
          (shift_up_parts (map f front) (map f back) _ _ _ (length-map front f) 0 (f e) (omega (arith, length-append front back, length-map back f)))

      pub shift_down_laid : shift_down (length front) (length (front ++ e ∷ back)) (laid f capacity (front ++ e ∷ back)) ≡ laid f capacity (front ++ back)
      shift_down_laid =
          rw (laid_without, laid_parts front (e ∷ back))
          (shift_down_parts (map f front) (map f back) _ _ _ (length-map front f) (f e) (omega (arith, length-append front (e ∷ back), length-map back f)))

-- Where a key stands or belongs: after the smaller keys, and before the larger ones.
abbrev pub entry : ℕ → ℕ → Entry
entry key chute = record { key = key; chute = chute }

abbrev pub AllSmaller : ℕ → List Entry → Type 0
AllSmaller key es = All (λ (e : Entry). e.key < key) es

abbrev pub AllLarger : ℕ → List Entry → Type 0
AllLarger key es = All (λ (e : Entry). key < e.key) es

-- a property of all entries among which the key has its own, and of all among which it has none
abbrev pub WhereHeld : ℕ → (List Entry → Type 0) → Type 0
WhereHeld key P = (front back : List Entry) (chute : ℕ) → AllSmaller key front → AllLarger key back → P (front ++ entry key chute ∷ back)

abbrev pub WhereMissing : ℕ → (List Entry → Type 0) → Type 0
WhereMissing key P = (front back : List Entry) → AllSmaller key front → AllLarger key back → P (front ++ back)

-- Ascending entries are of one of these two forms, since an entry's key is smaller, the same or larger.
pub by_place : (key : ℕ) (es : List Entry) → Ascending es → (P : List Entry → Type 0) → WhereHeld key P → WhereMissing key P → P es
by_place key [] h P held missing = missing [] [] tt tt
by_place key (e ∷ es) h P held missing = by (trichotomy e.key key) (by_place key es h.1 after)
  where
    after : List Entry → Type 0
    after r = P (e ∷ r)

    by : (e.key < key) ⊎ ((e.key ≡ key) ⊎ (key < e.key)) → (WhereHeld key after → WhereMissing key after → after es) → P (e ∷ es)
    by (inl l) later = later (λ front back chute s g. held (e ∷ front) back chute (l, s) g) (λ front back s g. missing (e ∷ front) back (l, s) g)
    by (inr (inl q)) later = subst (λ (k : ℕ). P (entry k e.chute ∷ es)) (sym q) (held [] es e.chute tt (rw q at h.0))
    by (inr (inr g)) later = missing [] (e ∷ es) tt (g, all_map (λ x m. omega arith) es h.0)

-- The serial run's operations pass over entries of other keys.
module _ (key : ℕ) where
  abbrev pub AllOther : List Entry → Type 0
  AllOther es = All (λ (e : Entry). eqb e.key key ≡ false) es

  pub other_smaller : (es : List Entry) → AllSmaller key es → AllOther es
  other_smaller es h = all_map (λ e l. ne_eqb e.key key (λ q. omega arith)) es h

  pub other_larger : (es : List Entry) → AllLarger key es → AllOther es
  other_larger es h = all_map (λ e l. ne_eqb e.key key (λ q. omega arith)) es h

  pub present_past : (front rest : List Entry) → AllOther front → present key (front ++ rest) ≡ present key rest
  unfolding present
  present_past [] rest h = refl
  present_past (e ∷ es) rest h = rw h.0 (present_past es rest h.1)

  pub chute_at_past : (front rest : List Entry) → AllOther front → chute_at key (front ++ rest) ≡ chute_at key rest
  unfolding chute_at
  chute_at_past [] rest h = refl
  chute_at_past (e ∷ es) rest h = rw h.0 (chute_at_past es rest h.1)

  pub take_out_past : (front rest : List Entry) → AllOther front → take_out key (front ++ rest) ≡ front ++ take_out key rest
  unfolding take_out
  take_out_past [] rest h = refl
  take_out_past (e ∷ es) rest h = rw (h.0, take_out_past es rest h.1)

  pub set_chute_past : (chute : ℕ) (front rest : List Entry) → AllOther front → set_chute key chute (front ++ rest) ≡ front ++ set_chute key chute rest
  unfolding set_chute
  set_chute_past chute [] rest h = refl
  set_chute_past chute (e ∷ es) rest h = rw (h.0, set_chute_past chute es rest h.1)

  -- So where every key is another, the key is absent.
  pub present_other : (es : List Entry) → AllOther es → present key es ≡ false
  unfolding present
  present_other [] h = refl
  present_other (e ∷ es) h = rw h.0 (present_other es h.1)

  pub present_missing : (front back : List Entry) → AllSmaller key front → AllLarger key back → present key (front ++ back) ≡ false
  present_missing front back s g = present_past front back (other_smaller front s) ∙ present_other back (other_larger back g)

  -- Putting an entry in passes over the smaller keys, and stops before a larger one.
  pub put_in_missing : (chute : ℕ) (front back : List Entry) → AllSmaller key front → AllLarger key back
      → put_in (entry key chute) (front ++ back) ≡ front ++ entry key chute ∷ back
  unfolding put_in
  put_in_missing chute [] [] s g = refl
  put_in_missing chute [] (e ∷ es) s g = rw (lt-ltb key e.key g.0)
  put_in_missing chute (e ∷ es) back s g = rw (le-ltb key e.key (omega arith), put_in_missing chute es back s.1 g)

  -- Having passed over the smaller keys, the operations meet the key's own entry.
  module _ (front back : List Entry) (chute : ℕ) (s : AllSmaller key front) where
    pub present_held : present key (front ++ entry key chute ∷ back) ≡ true
    unfolding present
    present_held = rw (present_past front _ (other_smaller front s), eq-eqb key key refl)

    pub chute_at_held : chute_at key (front ++ entry key chute ∷ back) ≡ chute
    unfolding chute_at
    chute_at_held = rw (chute_at_past front _ (other_smaller front s), eq-eqb key key refl)

    pub take_out_held : take_out key (front ++ entry key chute ∷ back) ≡ front ++ back
    unfolding take_out
    take_out_held = rw (take_out_past front _ (other_smaller front s), eq-eqb key key refl)

    pub set_chute_held : (new : ℕ) → set_chute key new (front ++ entry key chute ∷ back) ≡ front ++ entry key new ∷ back
    unfolding set_chute
    set_chute_held new = rw (set_chute_past new front _ (other_smaller front s), eq-eqb key key refl)

-- the two fields that the store's lists hold
abbrev pub key_of : Entry → ℕ
key_of e = e.key

abbrev pub chute_of : Entry → ℕ
chute_of e = e.chute

-- A store is its two lists and its number of places in use.
pub store_path : {a b : Store} → a.keys ≡ b.keys → a.chutes ≡ b.chutes → a.used ≡ b.used → a ≡ b
store_path k c u = λ i. record { keys = k i; chutes = c i; used = u i }

-- A laid-out store has as many places as the capacity, and as many in use as there are entries.
module _ (capacity : ℕ) (es : List Entry) (fits : length es ≤ capacity) where
  pub room_lay_out : room (lay_out capacity es) ≡ capacity
  unfolding room lay_out
  room_lay_out = omega (arith, length_laid key_of capacity es fits, length_laid chute_of capacity es fits)

  pub in_use_lay_out : in_use (lay_out capacity es) ≡ length es
  unfolding in_use lay_out
  in_use_lay_out = omega (arith, room_lay_out)

-- The search finds the place after the smaller keys.
pub place_of_lay_out : (capacity key : ℕ) (front back : List Entry) → length (front ++ back) ≤ capacity
    → AllSmaller key front → All (λ (e : Entry). key ≤ e.key) back → key_place key (lay_out capacity (front ++ back)) ≡ length front
unfolding key_place lay_out
place_of_lay_out capacity key front back fits s g =
    let n = length (front ++ back) in
    let long = length-append front back in
    rw (in_use_lay_out capacity (front ++ back) fits)
    (place_finds (laid key_of capacity (front ++ back)) key (length front) n smaller others (omega arith))
  where
    smaller : (i : ℕ) → i < length front → get_or (laid key_of capacity (front ++ back)) i 0 < key
    smaller i l = rw (laid_parts key_of capacity front back) (all_at key_of (λ (k : ℕ). k < key) front _ s i l)

    others : (j : ℕ) → length front + j < length (front ++ back) → key ≤ get_or (laid key_of capacity (front ++ back)) (length front + j) 0
    others j l =
        rw (laid_parts key_of capacity front back, ← (length-map front key_of), get_or-append-add)
        (all_at key_of (λ (k : ℕ). key ≤ k) back _ g j (omega (arith, length-append front back)))

-- What the store's operations do where the key is held.
module _ (capacity key : ℕ) (front back : List Entry) (chute : ℕ) (s : AllSmaller key front) (g : AllLarger key back)
    (fits : length (front ++ entry key chute ∷ back) ≤ capacity) where
  pub place_of_held : key_place key (lay_out capacity (front ++ entry key chute ∷ back)) ≡ length front
  place_of_held = place_of_lay_out capacity key front (entry key chute ∷ back) fits s (omega arith, all_map (λ e l. omega arith) back g)

  pub holds_held : holds key (lay_out capacity (front ++ entry key chute ∷ back)) ≡ true
  unfolding holds lay_out
  holds_held =
      rw (place_of_held, in_use_lay_out capacity _ fits, get_d_laid key_of capacity front back (entry key chute), lt-ltb _ _ (place_in_use front back (entry key chute)))
      (eq-eqb key key refl)

  pub look_up_held : look_up key (lay_out capacity (front ++ entry key chute ∷ back)) ≡ chute
  unfolding look_up lay_out
  look_up_held = rw (holds_held, place_of_held) (get_d_laid chute_of capacity front back (entry key chute))

  pub remove_held : remove key (lay_out capacity (front ++ entry key chute ∷ back)) ≡ lay_out capacity (front ++ back)
  unfolding remove lay_out
  remove_held =
      let long = length-append front back in
      let longer = length-append front (entry key chute ∷ back) in
      let keys_down = shift_down_laid key_of capacity front back (entry key chute) fits in
      let chutes_down = shift_down_laid chute_of capacity front back (entry key chute) fits in
      rw (holds_held, place_of_held, in_use_lay_out capacity _ fits) (store_path keys_down chutes_down (omega arith))

  pub replace_held : (new : ℕ) → replace key new (lay_out capacity (front ++ entry key chute ∷ back)) ≡ lay_out capacity (front ++ entry key new ∷ back)
  unfolding replace lay_out
  replace_held new =
      rw (holds_held, place_of_held)
      (store_path (simp (map-append, length-append)) (set_laid chute_of capacity front back (entry key chute) (entry key new)) (simp length-append))

-- What they do where the key is missing: the place where it belongs has a larger key, or is past the last in use.
module _ (capacity key : ℕ) where
  pub place_of_missing : (front back : List Entry) → AllSmaller key front → AllLarger key back → length (front ++ back) ≤ capacity
      → key_place key (lay_out capacity (front ++ back)) ≡ length front
  place_of_missing front back s g fits = place_of_lay_out capacity key front back fits s (all_map (λ e l. omega arith) back g)

  pub holds_missing : (front back : List Entry) → AllSmaller key front → AllLarger key back → length (front ++ back) ≤ capacity
      → holds key (lay_out capacity (front ++ back)) ≡ false
  unfolding holds lay_out
  holds_missing front [] s g fits =
      rw (place_of_missing front [] s g fits, in_use_lay_out capacity _ fits, le-ltb (length front) (length (front ++ [])) (omega (arith, length-append front [])))
  holds_missing front (e ∷ es) s g fits =
      rw (place_of_missing front (e ∷ es) s g fits, in_use_lay_out capacity _ fits, get_d_laid key_of capacity front es e, lt-ltb _ _ (place_in_use front es e))
      (ne_eqb e.key key (λ q. omega arith))

  pub insert_missing : (chute : ℕ) (front back : List Entry) → AllSmaller key front → AllLarger key back → length (front ++ back) < capacity
      → insert key chute (lay_out capacity (front ++ back)) ≡ lay_out capacity (front ++ entry key chute ∷ back)
  unfolding insert lay_out
  insert_missing chute front back s g more =
      let long = length-append front back in
      let longer = length-append front (entry key chute ∷ back) in
      let fits : length (front ++ back) ≤ capacity = omega arith in
      let keys_up = shift_up_laid key_of capacity front back (entry key chute) (omega arith) in
      let chutes_up = shift_up_laid chute_of capacity front back (entry key chute) (omega arith) in
      rw (holds_missing front back s g fits, place_of_missing front back s g fits, in_use_lay_out capacity _ fits)
      (rw (room_lay_out capacity _ fits, lt-leb capacity _ more) (store_path keys_up chutes_up (omega arith)))

-- The refinement, for ascending entries that fit into the capacity.
module _ (capacity key : ℕ) (es : List Entry) (ascending : Ascending es) (fits : length es ≤ capacity) where
  -- The store holds a key exactly if it is present.
  pub holds_is_present : holds key (lay_out capacity es) ≡ present key es
  holds_is_present =
      by_place key es ascending (λ (l : List Entry). length l ≤ capacity → holds key (lay_out capacity l) ≡ present key l)
      (λ front back chute s g f. holds_held capacity key front back chute s g f ∙ sym (present_held key front back chute s))
      (λ front back s g f. holds_missing capacity key front back s g f ∙ sym (present_missing key front back s g)) fits

  -- A lookup finds the serial run's chute, 0 where the key is absent.
  pub look_up_is_chute_at : look_up key (lay_out capacity es) ≡ chute_at key es
  unfolding look_up
  look_up_is_chute_at =
      by_place key es ascending (λ (l : List Entry). length l ≤ capacity → look_up key (lay_out capacity l) ≡ chute_at key l)
      (λ front back chute s g f. look_up_held capacity key front back chute s g f ∙ sym (chute_at_held key front back chute s))
      (λ front back s g f. rw (holds_missing capacity key front back s g f) (sym (chute_at_absent key _ (present_missing key front back s g)))) fits

  -- A present key has its own entry, an absent one has none.
  pub by_held : (P : List Entry → Type 0) → present key es ≡ true → WhereHeld key P → P es
  by_held P there held =
      by_place key es ascending (λ (l : List Entry). present key l ≡ true → P l) (λ front back chute s g _. held front back chute s g)
      (λ front back s g p. absurd (false≢true (sym (present_missing key front back s g) ∙ p))) there

  pub by_missing : (P : List Entry → Type 0) → present key es ≡ false → WhereMissing key P → P es
  by_missing P absent missing =
      by_place key es ascending (λ (l : List Entry). present key l ≡ false → P l)
      (λ front back chute s g p. absurd (true≢false (sym (present_held key front back chute s) ∙ p)))
      (λ front back s g _. missing front back s g) absent

  -- Inserting an absent key is putting its entry in.
  pub insert_is_put_in : (chute : ℕ) → present key es ≡ false → length es < capacity
      → insert key chute (lay_out capacity es) ≡ lay_out capacity (put_in (record { key = key; chute = chute }) es)
  insert_is_put_in chute absent more =
      by_missing (λ (l : List Entry). length l < capacity → insert key chute (lay_out capacity l) ≡ lay_out capacity (put_in (entry key chute) l)) absent
      (λ front back s g m. rw (put_in_missing key chute front back s g) (insert_missing capacity key chute front back s g m)) more

  -- Removing a present key is taking its entry out.
  pub remove_is_take_out : present key es ≡ true → remove key (lay_out capacity es) ≡ lay_out capacity (take_out key es)
  remove_is_take_out there =
      by_held (λ (l : List Entry). length l ≤ capacity → remove key (lay_out capacity l) ≡ lay_out capacity (take_out key l)) there
      (λ front back chute s g f. rw (take_out_held key front back chute s) (remove_held capacity key front back chute s g f)) fits

  -- Replacing the chute of a present key is setting it.
  pub replace_is_set_chute : (chute : ℕ) → present key es ≡ true → replace key chute (lay_out capacity es) ≡ lay_out capacity (set_chute key chute es)
  replace_is_set_chute new there =
      by_held (λ (l : List Entry). length l ≤ capacity → replace key new (lay_out capacity l) ≡ lay_out capacity (set_chute key new l)) there
      (λ front back chute s g f. rw (set_chute_held key front back chute s new) (replace_held capacity key front back chute s g f new)) fits

  -- Inserting a present key is replacing its chute.
  pub insert_is_replace : (chute : ℕ) → present key es ≡ true → insert key chute (lay_out capacity es) ≡ replace key chute (lay_out capacity es)
  unfolding insert
  insert_is_replace chute there = rw (holds_is_present, there)

  -- Where the key is absent, removing and replacing change nothing.
  pub remove_absent : present key es ≡ false → remove key (lay_out capacity es) ≡ lay_out capacity es
  unfolding remove
  remove_absent absent = rw (holds_is_present, absent)

  pub replace_absent : (chute : ℕ) → present key es ≡ false → replace key chute (lay_out capacity es) ≡ lay_out capacity es
  unfolding replace
  replace_absent chute absent = rw (holds_is_present, absent)

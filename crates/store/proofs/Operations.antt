-- What each operation of the store does, from what the search for the key found. Assumes nothing.
use Prim.Native.Nat.{ℕ, ◌+◌, ◌-◌, ◌≤◌, ◌<◌}
use native.Mathlib.Omega.{arith}
use mathlib.Core.Bool.{Bool, true, false, cond}
use mathlib.Core.Path.{◌≡◌, refl, sym, ap, ◌∙◌}
use mathlib.Core.List.{List}
use borrow.Author.Tests.{le-leb, lt-leb}
use lib.ListN.{length, get_or, set}
use Rattle.std.specs.Prelude.{Result, Ok, Err, is_ok}
use Rattle.std.specs.Result.{result_unwrap_or}
use Rattle.model.specs.Store.{Store, room, in_use, key_place, holds, look_up, insert, remove, replace, shift_up, shift_down}
use Rattle.model.proofs.Formed.Store.{held_in_use, place_within}
use Rattle.store.specs.Lists.{store_of}
use Rattle.store.specs.Find.{found_among}

-- A test picks what its value picks.
picked : {A : Type 0} (x y : A) {b c : Bool} → b ≡ c → cond c x y ≡ cond b x y
picked x y e = ap (λ b. cond b x y) (sym e)

-- A choice between a place where the key stands and one where it belongs tells which of both was chosen.
ok_of : (b : Bool) {at p : ℕ} → ◌≡◌ {A = Result ℕ ℕ} (Ok at) (cond b (Ok p) (Err p)) → (b ≡ true) × (at ≡ p)
ok_of true e = (refl, cc)
ok_of false e = absurd cc

err_of : (b : Bool) {at p : ℕ} → ◌≡◌ {A = Result ℕ ℕ} (Err at) (cond b (Ok p) (Err p)) → (b ≡ false) × (at ≡ p)
err_of true e = absurd cc
err_of false e = (refl, cc)

module _ (key : ℕ) (st : Store) {n : ℕ} (used : n ≡ in_use st) where
  -- The search among the places in use finds the key's place, and whether the key stands there.
  found_is : found_among n st.keys key ≡ cond (holds key st) (Ok (key_place key st)) (Err (key_place key st))
  unfolding found_among holds key_place
  found_is = rw used

  module _ {at : ℕ} (found : Ok at ≡ found_among n st.keys key) where
    held : (holds key st ≡ true) × (at ≡ key_place key st)
    held = ok_of (holds key st) (found ∙ found_is)

    -- A key that is held stands at a place in use, and both lists have the places in use.
    pub held_within : (at < n) × (n ≤ length st.keys) × (n ≤ length st.chutes)
    unfolding in_use
    held_within = rw (used, held.1) (held_in_use key st held.0, omega arith, omega arith)

    pub removed : {keys chutes : List ℕ} → keys ≡ shift_down at n st.keys → chutes ≡ shift_down at n st.chutes
        → store_of keys chutes (n - 1) ≡ remove key st
    unfolding remove
    removed k c = rw (k, c, held.1, used) (picked _ _ held.0)

    pub replaced : (chute : ℕ) → store_of st.keys (set st.chutes at chute) st.used ≡ replace key chute st
    unfolding replace
    replaced chute = rw held.1 (picked _ _ held.0)

    -- A held key gets the chute by inserting, too.
    pub inserted_again : (chute : ℕ) → store_of st.keys (set st.chutes at chute) st.used ≡ insert key chute st
    unfolding insert
    inserted_again chute = rw (held.1, held.0)

  module _ {at : ℕ} (found : Err at ≡ found_among n st.keys key) where
    absent : (holds key st ≡ false) × (at ≡ key_place key st)
    absent = err_of (holds key st) (found ∙ found_is)

    pub not_removed : st ≡ remove key st
    unfolding remove
    not_removed = picked _ _ absent.0

    pub not_replaced : (chute : ℕ) → st ≡ replace key chute st
    unfolding replace
    not_replaced chute = picked _ _ absent.0

    -- Where no place is left nothing is put in.
    pub not_inserted : (chute : ℕ) → room st ≤ n → st ≡ insert key chute st
    unfolding insert
    not_inserted chute none = rw absent.0 (picked _ _ (rw used at (le-leb _ _ none)))

    -- Where a place is left, both lists have one more place than are in use.
    pub room_within : n < room st → (at ≤ n) × (n < length st.keys) × (n < length st.chutes)
    unfolding room key_place
    room_within left =
        let within : at ≤ n = rw (absent.1, ← used) (place_within n st.keys key) in
        (within, omega arith, omega arith)

    -- An absent key is put in where a place is left.
    pub inserted : (chute : ℕ) {keys chutes : List ℕ} → n < room st
        → keys ≡ shift_up at n key st.keys → chutes ≡ shift_up at n chute st.chutes
        → store_of keys chutes (n + 1) ≡ insert key chute st
    unfolding insert
    inserted chute left k c = rw (k, c, absent.1, used, absent.0) (picked _ _ (rw used at (lt-leb _ _ left)))

  -- By a choice: of a store with entries in use, the chute at the place found, if the key stands there, and else that of the first, for which 0 is
  -- chosen then.
  pub chosen_within : (n ≡ 0 → ⊥) → (found : Result ℕ ℕ) → found ≡ found_among n st.keys key → result_unwrap_or found 0 < length st.chutes
  unfolding in_use
  chosen_within some (Ok at) e = omega (arith, held_within e)
  chosen_within some (Err at) e = omega (arith, used)

  pub looked_up : (found : Result ℕ ℕ) → found ≡ found_among n st.keys key
      → cond (is_ok found) (get_or st.chutes (result_unwrap_or found 0) 0) 0 ≡ look_up key st
  unfolding look_up
  looked_up (Ok at) e = rw (held e).1 (picked _ _ (held e).0)
  looked_up (Err at) e = picked _ _ (absent e).0

  -- An empty store holds nothing.
  pub none_held : n ≡ 0 → 0 ≡ look_up key st
  none_held none = by (found_among n st.keys key) refl
    where
      by : (found : Result ℕ ℕ) → found ≡ found_among n st.keys key → ◌≡◌ {A = ℕ} 0 (look_up key st)
      by (Ok at) e = absurd (omega (arith, held_within e))
      by (Err at) e = looked_up (Err at) e

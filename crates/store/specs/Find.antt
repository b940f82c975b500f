-- What the search for a key in the store finds. Assumes nothing.
use Rattle.std.specs.Prelude.{ℕ, ◌+◌, ◌≤◌, ◌≡◌, cond, ◌&&◌, List, get_or, ltb, eqb, Result, Ok, Err}
use Rattle.model.specs.Store.{halve, place_among}
use Rattle.store.specs.declared.Left.{Left}

-- the place of a key among the first n of a list: where it stands, or else where it belongs
unfoldable pub found_among : ℕ → List ℕ → ℕ → Result ℕ ℕ
unfolding place_among
found_among n keys key =
    let at : ℕ = place_among n keys key in
    cond (ltb at n && eqb (get_or keys at 0) key) (Ok at) (Err at)

-- halvings lead from the places left to fewer of them, at least one, from which the search goes on to the same place, by any number of halvings that
-- is enough
pub record Leads (keys : List ℕ) (key : ℕ) (before after : Left) : Type 0 where
  pub same : (n : ℕ) → before.size ≤ n + 1 → halve n keys key before.from before.size ≡ halve n keys key after.from after.size
  pub some : 1 ≤ after.size
  pub fewer : after.size ≤ before.size
  pub inside : after.from + after.size ≤ before.from + before.size

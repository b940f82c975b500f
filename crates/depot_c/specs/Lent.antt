-- The byte lists that a call lends: how many numbers they write, and rooms for these. Assumes nothing.
use Rattle.std.specs.Prelude.{ℕ, ◌*◌, ◌/◌, ◌≡◌, Bool, true, false, cond, ◌&&◌, List, length, take, Option, Some, None, Result, Ok, Err}
use Rattle.s10.specs.Refusal.{plain}
use Rattle.state_bytes.specs.declared.Reason.{Reason}
use Rattle.state_bytes.specs.Layout.{Lists, handed_back_fit}
use Rattle.state_bytes.specs.Outcome.{refusal_for}
use Rattle.depot_c.specs.declared.lists.Counts.{Counts}
use Rattle.depot_c.specs.declared.lists.Rooms.{Rooms}
use Rattle.depot_c.specs.Numbers.{numbers_in}
use Rattle.depot_c.specs.Boundary.{are_whole, have_room}

-- whole numbers, at most 4,096 in each list
unfoldable pub are_lent : ℕ → ℕ → ℕ → Bool
are_lent keys chutes answers = are_whole keys chutes answers && have_room (keys / 8) (chutes / 2) (answers / 2)

-- as many as there are
abbrev pub counts_in : ℕ → ℕ → ℕ → Counts
counts_in keys chutes answers = record { keys = keys / 8; chutes = chutes / 2; answers = answers / 2 }

-- what `Counts::of` gives
abbrev pub AreCounted : ℕ → ℕ → ℕ → Option Counts → Type 0
AreCounted keys chutes answers r = r ≡ cond (are_lent keys chutes answers) (Some (counts_in keys chutes answers)) None

-- the refusal of lists that are none of an accepted call: 12 where they are whole numbers and the state asks for so many, else 6
abbrev pub UnlentFor : List ℕ → ℕ → ℕ → ℕ → ℕ → Bool → Reason → Type 0
UnlentFor state keys chutes answers commands others_fit reason =
    (l : Lists) (list : List ℕ) → l.state ≡ state → length l.answers ≡ answers / 2 → length l.keys ≡ keys / 8 → length l.chutes ≡ chutes / 2 → length list ≡ commands
    → refusal_for reason ≡ plain (cond (are_whole keys chutes answers && (handed_back_fit l list && others_fit)) 12 6)

-- what `Counts::tested` gives
abbrev pub AreTested : List ℕ → ℕ → ℕ → ℕ → ℕ → Bool → Result Counts Reason → Type 0
AreTested state keys chutes answers commands others_fit r =
    ((n : Counts) → r ≡ Ok n → (are_lent keys chutes answers ≡ true) × (n ≡ counts_in keys chutes answers))
    × ((reason : Reason) → r ≡ Err reason → (are_lent keys chutes answers ≡ false) × UnlentFor state keys chutes answers commands others_fit reason)

-- ---- rooms

-- The first entries of the rooms are the numbers that lists of bytes write.
pub record AreRead (r : Rooms) (keys chutes answers : List ℕ) : Type 0 where
  pub keys_are : take (length keys / 8) r.keys ≡ numbers_in 8 keys
  pub chutes_are : take (length chutes / 2) r.chutes ≡ numbers_in 2 chutes
  pub answers_are : take (length answers / 2) r.answers ≡ numbers_in 2 answers

-- Rooms have an entry for each number of lists of bytes.
pub record AreRooms (keys chutes answers key_room chute_room answer_room : List ℕ) : Type 0 where
  pub keys_fit : length keys ≡ 8 * length key_room
  pub chutes_fit : length chutes ≡ 2 * length chute_room
  pub answers_fit : length answers ≡ 2 * length answer_room

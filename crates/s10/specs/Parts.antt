-- The parts of a text that the contracts of the helper functions speak of. Assumes nothing.
use Rattle.std.specs.Prelude.{ℕ, ◌+◌, ◌-◌, ◌≤◌, ◌<◌, ◌≡◌, Bool, true, ◌&&◌, List, [], ◌∷◌, ◌++◌, map, length, get_or, take, drop, eqb}
use Rattle.s10.specs.Text.{is_allowed, digits, check_digit}

-- every character, from position i on
unfoldable pub all_allowed : ℕ → List ℕ → Bool
unfolding is_allowed
all_allowed i [] = true
all_allowed i (c ∷ text) = is_allowed i c && all_allowed (i + 1) text

-- thirteen characters, each in order
unfoldable pub is_well_formed : List ℕ → Bool
unfolding all_allowed
is_well_formed text = eqb (length text) 13 && all_allowed 0 text

-- c lies from low to high
abbrev pub Between : ℕ → ℕ → ℕ → Type 0
Between low high c = (low ≤ c) × (c ≤ high)

-- the eight serial digits, as characters
pub record Serial (text : List ℕ) : Type 0 where
  pub long : length text ≡ 8
  pub digit : (k : ℕ) → k < length text → Between 48 57 (get_or text k 0)

-- what `is_well_formed` says, part by part
pub record WellFormed (text : List ℕ) : Type 0 where
  pub long : length text ≡ 13
  pub first : Between 65 90 (get_or text 0 0) × Between 65 90 (get_or text 1 0)
  pub serial : Serial (take 8 (drop 2 text))
  pub check : Between 48 57 (get_or text 10 0)
  pub last : Between 65 90 (get_or text 11 0) × Between 65 90 (get_or text 12 0)

-- the numbers that digits stand for, and the digits that stand for numbers
abbrev pub values : List ℕ → List ℕ
values text = map (λ (c : ℕ). c - 48) text

abbrev pub characters : List ℕ → List ℕ
characters ds = map (λ (d : ℕ). 48 + d) ds

-- the last eight digits of a number and their check digit, as characters
unfoldable pub serial_text : ℕ → List ℕ
serial_text n = characters (digits 8 n) ++ ((48 + check_digit (digits 8 n)) ∷ [])

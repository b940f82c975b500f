-- Parts of a list that end where the list ends, at the latest. Assumes nothing.
use Prim.Native.Nat.{ℕ, suc, ◌+◌, ◌-◌, ◌/◌, ◌≤◌, ◌<◌, min}
use mathlib.Core.Path.{◌≡◌, refl, ap}
use mathlib.Core.List.{List, [], ◌∷◌, ◌++◌, map}
use native.Mathlib.Decide.{dec_le}
use native.Mathlib.Nat.{min-eq_left, min-eq_right}
use native.Mathlib.Omega.{arith}
use lib.ListN.{length, take, drop, length-drop, drop_of_length-le}
use lib.Seq.{take_all, take_at, drop_at, take-length, drop-length}
use Rattle.command.specs.Read.{read_command, parts, parts_of, readings, command_in, commands_in}

-- a function that is the same from m on is the same at n and at the smaller of n and m
same_at_min : {B : Type 0} (f : ℕ → B) (n m : ℕ) → (m ≤ n → f m ≡ f n) → f (min n m) ≡ f n
same_at_min f n m same = cases (dec_le n m)
  where
    cases : Dec (n ≤ m) → f (min n m) ≡ f n
    cases (yes h) = rw (min-eq_left h)
    cases (no h) = let past : m ≤ n = omega arith in rw (min-eq_right past) (same past)

-- past its end a list has nothing to take
take_min : (n : ℕ) (l : List ℕ) → take (min n (length l)) l ≡ take n l
take_min n l = same_at_min (λ (k : ℕ). take k l) n (length l) (λ past. rw (take-length, take_all n l past))

-- and nothing is left
pub drop_min : (n : ℕ) (l : List ℕ) → drop (min n (length l)) l ≡ drop n l
drop_min n l = same_at_min (λ (k : ℕ). drop k l) n (length l) (λ past. rw (drop-length, drop_of_length-le l past))

-- the n elements from a place on, or those that there are
pub part_min : (at n : ℕ) (l : List ℕ) → take (min (at + n) (length l) - at) (drop at l) ≡ take n (drop at l)
part_min at n l =
    let count : min (at + n) (length l) - at ≡ min n (length (drop at l)) = rw length-drop (omega arith) in
    rw (count, take_min)

-- a list that is not empty begins with a part
pub parts_cons : (bytes : List ℕ) → 0 < length bytes → parts_of bytes ≡ take 16 bytes ∷ parts_of (drop 16 bytes)
unfolding parts_of parts
parts_cons bytes h =
    let more : (length bytes + 15) / 16 ≡ suc ((length (drop 16 bytes) + 15) / 16) = rw length-drop (omega arith) in
    rw more

-- a list that begins with a part, and holds nothing more where that is short, has this part and those of what is left
parts_chunk : (part left : List ℕ) → length part ≡ min 16 (length (part ++ left)) → 0 < length (part ++ left) → parts_of (part ++ left) ≡ part ∷ parts_of left
parts_chunk part left long some =
    rw (parts_cons (part ++ left) some, ← take_min 16 (part ++ left), ← drop_min 16 (part ++ left), ← long, take_at part left (length part) refl, drop_at part left (length part) refl)

-- and so are the readings
pub readings_chunk : (part left : List ℕ) → length part ≡ min 16 (length (part ++ left)) → 0 < length (part ++ left)
    → readings (part ++ left) ≡ read_command part ∷ readings left
unfolding readings
readings_chunk part left long some = ap (map read_command) (parts_chunk part left long some)

-- and the commands
pub commands_chunk : (part left : List ℕ) → length part ≡ min 16 (length (part ++ left)) → 0 < length (part ++ left)
    → commands_in (part ++ left) ≡ command_in part ∷ commands_in left
unfolding commands_in
commands_chunk part left long some = ap (map command_in) (parts_chunk part left long some)

-- no bytes hold no command
pub readings_none : (list : List ℕ) → length list ≡ 0 → readings list ≡ []
unfolding readings parts_of parts
readings_none [] none = refl
readings_none (b ∷ list) none = absurd (omega arith)

pub commands_none : (list : List ℕ) → length list ≡ 0 → commands_in list ≡ []
unfolding commands_in parts_of parts
commands_none [] none = refl
commands_none (b ∷ list) none = absurd (omega arith)

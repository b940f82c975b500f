-- Laws of the calls' outcomes at the boundary: what lists of another length answer, where a refusal stands, and what is left.
-- Assumes nothing.
use Prim.Native.Nat.{ℕ, ◌+◌, ◌*◌, ◌/◌, ◌%◌, ◌≤◌, ◌<◌}
use native.Mathlib.Omega.{arith}
use mathlib.Core.Path.{◌≡◌, refl, sym, ap, ◌∙◌}
use mathlib.Core.Bool.{Bool, true, false, cond, ◌&&◌, and-eq-true_iff, false≢true}
use mathlib.Core.List.{List, [], ◌∷◌}
use lib.ListN.{length, take}
use lib.Dec.{eqb, leb}
use borrow.Author.Tests.{leb-true, eqb-true, le-leb}
use Rattle.std.specs.Prelude.{Option, Some, None}
use Rattle.s10.specs.declared.Refusal.{Refusal}
use Rattle.s10.specs.Refusal.{plain}
use Rattle.command.specs.Read.{first_refusal, readings}
use Rattle.command.specs.Read as Command
use Rattle.command.proofs.Laws.{length_readings}
use Rattle.model.specs.Setup.{Setup}
use Rattle.command.proofs.Tests.{fails, cond_cases, cond_same}
use Rattle.byte_fields.specs.Bytes.{number_at}
use Rattle.state_bytes.specs.Layout.{Lists, all_lists, lists, state_length, setup_in, count_in, state_fits, lengths_fit, handed_back_fit, image_fits}
use Rattle.state_bytes.specs.Outcome.{CallOutcome, accepted, refused, refusal_in, kept}
use Rattle.opening.specs.Calls.{Source, source_long, source_chained, source_fits, opened_with, open_on, setup_of}
use Rattle.state_bytes.specs.declared.Reason.{Reason}
use Rattle.state_bytes.specs.Outcome.{refusal_for}
use Rattle.controller.specs.Calls.{advance_on}
use Rattle.depot_c.specs.declared.lists.Counts.{Counts}
use Rattle.depot_c.specs.declared.lists.Rooms.{Rooms}
use Rattle.depot_c.specs.Numbers.{numbers_in, bytes_in}
use Rattle.depot_c.specs.Boundary.{are_whole, have_room, number_lists, decoded, encoded, left}
use Rattle.depot_c.specs.Lent.{are_lent, counts_in, UnlentFor, AreRead, AreRooms}
use Rattle.state_bytes.proofs.Passed.{InRange, state_passed}
use Rattle.depot_c.proofs.Entries.{numbers_length}

-- ---- places

-- a refusal stands at one of the places from the first on
place_below : (place : ℕ) (rs : List Command.CommandOutcome) (o : Setup) → 0 < place → (refusal_in (opened_with (first_refusal place rs) o)).place < place + length rs
unfolding first_refusal opened_with refusal_in
place_below place [] o h = omega arith
place_below place (Command.accepted command ∷ rs) o h = omega (arith, place_below (place + 1) rs o (omega arith))
place_below place (Command.refused r ∷ rs) o h = omega arith

-- so an opening's place is at most the most commands
pub opening_place_below : (size workers capacity : ℕ) (commands : List ℕ) (source : Source) (l : Lists) → (refusal_in (open_on size workers capacity commands source l)).place ≤ 4096
unfolding open_on refusal_in
opening_place_below size workers capacity commands source l =
    let P : CallOutcome → Type 0 = λ o. (refusal_in o).place ≤ 4096 in
    let none : (n : ℕ) → P (refused (plain n)) = λ n. omega arith in
    cond_cases P (leb 1 size && leb size 150) (λ _.
    cond_cases P (leb 1 workers && leb workers 64) (λ _.
    cond_cases P (leb 1 capacity && leb capacity 4096) (λ _.
    cond_cases P (eqb (length commands % 16) 0) (λ whole.
    cond_cases P (leb (length commands / 16) 4096) (λ few.
    cond_cases P (lengths_fit capacity (length commands / 16) l && image_fits capacity l && source_long capacity source) (λ _.
    cond_cases P (source_chained capacity source) (λ _.
    cond_cases P (source_fits capacity source)
    (λ _. omega (arith, place_below 1 (readings commands) (setup_of size workers capacity commands source) (omega arith), length_readings commands, eqb-true (length commands % 16) 0 whole, leb-true (length commands / 16) 4096 few))
    (λ _. none 16)) (λ _. none 15)) (λ _. none 6)) (λ _. none 5)) (λ _. none 4)) (λ _. none 3)) (λ _. none 2)) (λ _. none 1)

-- ---- lists of a wrong length

-- An opening with lists of a wrong length is one with none, from whatever image.
pub short_opened : (size workers capacity : ℕ) (commands : List ℕ) (source other : Source) (l : Lists)
    → (capacity ≤ 4096 → length commands / 16 ≤ 4096 → lengths_fit capacity (length commands / 16) l ≡ false)
    → open_on size workers capacity commands source l ≡ open_on size workers capacity commands other (lists [] [] [] [])
unfolding open_on lengths_fit state_length
short_opened size workers capacity commands source other l short =
    cond_same (leb 1 size && leb size 150) (refused (plain 1)) (λ _.
    cond_same (leb 1 workers && leb workers 64) (refused (plain 2)) (λ _.
    cond_same (leb 1 capacity && leb capacity 4096) (refused (plain 3)) (λ small.
    cond_same (eqb (length commands % 16) 0) (refused (plain 4)) (λ _.
    cond_same (leb (length commands / 16) 4096) (refused (plain 5)) (λ few.
    rw (short (leb-true capacity 4096 ((and-eq-true_iff (leb 1 capacity) (leb capacity 4096)).0 small).1) (leb-true (length commands / 16) 4096 few)))))))

-- with no lists it does not matter what image
pub no_list_opened : (size workers capacity : ℕ) (commands : List ℕ) (source other : Source)
    → open_on size workers capacity commands source (lists [] [] [] []) ≡ open_on size workers capacity commands other (lists [] [] [] [])
unfolding lengths_fit state_length
no_list_opened size workers capacity commands source other = short_opened size workers capacity commands source other (lists [] [] [] []) (λ _ _. refl)

-- no lists are refused, and nothing is left but what was there
pub nothing_opened : (size workers capacity : ℕ) (commands : List ℕ) (source : Source) (b : Lists) → left (open_on size workers capacity commands source (lists [] [] [] [])) b ≡ b
unfolding open_on lengths_fit state_length left
nothing_opened size workers capacity commands source b =
    let P : CallOutcome → Type 0 = λ o. left o b ≡ b in
    cond_cases P (leb 1 size && leb size 150) (λ _.
    cond_cases P (leb 1 workers && leb workers 64) (λ _.
    cond_cases P (leb 1 capacity && leb capacity 4096) (λ _.
    cond_cases P (eqb (length commands % 16) 0) (λ _.
    cond_cases P (leb (length commands / 16) 4096) (λ _. refl) (λ _. refl)) (λ _. refl)) (λ _. refl)) (λ _. refl)) (λ _. refl)

-- each list has at most 4,096 entries
abbrev pub room : Lists → Bool
room b = have_room (length b.keys / 8) (length b.chutes / 2) (length b.answers / 2)

both : (s t : Bool) → (s && t) ≡ true → (s ≡ true) × (t ≡ true)
both s t = (and-eq-true_iff s t).0

-- lists that are as long as asked are no longer than what is asked
fits_room : (capacity count : ℕ) (b : Lists) → capacity ≤ 4096 → count ≤ 4096 → lengths_fit capacity count (number_lists b) ≡ true → room b ≡ true
unfolding lengths_fit number_lists
fits_room capacity count b small few fit =
    let first = both (eqb (length b.state) state_length && eqb (length (numbers_in 2 b.answers)) count && eqb (length (numbers_in 8 b.keys)) capacity) _ fit in
    let second = both (eqb (length b.state) state_length && eqb (length (numbers_in 2 b.answers)) count) _ first.0 in
    let third = both (eqb (length b.state) state_length) _ second.0 in
    let keys = le-leb (length b.keys / 8) 4096 (omega (arith, numbers_length 8 b.keys, eqb-true (length (numbers_in 8 b.keys)) capacity second.1)) in
    let chutes = le-leb (length b.chutes / 2) 4096 (omega (arith, numbers_length 2 b.chutes, eqb-true (length (numbers_in 2 b.chutes)) capacity first.1)) in
    let answers = le-leb (length b.answers / 2) 4096 (omega (arith, numbers_length 2 b.answers, eqb-true (length (numbers_in 2 b.answers)) count third.1)) in
    rw (keys, chutes, answers)

-- so a longer list is none that an opening asks for, and the opening is refused as one of no lists
pub long_opened : (size workers capacity : ℕ) (commands : List ℕ) (source : Source) (b : Lists) → room b ≡ false
    → open_on size workers capacity commands source (number_lists b) ≡ open_on size workers capacity commands source (lists [] [] [] [])
long_opened size workers capacity commands source b long =
    short_opened size workers capacity commands source source (number_lists b)
    (λ small few. fails _ (λ fit. false≢true (sym long ∙ fits_room capacity (length commands / 16) b small few fit)))

-- no lists are refused 6 when handed back
pub nothing_advanced : (commands schedule : List ℕ) → advance_on (lists [] [] [] []) commands schedule ≡ refused (plain 6)
unfolding advance_on handed_back_fit lengths_fit state_length
nothing_advanced commands schedule = refl

-- a list handed back with a state that fits has room
lent_room : (b : Lists) (commands : List ℕ) → handed_back_fit (number_lists b) commands ≡ true
    → InRange (number_lists b) → room b ≡ true
unfolding handed_back_fit setup_in
lent_room b commands fit range =
    fits_room (number_at 2 4 (number_lists b).state) (count_in (number_lists b).state) b range.capacity range.count
    ((and-eq-true_iff (lengths_fit (number_at 2 4 (number_lists b).state) (count_in (number_lists b).state) (number_lists b)) _).0 fit).0

-- a list of more than 4,096 entries is handed back with no state that fits
pub long_unfit : (b : Lists) (commands : List ℕ) → room b ≡ false → handed_back_fit (number_lists b) commands ≡ true → state_fits (number_lists b) ≡ false
long_unfit b commands long fit =
    fails (state_fits (number_lists b)) (λ whole. false≢true (sym long ∙ lent_room b commands fit (state_passed (number_lists b) whole)))

-- whether all lists, the image among them, are as long as the state's settings ask
abbrev pub all_fit : Lists → List ℕ → Bool
all_fit l commands = handed_back_fit l commands && image_fits (setup_in l.state commands).capacity l

-- a handed-back list of more than 4,096 entries is refused: 12 where the state asks for so many, else 6
pub long_advanced : (b : Lists) (commands schedule : List ℕ) → room b ≡ false
    → advance_on (number_lists b) commands schedule ≡ cond (all_fit (number_lists b) commands) (refused (plain 12)) (refused (plain 6))
unfolding advance_on
long_advanced b commands schedule long =
    cond_same (all_fit (number_lists b) commands) (refused (plain 6)) (λ fit. rw (long_unfit b commands long ((and-eq-true_iff (handed_back_fit (number_lists b) commands) _).0 fit).0))

-- ---- lists that are lent

-- bytes that end within a number are no lists
pub decoded_none : (b : Lists) → are_whole (length b.keys) (length b.chutes) (length b.answers) ≡ false → decoded b ≡ lists [] [] [] []
unfolding decoded
decoded_none b e = rw e

-- others are their numbers
pub decoded_whole : (b : Lists) → are_whole (length b.keys) (length b.chutes) (length b.answers) ≡ true → decoded b ≡ number_lists b
unfolding decoded
decoded_whole b e = rw e

abbrev pub lent : Lists → Bool
lent b = are_lent (length b.keys) (length b.chutes) (length b.answers)

-- lists that are lent are whole numbers, and have room
pub lent_whole : (b : Lists) → lent b ≡ true → (are_whole (length b.keys) (length b.chutes) (length b.answers) ≡ true) × (room b ≡ true)
unfolding are_lent
lent_whole b e = both (are_whole (length b.keys) (length b.chutes) (length b.answers)) (room b) e

pub lent_decoded : (b : Lists) → lent b ≡ true → decoded b ≡ number_lists b
lent_decoded b e = decoded_whole b (lent_whole b e).0

-- as long as these numbers, of which there are few enough
pub lent_lengths : (k c a : ℕ) → are_lent k c a ≡ true → ((k ≡ 8 * (k / 8)) × (c ≡ 2 * (c / 2)) × (a ≡ 2 * (a / 2))) × ((k / 8 ≤ 4096) × (c / 2 ≤ 4096) × (a / 2 ≤ 4096))
unfolding are_lent are_whole
lent_lengths k c a e =
    let all = both (eqb (k % 8) 0 && eqb (c % 2) 0 && eqb (a % 2) 0) (have_room (k / 8) (c / 2) (a / 2)) e in
    let whole = both (eqb (k % 8) 0 && eqb (c % 2) 0) (eqb (a % 2) 0) all.0 in
    let first = both (eqb (k % 8) 0) (eqb (c % 2) 0) whole.0 in
    let few = both (leb (k / 8) 4096 && leb (c / 2) 4096) (leb (a / 2) 4096) all.1 in
    let rest = both (leb (k / 8) 4096) (leb (c / 2) 4096) few.0 in (
      (omega (arith, eqb-true (k % 8) 0 first.0), omega (arith, eqb-true (c % 2) 0 first.1), omega (arith, eqb-true (a % 2) 0 whole.1)),
      (leb-true (k / 8) 4096 rest.0, leb-true (c / 2) 4096 rest.1, leb-true (a / 2) 4096 few.1),
    )

-- so are their counts
pub counts_few : (k c a : ℕ) (n : Counts) → (are_lent k c a ≡ true) × (n ≡ counts_in k c a) → (n.keys ≤ 4096) × (n.chutes ≤ 4096) × (n.answers ≤ 4096)
counts_few k c a n u = rw u.1 (lent_lengths k c a u.0).1

-- numbers that were read are as many as there are
pub rooms_long : (k c a : List ℕ) (n : Counts) (r : Rooms) → n ≡ counts_in (length k) (length c) (length a) → AreRead r k c a
    → (n.keys ≡ length (take n.keys r.keys)) × (n.chutes ≡ length (take n.chutes r.chutes)) × (n.answers ≡ length (take n.answers r.answers))
rooms_long k c a n r is read =
    rw is (sym (ap length read.keys_are ∙ numbers_length 8 k), sym (ap length read.chutes_are ∙ numbers_length 2 c), sym (ap length read.answers_are ∙ numbers_length 2 a))

-- what `Counts::of` tells
abbrev count_in_or : Counts → Option Counts → Counts
count_in_or n None = n
count_in_or n (Some m) = m

abbrev some_count : Option Counts → ℕ
some_count None = 0
some_count (Some n) = 1

pub counted_lent : {r : Option Counts} (t : Bool) (m n : Counts) → r ≡ cond t (Some m) None → r ≡ Some n → (t ≡ true) × (n ≡ m)
counted_lent true m n e is = (refl, ap (count_in_or m) (sym is ∙ e))
counted_lent false m n e is = let z : ◌≡◌ {A = ℕ} 1 0 = ap some_count (sym is ∙ e) in absurd (omega arith)

pub uncounted_lent : {r : Option Counts} (t : Bool) (m : Counts) → r ≡ cond t (Some m) None → r ≡ None → t ≡ false
uncounted_lent true m e is = let z : ◌≡◌ {A = ℕ} 0 1 = ap some_count (sym is ∙ e) in absurd (omega arith)
uncounted_lent false m e is = refl

-- Other lists end within a number, or one is too long.
pub unlent_cases {ℓ} : {P : Type ℓ} (b : Lists) → lent b ≡ false → (are_whole (length b.keys) (length b.chutes) (length b.answers) ≡ false → P)
    → (are_whole (length b.keys) (length b.chutes) (length b.answers) ≡ true → room b ≡ false → P) → P
unfolding are_lent
unlent_cases {P} b e broken long = by (are_whole (length b.keys) (length b.chutes) (length b.answers)) refl e
  where
    by : (t : Bool) → are_whole (length b.keys) (length b.chutes) (length b.answers) ≡ t → (t && room b) ≡ false → P
    by true w e = long w e
    by false w e = broken w

-- an opening of these is one of no lists
pub unlent_opened : (size workers capacity : ℕ) (commands : List ℕ) (source : Source) (b : Lists) → lent b ≡ false
    → open_on size workers capacity commands source (decoded b) ≡ open_on size workers capacity commands source (lists [] [] [] [])
unlent_opened size workers capacity commands source b e =
    unlent_cases b e (λ broken. rw (decoded_none b broken)) (λ whole long. rw (decoded_whole b whole) (long_opened size workers capacity commands source b long))

-- what is said of the refusal of other lists is said of the lists of numbers
pub unlent_as : (s k c a i commands : List ℕ) (fit : Bool) (reason : Reason) → UnlentFor s (length k) (length c) (length a) (length commands) fit reason
    → refusal_for reason ≡ plain (cond (are_whole (length k) (length c) (length a) && (handed_back_fit (number_lists (all_lists s k c a i)) commands && fit)) 12 6)
unfolding number_lists
unlent_as s k c a i commands fit reason said = said (number_lists (all_lists s k c a i)) commands refl (numbers_length 2 a) (numbers_length 8 k) (numbers_length 2 c) refl

-- the test of the image, where the other lists fit
pub same_fit : (s fit t : Bool) → (s ≡ true → t ≡ fit) → (s && fit) ≡ (s && t)
same_fit true fit t e = sym (e refl)
same_fit false fit t e = refl

-- an advance on lists that are not lent is refused
unlent_advanced : (b : Lists) (commands schedule : List ℕ) → lent b ≡ false
    → advance_on (decoded b) commands schedule ≡ cond (are_whole (length b.keys) (length b.chutes) (length b.answers) && all_fit (number_lists b) commands) (refused (plain 12)) (refused (plain 6))
unlent_advanced b commands schedule e =
    unlent_cases b e (λ broken. rw (broken, decoded_none b broken) (nothing_advanced commands schedule)) (λ whole long. rw (whole, decoded_whole b whole) (long_advanced b commands schedule long))

-- one of two refusals without a place
either_refusal : (t : Bool) → plain (cond t 12 6) ≡ refusal_in (cond t (refused (plain 12)) (refused (plain 6)))
unfolding refusal_in
either_refusal true = refl
either_refusal false = refl

either_left : (t : Bool) (b : Lists) → b ≡ left (cond t (refused (plain 12)) (refused (plain 6))) b
unfolding left
either_left true b = refl
either_left false b = refl

-- what lists that are not lent answer and leave
pub unlent_answered : (s k c a i commands schedule : List ℕ) (fit : Bool) (reason : Reason) → are_lent (length k) (length c) (length a) ≡ false
    → (handed_back_fit (number_lists (all_lists s k c a i)) commands ≡ true → image_fits (setup_in s commands).capacity (number_lists (all_lists s k c a i)) ≡ fit)
    → UnlentFor s (length k) (length c) (length a) (length commands) fit reason
    → (refusal_for reason ≡ refusal_in (advance_on (decoded (all_lists s k c a i)) commands schedule))
    × (all_lists s k c a i ≡ left (advance_on (decoded (all_lists s k c a i)) commands schedule) (all_lists s k c a i))
unfolding number_lists
unlent_answered s k c a i commands schedule fit reason e image said =
    let b = all_lists s k c a i in
    let t = are_whole (length k) (length c) (length a) && all_fit (number_lists b) commands in
    let same : (are_whole (length k) (length c) (length a) && (handed_back_fit (number_lists b) commands && fit)) ≡ t =
    ap (λ (u : Bool). are_whole (length k) (length c) (length a) && u) (same_fit (handed_back_fit (number_lists b) commands) fit _ image) in
    let is = unlent_advanced b commands schedule e in
    (unlent_as s k c a i commands fit reason said ∙ ap (λ (u : Bool). plain (cond u 12 6)) same ∙ rw is (either_refusal t), rw is (either_left t b))

-- ---- rooms

-- rooms that were read have an entry for each number
pub are_rooms : (k c a : List ℕ) (n : Counts) (r : Rooms) → (are_lent (length k) (length c) (length a) ≡ true) × (n ≡ counts_in (length k) (length c) (length a)) → AreRead r k c a
    → AreRooms k c a (take n.keys r.keys) (take n.chutes r.chutes) (take n.answers r.answers)
are_rooms k c a n r u read =
    let long = (lent_lengths (length k) (length c) (length a) u.0).0 in
    let same = rooms_long k c a n r u.1 read in
    record {
      keys_fit = long.0 ∙ ap (λ (m : ℕ). 8 * m) (sym (ap (λ (n : Counts). n.keys) u.1) ∙ same.0);
      chutes_fit = long.1 ∙ ap (λ (m : ℕ). 2 * m) (sym (ap (λ (n : Counts). n.chutes) u.1) ∙ same.1);
      answers_fit = long.2 ∙ ap (λ (m : ℕ). 2 * m) (sym (ap (λ (n : Counts). n.answers) u.1) ∙ same.2);
    }

-- the lists of the numbers in them are those that the bytes write
pub rooms_are : (s k c a i : List ℕ) (n : Counts) (r : Rooms) → (are_lent (length k) (length c) (length a) ≡ true) × (n ≡ counts_in (length k) (length c) (length a)) → AreRead r k c a
    → all_lists s (take n.keys r.keys) (take n.chutes r.chutes) (take n.answers r.answers) i ≡ decoded (all_lists s k c a i)
unfolding number_lists
rooms_are s k c a i n r u read = rw (u.1, read.keys_are, read.chutes_are, read.answers_are) (sym (lent_decoded (all_lists s k c a i) u.0))

-- what a refused call on numbers r leaves of the bytes
pub refused_left : {x : Refusal} (o : CallOutcome) (b r : Lists) {s K C A i : List ℕ} → 0 < x.number → x ≡ refusal_in o → all_lists s K C A i ≡ kept o r → r.state ≡ b.state → r.image ≡ b.image
    → all_lists s b.keys b.chutes b.answers i ≡ left o b
unfolding refusal_in kept left
refused_left {x} (accepted l) b r some is after state image = absurd (omega (arith, some, ap (λ (y : Refusal). y.number) is))
refused_left {x} (refused y) b r {s} {K} {C} {A} {i} some is after state image =
    let same_state : s ≡ b.state = ap (λ (l : Lists). l.state) after ∙ state in
    let same_image : i ≡ b.image = ap (λ (l : Lists). l.image) after ∙ image in
    rw (same_state, same_image)

-- and an accepted one
pub accepted_left : (o : CallOutcome) (b r l : Lists) {s K C A i x y z : List ℕ} → o ≡ accepted l → all_lists s K C A i ≡ kept o r
    → (x ≡ bytes_in 8 K) × (y ≡ bytes_in 2 C) × (z ≡ bytes_in 2 A) → all_lists s x y z i ≡ left o b
unfolding encoded kept left
accepted_left o b r l is after wrote = rw (wrote.0, wrote.1, wrote.2, is) (ap encoded (rw is at after))

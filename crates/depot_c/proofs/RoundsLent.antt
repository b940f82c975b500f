-- The lists that `depot_rounds_needed` is lent. Assumes nothing.
use Prim.Native.Nat.{ℕ, ◌*◌, ◌/◌, ◌%◌, ◌≤◌}
use mathlib.Core.Path.{◌≡◌, refl, sym, ap, ◌∙◌}
use mathlib.Core.Bool.{Bool, true, false, cond, and-eq-true_iff, ◌&&◌}
use mathlib.Core.List.{List}
use native.Mathlib.Omega.{arith}
use borrow.Author.Tests.{eq-eqb, ne_eqb, eqb-true, leb-true, leb-false}
use lib.Dec.{eqb, leb}
use lib.ListN.{length}
use Rattle.s10.specs.declared.Refusal.{Refusal}
use Rattle.byte_fields.specs.Bytes.{bytes_of}
use Rattle.rounds.specs.Calls.{found, refused, rounds_on}
use Rattle.rounds.proofs.Calls.{found_lent, too_many, place_low}
use Rattle.depot_c.specs.Numbers.{bytes_in}
use Rattle.depot_c.specs.Boundary.{packed, rounds_lent, UpTo, rounds_answer, round_bytes, round_count_bytes, rounds_left, round_count_left}

-- a list that ends within a number, or a count of another length
pub uncounted : (rounds count : ℕ) → (count ≡ 8 → ⊥) → rounds_lent rounds count ≡ 4097
unfolding rounds_lent
uncounted rounds count e = rw (ne_eqb count 8 e) (either (eqb (rounds % 2) 0))
  where
    either : (t : Bool) → cond (t && false) (rounds / 2) 4097 ≡ 4097
    either true = refl
    either false = refl

pub unended : (rounds count : ℕ) → (rounds % 2 ≡ 0 → ⊥) → rounds_lent rounds count ≡ 4097
unfolding rounds_lent
unended rounds count e = rw (ne_eqb (rounds % 2) 0 e)

-- lists in order
pub whole : (rounds count : ℕ) → count ≡ 8 → rounds % 2 ≡ 0 → rounds_lent rounds count ≡ rounds / 2
unfolding rounds_lent
whole rounds count long even = rw (eq-eqb count 8 long, eq-eqb (rounds % 2) 0 even)

-- a room for as many entries as are lent, up to one too many, comes to the same
pub same_outcome : (commands : List ℕ) (lent r : ℕ) → UpTo lent r → rounds_on commands r ≡ rounds_on commands lent
same_outcome commands lent r (few, many) = by (leb lent 4096) refl
  where
    by : (t : Bool) → leb lent 4096 ≡ t → rounds_on commands r ≡ rounds_on commands lent
    by true h = ap (rounds_on commands) (few (leb-true lent 4096 h))
    by false h = let long : 4097 ≤ lent = leb-false lent 4096 h in ap (rounds_on commands) (many long) ∙ sym (too_many commands lent long)

-- where there are not too many, the lists are in order
pub in_order : (rounds count r : ℕ) → UpTo (rounds_lent rounds count) r → r ≤ 4096 → (rounds ≡ 2 * r) × (count ≡ 8)
unfolding rounds_lent
in_order rounds count r = by (eqb (rounds % 2) 0 && eqb count 8) refl
  where
    by : (t : Bool) → (eqb (rounds % 2) 0 && eqb count 8) ≡ t → UpTo (cond t (rounds / 2) 4097) r → r ≤ 4096 → (rounds ≡ 2 * r) × (count ≡ 8)
    by true h (few, many) low =
        let each = (and-eq-true_iff (eqb (rounds % 2) 0) (eqb count 8)).0 h in
        let even = eqb-true (rounds % 2) 0 each.0 in
        let no : 4097 ≤ rounds / 2 → ⊥ = λ long. omega (arith, low, many long) in
        let lent : rounds / 2 ≤ 4096 = omega (arith, no) in
        (omega (arith, even, few lent), eqb-true count 8 each.1)
    by false h (few, many) low = absurd (omega (arith, low, many (omega arith)))

-- ---- what is told

module _ (commands rounds count : List ℕ) (room : ℕ) (fits : UpTo (rounds_lent (length rounds) (length count)) room) where
  -- of a list that has its rounds
  pub told_found : (new : List ℕ) (n : ℕ) → found new n ≡ rounds_on commands room →
      (0 ≡ rounds_answer commands rounds count) × (bytes_in 2 new ≡ rounds_left commands rounds count) × (bytes_of 8 n ≡ round_count_left commands rounds count)
  unfolding round_bytes round_count_bytes
  told_found new n e = rw (← same_outcome commands (rounds_lent (length rounds) (length count)) room fits, ← e) (refl, refl, refl)

  -- its lists are in order
  pub found_in_order : (new : List ℕ) (n : ℕ) → found new n ≡ rounds_on commands room → (length rounds ≡ 2 * room) × (length count ≡ 8)
  found_in_order new n e = in_order (length rounds) (length count) room fits (found_lent commands room new n (sym e)).1

  -- and of one that is refused
  pub told_refused : (r : Refusal) → refused r ≡ rounds_on commands room →
      (packed r ≡ rounds_answer commands rounds count) × (rounds ≡ rounds_left commands rounds count) × (count ≡ round_count_left commands rounds count)
  unfolding round_bytes round_count_bytes
  told_refused r e = rw (← same_outcome commands (rounds_lent (length rounds) (length count)) room fits, ← e) (refl, refl, refl)

  pub refused_place : (r : Refusal) → refused r ≡ rounds_on commands room → r.place ≤ 4096
  refused_place r e = rw (← e) at (place_low commands room)

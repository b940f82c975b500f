-- What is known of the characters of a well-formed text. Assumes nothing.
use Prim.Native.Nat.{ℕ, ◌+◌, ◌<◌}
use mathlib.Core.Path.{◌≡◌, refl, sym, ◌∙◌}
use mathlib.Core.Bool.{true, ◌&&◌, and-eq-true_iff}
use mathlib.Core.List.{List}
use native.Mathlib.Omega.{arith}
use borrow.Author.Tests.{eqb-true, leb-true, le-leb}
use lib.Dec.{eqb, leb}
use lib.ListN.{length, get_or, take, drop, length-take, length-drop}
use lib.Seq.{get_or-take, get_or-drop}
use Rattle.s10.specs.Text.{asks_digit, is_allowed}
use Rattle.s10.specs.Parts.{all_allowed, is_well_formed, Between, Serial, WellFormed}
use Rattle.s10.proofs.Fault.{allowed_at}

-- a character that passes the two tests lies between
pub within : (low high c : ℕ) → (leb low c && leb c high) ≡ true → Between low high c
within low high c e =
    let tests = (and-eq-true_iff (leb low c) (leb c high)).0 e in
    (leb-true low c tests.0, leb-true c high tests.1)

-- each test is passed
pub is_within : (low high c : ℕ) → Between low high c → (leb low c && leb c high) ≡ true
is_within low high c w = rw (le-leb low c w.0, le-leb c high w.1)

-- at positions 2 to 10 a digit is asked
pub digit_asked : (i c : ℕ) → Between 2 10 i → is_allowed i c ≡ (leb 48 c && leb c 57)
unfolding asks_digit is_allowed
digit_asked i c w = rw (is_within 2 10 i w)

module _ (text : List ℕ) (ok : is_well_formed text ≡ true) where
  -- the two tests of a well-formed text
  tests : (eqb (length text) 13 ≡ true) × (all_allowed 0 text ≡ true)
  unfolding is_well_formed
  tests = (and-eq-true_iff (eqb (length text) 13) (all_allowed 0 text)).0 ok

  long : length text ≡ 13
  long = eqb-true (length text) 13 tests.0

  -- outside the digits, a position that is known asks a letter
  letter_at : (i : ℕ) → i < 13 → (is_allowed (0 + i) (get_or text i 0) ≡ (leb 65 (get_or text i 0) && leb (get_or text i 0) 90)) → Between 65 90 (get_or text i 0)
  letter_at i h asked = let l = long in within 65 90 _ (sym asked ∙ allowed_at 0 text tests.1 i (omega arith))

  -- at positions 2 to 10 stands a digit
  digit_at : (i : ℕ) → Between 2 10 i → Between 48 57 (get_or text i 0)
  digit_at i w =
      let l = long in
      within 48 57 _ (sym (digit_asked (0 + i) (get_or text i 0) (omega arith)) ∙ allowed_at 0 text tests.1 i (omega arith))

  -- positions 2 to 9 are the serial digits
  serial : Serial (take 8 (drop 2 text))
  serial =
      let l = long in
      record {
        long = simp (length-take, length-drop) (omega arith);
        digit = λ k h.
            let short : k < 8 = omega (arith, simp length-take at h) in
            rw (get_or-take, get_or-drop) (digit_at (2 + k) (omega arith));
      }

  -- each part by its position
  pub well_formed : WellFormed text
  unfolding is_allowed
  well_formed =
      record {
        long = long;
        first = (letter_at 0 (omega arith) refl, letter_at 1 (omega arith) refl);
        serial = serial;
        check = digit_at 10 (omega arith);
        last = (letter_at 11 (omega arith) refl, letter_at 12 (omega arith) refl);
      }

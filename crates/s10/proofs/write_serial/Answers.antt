-- `s10::write_serial` meets its contract: the digits, and the check digit of the digits that were written. Assumes nothing.
use Prim.Native.Nat.{ℕ, ◌+◌}
use mathlib.Core.Path.{◌≡◌, ap, ◌∙◌}
use mathlib.Core.List.{List, [], ◌++◌}
use native.Mathlib.Omega.{arith}
use lib.ListN.{length, get_or, take, drop, set, drop_of_length-le}
use lib.Seq.{length-take-le, drop-cons, take_at, set_at}
use Rattle.s10.specs.Text.{digits, check_digit}
use Rattle.s10.specs.Parts.{Serial, values, characters, serial_text}
use Rattle.s10.proofs.Values.{values_characters, characters_serial}
use Rattle.s10.proofs.write_serial.Goals as goal

module _ (number : ℕ) (text new : List ℕ) (nine : length text ≡ 9) (written : new ≡ characters (digits (length (take 8 text)) number)) where
  digits_written : new ≡ characters (digits 8 number)
  digits_written = rw (length-take-le 8 text (omega arith)) at written

  -- the first eight characters are the digits
  first_eight : take 8 (new ++ drop 8 text) ≡ characters (digits 8 number)
  first_eight = rw digits_written (take_at _ (drop 8 text) 8 (characters_serial number).long)

  serial : Serial (take 8 (new ++ drop 8 text))
  serial = rw first_eight (characters_serial number)

  -- and the ninth is their check digit
  serial_written : (check : ℕ) → check ≡ check_digit (values (take 8 (new ++ drop 8 text))) → set (new ++ drop 8 text) 8 (48 + check) ≡ serial_text number
  unfolding serial_text
  serial_written check right =
      let digit : check ≡ check_digit (digits 8 number) = right ∙ ap check_digit (ap values first_eight ∙ values_characters (digits 8 number)) in
      let last = drop_of_length-le text {i = 9} (omega arith) in
      let stored = set_at (characters (digits 8 number)) (get_or text 8 0) [] (48 + check_digit (digits 8 number)) 8 (characters_serial number).long in
      rw (digit, digits_written, drop-cons text 8 0 (omega arith), last, stored)

pub check_digit-requires : goal.check_digit-requires
check_digit-requires c =
    serial c.args.number c.args.text.now _ c.requires c.write_digits.ensures

pub returns : goal.returns
returns c =
    serial_written c.args.number c.args.text.now _ c.requires c.write_digits.ensures _ c.check_digit.ensures.0

-- `Identifier::read` meets its contract. Assumes nothing.
use Prim.Native.Nat.{ℕ, ◌-◌}
use mathlib.Core.Path.{◌≡◌, ◌∙◌}
use mathlib.Core.List.{List}
use native.Mathlib.Omega.{arith}
use borrow.Author.Tests.{eq-eqb}
use lib.ListN.{length, get_or}
use Rattle.s10.specs.Text.{first_fault, serial_digits, check_digit}
use Rattle.s10.specs.Parts.{WellFormed}
use Rattle.s10.specs.Outcome.{read_text}
use Rattle.s10.proofs.Fault.{fault_well_formed}
use Rattle.s10.proofs.KeyOf.{sum_of_key}
use Rattle.s10.proofs.WellFormed.{well_formed}
use Rattle.s10.proofs.Identifier.read.Goals as goal

-- thirteen characters with no fault are well-formed
parts : (text : List ℕ) → length text ≡ 13 → first_fault 0 text ≡ length text → WellFormed text
parts text long none = well_formed text (fault_well_formed text long ∙ eq-eqb (first_fault 0 text) 13 (none ∙ long))

pub check_digit-check-requires : goal.check_digit-check-requires
check_digit-check-requires c = (parts c.args.text.now (omega arith) (omega arith)).serial

pub overflow_sub-text : goal.overflow_sub-text
overflow_sub-text c = (parts c.args.text.now (omega arith) (omega arith)).check.0

pub returns : goal.returns
unfolding read_text serial_digits
returns c =
    let text = c.args.text.now in
    rw (eq-eqb (length text) 13 (omega arith), eq-eqb (first_fault 0 text) 13 (omega arith), eq-eqb (get_or text 10 0 - 48) (check_digit (serial_digits text)) (omega arith), c.key_of.ensures, sum_of_key text (parts text (omega arith) (omega arith)))

-- `s10::write_digits` meets its contract. The loop's invariant: the last digits stand from `i` on, and the rest is still to be written.
-- Assumes nothing.
use Prim.Native.Nat.{ℕ, ◌-◌, ◌/◌, ◌^◌, ◌≤◌}
use mathlib.Core.Path.{◌≡◌}
use mathlib.Core.List.{List}
use lib.ListN.{length, drop}
use Rattle.s10.specs.Text.{digits}
use Rattle.s10.specs.Parts.{characters}
use Rattle.s10.proofs.write_digits.Given as goal

-- from place i on the list holds the last digits, and the rest is the number without them
pub record Filled (number : ℕ) (text : List ℕ) (rest i : ℕ) : Type 0 where
  pub within : i ≤ length text
  pub quotient : rest ≡ number / 10 ^ (length text - i)
  pub written : drop i text ≡ characters (digits (length text - i) number)

abbrev pub invariant-loop-i : goal.invariant-loop-i
invariant-loop-i l = Filled l.number l.text l.rest l.i

-- `s10::serial_sum` meets its contract. The loop's invariant: the number so far and the digits that are left write the whole number, and k
-- digits, each at most 255, write less than 29 × 10 ^ k. Assumes nothing.
use Prim.Native.Nat.{◌+◌, ◌*◌, ◌^◌, ◌≤◌}
use mathlib.Core.Path.{◌≡◌}
use lib.ListN.{drop}
use Rattle.s10.specs.Text.{decimal_number}
use Rattle.s10.proofs.serial_sum.Given as goal

abbrev pub invariant-loop-digit : goal.invariant-loop-digit
invariant-loop-digit l =
    (decimal_number l.n (drop l.digit-index l.digits) ≡ decimal_number 0 l.digits) × (l.n + 29 ≤ 29 * 10 ^ l.digit-index)

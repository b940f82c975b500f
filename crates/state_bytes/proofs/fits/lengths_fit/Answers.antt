-- `state_bytes::fits::lengths_fit` meets its contract. Assumes nothing.
use Prim.Native.Nat.{ℕ, ◌*◌}
use mathlib.Core.Bool.{◌&&◌}
use mathlib.Core.List.{List}
use mathlib.Core.Path.{◌≡◌, refl}
use lib.Dec.{eqb}
use lib.ListN.{length}
use Rattle.std.proofs.Common.{rules, tests}
use Rattle.byte_fields.specs.Bytes.{number_at}
use Rattle.state_bytes.specs.Layout.{lengths_fit, handed_back_fit, Lists, state_length, setup_in, count_in}
use Rattle.state_bytes.proofs.fits.lengths_fit.Goals as goal

-- the tests, in the numbers that are read
as_read : (l : Lists) (list b : List ℕ) (answers keys chutes commands capacity count : ℕ) → l.state ≡ b → length l.answers ≡ answers → length l.keys ≡ keys → length l.chutes ≡ chutes → length list ≡ commands
    → capacity ≡ number_at 2 4 b → count ≡ number_at 2 6 b
    → handed_back_fit l list ≡ (eqb (length b) 4718 && eqb answers count && eqb keys capacity && eqb chutes capacity && eqb commands (16 * count))
unfolding handed_back_fit lengths_fit setup_in count_in state_length
as_read l list b answers keys chutes commands capacity count s a k h m p q = rw (s, a, k, h, m, p, q)

pub returns-then-state-ne-STATE_LENGTH : goal.returns-then-state-ne-STATE_LENGTH
returns-then-state-ne-STATE_LENGTH c l list state answers keys chutes commands =
    let e = as_read l list _ _ _ _ _ _ _ state answers keys chutes commands refl refl in
    search (rules, tests)

pub returns-then-chutes-capacity : goal.returns-then-chutes-capacity
returns-then-chutes-capacity c l list state answers keys chutes commands =
    let e = as_read l list _ _ _ _ _ _ _ state answers keys chutes commands c.number_at-capacity.ensures c.number_at-count.ensures in
    search (rules, tests)

pub returns-else-chutes-capacity : goal.returns-else-chutes-capacity
returns-else-chutes-capacity c l list state answers keys chutes commands =
    let e = as_read l list _ _ _ _ _ _ _ state answers keys chutes commands c.number_at-capacity.ensures c.number_at-count.ensures in
    search (rules, tests)

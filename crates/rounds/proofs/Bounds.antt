-- What an accepted call leaves fits two bytes a round. Assumes nothing.
use Prim.Native.Nat.{ℕ, ◌/◌, ◌%◌, ◌≤◌}
use mathlib.Core.Path.{◌≡◌}
use mathlib.Core.List.{List}
use native.Mathlib.Omega.{arith}
use lib.ListN.{length, get_or, length-map}
use Rattle.command.specs.Read.{commands_in}
use Rattle.command.proofs.Laws.{length_parts_of}
use Rattle.rounds.specs.Calls.{found, rounds_on}
use Rattle.rounds.specs.Rounds.{rounds_of, round_count}
use Rattle.rounds.proofs.Promise.{found_so, largest_covers}
use Rattle.rounds.proofs.Entered.{count_low}

commands_long : (list : List ℕ) → length list % 16 ≡ 0 → length (commands_in list) ≡ length list / 16
unfolding commands_in
commands_long list whole = rw length-map (omega (arith, length_parts_of list, whole))

-- of the list's own rounds
own_low : (commands : List ℕ) → length commands % 16 ≡ 0 → length commands / 16 ≤ 4096 →
    ((i : ℕ) → get_or (rounds_of (commands_in commands)) i 0 ≤ round_count (commands_in commands)) × (round_count (commands_in commands) ≤ 4096)
unfolding round_count
own_low commands whole few = (λ i. largest_covers (rounds_of (commands_in commands)) i, omega (arith, count_low (commands_in commands), commands_long commands whole, few))

pub found_low : (commands : List ℕ) (lent : ℕ) (rounds : List ℕ) (n : ℕ) → rounds_on commands lent ≡ found rounds n → ((i : ℕ) → get_or rounds i 0 ≤ n) × (n ≤ 4096)
found_low commands lent rounds n e =
    let f = found_so commands lent rounds n e in
    rw (← f.rounds_are, ← f.count_is) (own_low commands f.whole f.few)

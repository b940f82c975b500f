-- The rounds that a list needs, over the calls of a host in C (02, A.9): what `depot_rounds_needed` leaves in the bytes that it is lent, and which
-- lists it refuses. What the calls answer and leave is what their contracts say. Proved in proofs/Rounds. Assumes nothing.
use Rattle.std.specs.Prelude.{ℕ, ◌*◌, ◌/◌, ◌≤◌, ◌≡◌, true, ◌&&◌, List, length}
use Rattle.byte_fields.specs.Bytes.{number_at}
use Rattle.command.specs.Read.{commands_in}
use Rattle.state_bytes.specs.Layout.{Lists, lengths_fit, image_fits}
use Rattle.opening.specs.Calls.{nothing}
use Rattle.rounds.specs.Promise.{Needed}
use Rattle.depot_c.specs.Numbers.{numbers_in}
use Rattle.depot_c.specs.Boundary.{decoded, open_answer, rounds_answer, rounds_left, round_count_left}

-- Every accepted call leaves the rounds that the list needs, two bytes each, and their number, eight bytes.
abbrev pub RoundsOverBytes : Type 0
RoundsOverBytes =
    (commands rounds count : List ℕ) → rounds_answer commands rounds count ≡ 0 →
    Needed (commands_in commands) (numbers_in 2 (rounds_left commands rounds count)) (number_at 8 0 (round_count_left commands rounds count))

-- "A call given commands but neither settings nor a run tests from 4 on as opening does": of every list of commands, whatever its length and its
-- bytes, it answers what an opening with settings in range answers, where each is lent lists as long as it asks for.
abbrev pub TestsAsOpening : Type 0
TestsAsOpening =
    (size workers capacity : ℕ) → 1 ≤ size → size ≤ 150 → 1 ≤ workers → workers ≤ 64 → 1 ≤ capacity → capacity ≤ 4096 →
    (commands : List ℕ) (b : Lists) → (lengths_fit capacity (length commands / 16) (decoded b) && image_fits capacity (decoded b)) ≡ true →
    (rounds count : List ℕ) → length rounds ≡ 2 * (length commands / 16) → length count ≡ 8 →
    rounds_answer commands rounds count ≡ open_answer size workers capacity commands nothing b

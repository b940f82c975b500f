-- What the exported functions answer and leave: the calls' own definitions, on numbers and byte lists. Assumes nothing.
use Rattle.std.specs.Prelude.{ℕ, ◌+◌, ◌*◌, ◌/◌, ◌%◌, ◌≤◌, Bool, cond, ◌&&◌, List, [], ◌≡◌, length, eqb, leb, Result, Ok, Err}
use Rattle.s10.specs.declared.Refusal.{Refusal}
use Rattle.s10.specs.Refusal.{plain}
use Rattle.s10.specs.Outcome.{read_text, refusal_read}
use Rattle.s10.specs.Outcome as Identifier
use Rattle.byte_fields.specs.Bytes.{bytes_of}
use Rattle.state_bytes.specs.Layout.{Lists, all_lists, lists}
use Rattle.state_bytes.specs.Outcome.{CallOutcome, accepted, refused, refusal_in}
use Rattle.opening.specs.Calls.{Source, open_on}
use Rattle.controller.specs.Calls.{advance_on}
use Rattle.dispatcher.specs.Calls.{needed_on, count_needed, DispatchOutcome, dispatch_on, lent_left}
use Rattle.dispatcher.specs.Calls as Dispatcher
use Rattle.rounds.specs.Calls.{rounds_on}
use Rattle.rounds.specs.Calls as Rounds
use Rattle.depot_c.specs.Numbers.{numbers_in, bytes_in}

-- ---- lists

-- keys are eight bytes each, chutes and answers two
unfoldable pub are_whole : ℕ → ℕ → ℕ → Bool
are_whole keys chutes answers = eqb (keys % 8) 0 && eqb (chutes % 2) 0 && eqb (answers % 2) 0

-- as many entries as an accepted call has at most
abbrev pub have_room : ℕ → ℕ → ℕ → Bool
have_room keys chutes answers = leb keys 4096 && leb chutes 4096 && leb answers 4096

-- the lists of numbers that lists of bytes write; an image is bytes as it stands
unfoldable pub number_lists : Lists → Lists
number_lists b = all_lists b.state (numbers_in 8 b.keys) (numbers_in 2 b.chutes) (numbers_in 2 b.answers) b.image

-- the same, or no lists where the bytes end within a number: lists of a wrong length, which is refusal 6
unfoldable pub decoded : Lists → Lists
decoded b = cond (are_whole (length b.keys) (length b.chutes) (length b.answers)) (number_lists b) (lists [] [] [] [])

-- the lists of bytes of lists of numbers
unfoldable pub encoded : Lists → Lists
encoded l = all_lists l.state (bytes_in 8 l.keys) (bytes_in 2 l.chutes) (bytes_in 2 l.answers) l.image

-- ---- answers

-- a refusal in one number: its number in bits 0 to 7, the command's place from bit 8 on, the character in bits 32 to 39
abbrev pub packed : Refusal → ℕ
packed r = r.number + 256 * r.place + 4_294_967_296 * r.character

-- a refusal that fits into one number
abbrev pub Fits : Refusal → Type 0
Fits r = (r.number ≤ 16) × (r.place ≤ 4096)

-- the refusal of a call, `plain 0` for none
abbrev pub refusal_of : Result Unit Refusal → Refusal
refusal_of (Ok _) = plain 0
refusal_of (Err r) = r

-- what is answered, 0 for accepted
unfoldable pub answer_of : CallOutcome → ℕ
answer_of o = packed (refusal_in o)

-- the bytes of the lists that the call leaves; a refusal leaves every byte as it was
unfoldable pub left : CallOutcome → Lists → Lists
left (accepted l) old = encoded l
left (refused r) old = old

-- ---- opening and advancing

-- what `depot_open`, with no source, and `depot_open_from`, with an image, answer on the caller's byte lists, and the byte lists that they leave
abbrev pub open_answer : ℕ → ℕ → ℕ → List ℕ → Source → Lists → ℕ
open_answer size workers capacity commands source b = answer_of (open_on size workers capacity commands source (decoded b))

abbrev pub open_left : ℕ → ℕ → ℕ → List ℕ → Source → Lists → Lists
open_left size workers capacity commands source b = left (open_on size workers capacity commands source (decoded b)) b

-- and `depot_advance`
abbrev pub advance_answer : Lists → List ℕ → List ℕ → ℕ
advance_answer b commands schedule = answer_of (advance_on (decoded b) commands schedule)

abbrev pub advance_left : Lists → List ℕ → List ℕ → Lists
advance_left b commands schedule = left (advance_on (decoded b) commands schedule) b

-- ---- dispatching

-- a count is eight bytes, whose length is tested first
abbrev pub count_long : List ℕ → Bool
count_long count = eqb (length count) 8

-- `depot_steps_needed`: what it answers, and the count's bytes
abbrev pub needed_answer : Lists → List ℕ → List ℕ → ℕ
needed_answer b commands count = cond (count_long count) (needed_on (decoded b) commands) 6

abbrev pub needed_left : Lists → List ℕ → List ℕ → List ℕ
needed_left b commands count = cond (eqb (needed_answer b commands count) 0) (bytes_of 8 (count_needed (decoded b) commands)) count

-- the bytes of the lists that a call which dispatches leaves
unfoldable pub made_left : DispatchOutcome → Lists → Lists
made_left (Dispatcher.made d) old = encoded d.lists
made_left (Dispatcher.refused r) old = old

-- `depot_dispatch`: what it answers, and the byte lists, the schedule's list and the count's bytes that it leaves
abbrev pub dispatch_answer : Lists → List ℕ → List ℕ → List ℕ → ℕ
dispatch_answer b commands schedule count = cond (count_long count) (packed (Dispatcher.refusal_in (dispatch_on (decoded b) commands schedule))) 6

abbrev pub dispatch_left : Lists → List ℕ → List ℕ → List ℕ → Lists
dispatch_left b commands schedule count = cond (count_long count) (made_left (dispatch_on (decoded b) commands schedule) b) b

abbrev pub schedule_left : Lists → List ℕ → List ℕ → List ℕ → List ℕ
schedule_left b commands schedule count = cond (count_long count) (lent_left (dispatch_on (decoded b) commands schedule) schedule) schedule

abbrev pub count_left : Lists → List ℕ → List ℕ → List ℕ → List ℕ
count_left b commands schedule count = cond (eqb (dispatch_answer b commands schedule count) 0) (bytes_of 8 (Dispatcher.count_in (dispatch_on (decoded b) commands schedule))) count

-- ---- rounds

-- how many entries are lent for rounds, two bytes each. A list that ends within a number, and a count that is not eight bytes, is a list of a wrong
-- length, which is refusal 6: it counts as one entry more than any list of commands asks for.
unfoldable pub rounds_lent : ℕ → ℕ → ℕ
rounds_lent rounds count = cond (eqb (rounds % 2) 0 && eqb count 8) (rounds / 2) 4097

-- what `depot_rounds_needed` comes to on the caller's byte lists
abbrev pub rounds_outcome : List ℕ → List ℕ → List ℕ → Rounds.Outcome
rounds_outcome commands rounds count = rounds_on commands (rounds_lent (length rounds) (length count))

-- what it answers
abbrev pub rounds_answer : List ℕ → List ℕ → List ℕ → ℕ
rounds_answer commands rounds count = packed (Rounds.refusal_in (rounds_outcome commands rounds count))

-- the rounds' bytes and the count's that an outcome leaves; a refusal leaves every byte as it was
unfoldable pub round_bytes : Rounds.Outcome → List ℕ → List ℕ
round_bytes (Rounds.found rounds n) old = bytes_in 2 rounds
round_bytes (Rounds.refused r) old = old

unfoldable pub round_count_bytes : Rounds.Outcome → List ℕ → List ℕ
round_count_bytes (Rounds.found rounds n) old = bytes_of 8 n
round_count_bytes (Rounds.refused r) old = old

abbrev pub rounds_left : List ℕ → List ℕ → List ℕ → List ℕ
rounds_left commands rounds count = round_bytes (rounds_outcome commands rounds count) rounds

abbrev pub round_count_left : List ℕ → List ℕ → List ℕ → List ℕ
round_count_left commands rounds count = round_count_bytes (rounds_outcome commands rounds count) count

-- ---- identifiers

-- the key of a text, 0 for refused, and the key's eight bytes where it was accepted
abbrev pub key_read : Identifier.TextOutcome → ℕ
key_read (Identifier.accepted key) = key
key_read (Identifier.refused r) = 0

unfoldable pub bytes_read : Identifier.TextOutcome → List ℕ → List ℕ
bytes_read (Identifier.accepted key) old = bytes_of 8 key
bytes_read (Identifier.refused r) old = old

-- "6: 12 bytes for an identifier": the key's list has eight bytes, which is tested first
unfoldable pub read_answer : List ℕ → List ℕ → ℕ
read_answer text key = cond (eqb (length key) 8) (packed (refusal_read (read_text text))) 6

unfoldable pub read_left : List ℕ → List ℕ → List ℕ
read_left text key = cond (eqb (length key) 8) (bytes_read (read_text text) key) key

-- ---- the room for rounds

-- The room for rounds has as many entries as are lent, up to one too many.
abbrev pub UpTo : ℕ → ℕ → Type 0
UpTo lent r = (lent ≤ 4096 → r ≡ lent) × (4097 ≤ lent → r ≡ 4097)

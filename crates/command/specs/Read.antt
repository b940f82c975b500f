-- Commands as bytes: document 01, "Command list and store", and document 02, A.2 and A.3. Each definition quotes its sentence. Assumes nothing.
use Rattle.std.specs.Prelude.{ℕ, zero, suc, ◌+◌, ◌*◌, ◌/◌, Bool, cond, ◌&&◌, List, [], ◌∷◌, map, length, get_or, take, drop, eqb, leb, ◌≡◌, Result, Ok, Err}
use Rattle.std.proofs.Math.Option.{Option, none, some}
use Rattle.s10.specs.declared.Reason.{Reason as TextReason}
use Rattle.s10.specs.Refusal.{Refusal, plain, at_character, at_place}
use Rattle.s10.specs.Text.{untested_key}
use Rattle.s10.specs.Outcome.{read_text}
use Rattle.s10.specs.Outcome as Identifier
use Rattle.command.specs.declared.Kind.{Kind}
use Rattle.command.specs.declared.Kind.TheVariants.{Insert, Delete, Read, Update, Workers, Checkpoint}
use Rattle.command.specs.declared.Command.{Command}
use Rattle.command.specs.declared.Reason.{Reason}
use Rattle.command.specs.declared.Reason.TheVariants.{UnknownKind, WrongIdentifier, NotZero, WrongChute, WrongCount}
use Rattle.command.specs.declared.Refused.{Refused}
use Rattle.command.specs.Dependent.{has_item}

-- A command is accepted, or refused; its place is not known yet.
pub data CommandOutcome : Type 0 where
  accepted : Command → CommandOutcome
  refused : Refusal → CommandOutcome

-- the document's values for each reason
abbrev pub refusal_for : Reason → Refusal
refusal_for UnknownKind = plain 7
refusal_for (WrongIdentifier reason) = Identifier.refusal_for reason
refusal_for (NotZero character) = at_character character.0 (plain 8)
refusal_for WrongChute = plain 10
refusal_for WrongCount = plain 14

-- what `Refusal::from` gives for a reason, and `Reason::from` for an identifier's
abbrev pub RefusedFor : Reason → Refusal → Type 0
RefusedFor reason r = r ≡ refusal_for reason

abbrev pub IsWrongIdentifier : TextReason → Reason → Type 0
IsWrongIdentifier reason r = r ≡ WrongIdentifier reason

-- the outcome that each answer of `Command::read` stands for
abbrev pub command_outcome : Result Command Reason → CommandOutcome
command_outcome (Ok command) = accepted command
command_outcome (Err reason) = refused (refusal_for reason)

-- the outcome that each answer of `Kind::read_identifier` stands for
abbrev pub identifier_outcome : Result ℕ Reason → Identifier.TextOutcome
identifier_outcome (Ok key) = Identifier.accepted key
identifier_outcome (Err reason) = Identifier.refused (refusal_for reason)

-- "kind (1 insert, 2 delete, 3 read, 4 update)", "Kind 5 sets the worker count" (02, A.2), kind 6 "puts the store into a lent image" (02, A.3); any other number is no kind's
unfoldable pub kind_of : ℕ → Option Kind
kind_of n =
    cond (eqb n 1) (some Insert) (cond (eqb n 2) (some Delete) (cond (eqb n 3) (some Read) (cond (eqb n 4) (some Update) (cond (eqb n 5) (some Workers) (cond (eqb n 6) (some Checkpoint) none)))))

abbrev pub kind_number : Kind → ℕ
kind_number Insert = 1
kind_number Delete = 2
kind_number Read = 3
kind_number Update = 4
kind_number Workers = 5
kind_number Checkpoint = 6

-- the kind that each answer of `Kind::try_from` stands for; its only error is an unknown kind
abbrev pub known_kind : Result Kind Reason → Option Kind
known_kind (Ok kind) = some kind
known_kind (Err reason) = none

-- what `Kind::try_from` gives for a number, and `u8::from` for a kind
abbrev pub IsKindOf : ℕ → Result Kind Reason → Type 0
IsKindOf number r = (known_kind r ≡ kind_of number) × ((reason : Reason) → r ≡ Err reason → reason ≡ UnknownKind)

abbrev pub IsNumberOf : Kind → ℕ → Type 0
IsNumberOf kind number = number ≡ kind_number kind

-- "Insert and update carry chute 1 to 512; delete and read carry 0"; kind 5's "chute field [is] the new count", 1 to 64; kind 6 has
-- "chute 0"
unfoldable pub chute_fits : Kind → ℕ → Bool
chute_fits Insert chute = leb 1 chute && leb chute 512
chute_fits Delete chute = eqb chute 0
chute_fits Read chute = eqb chute 0
chute_fits Update chute = leb 1 chute && leb chute 512
chute_fits Workers count = leb 1 count && leb count 64
chute_fits Checkpoint chute = eqb chute 0

-- refusal 10, "chute wrong for the kind"; "14 [..] when a kind 5 count is not 1 to 64, tested where 10 is for other kinds";
-- kind 6's chute is tested "under 10"
abbrev pub chute_refusal : Kind → Refusal
chute_refusal Insert = plain 10
chute_refusal Delete = plain 10
chute_refusal Read = plain 10
chute_refusal Update = plain 10
chute_refusal Workers = plain 14
chute_refusal Checkpoint = plain 10

-- "chute (two bytes, high first)"
unfoldable pub chute_of : List ℕ → ℕ
chute_of bytes = 256 * get_or bytes 0 0 + get_or bytes 1 0

-- Kind 5's identifier "is tested under 8 alone; its first faulty character is the first that is not 0", and kind 6's is "tested under 8 alone, as
-- kind 5's is": its position, from position i on, or the position after the last
unfoldable pub first_not_zero : ℕ → List ℕ → ℕ
first_not_zero i [] = i
first_not_zero i (c ∷ text) = cond (eqb c 48) (first_not_zero (i + 1) text) i

-- thirteen characters 0 name no item, and their key is 0
unfoldable pub read_zeros : List ℕ → Identifier.TextOutcome
unfolding first_not_zero
read_zeros text =
    cond (eqb (length text) 13) (cond (eqb (first_not_zero 0 text) 13) (Identifier.accepted 0) (Identifier.refused (at_character (first_not_zero 0 text + 1) (plain 8))))
    (Identifier.refused (plain 8))

-- the identifier of a command of the kind
unfoldable pub read_identifier : Kind → List ℕ → Identifier.TextOutcome
unfolding has_item read_zeros
read_identifier kind text = cond (has_item kind) (read_text text) (read_zeros text)

-- what follows the identifier's outcome: its refusal, whose character is passed on, or the chute's, or the command
unfoldable pub with_chute : Kind → Identifier.TextOutcome → List ℕ → CommandOutcome
unfolding chute_fits chute_of
with_chute kind (Identifier.accepted key) bytes =
    cond (eqb (length bytes) 2 && chute_fits kind (chute_of bytes)) (accepted (record { kind = kind; key = key; chute = chute_of bytes })) (refused (chute_refusal kind))
with_chute kind (Identifier.refused r) bytes = refused r

-- what follows the kind: refusal 7, "kind not 1 to 4", which "now admits" kinds 5 and 6, or what follows the identifier's outcome
unfoldable pub with_kind : Option Kind → List ℕ → List ℕ → CommandOutcome
unfolding read_identifier with_chute
with_kind none text bytes = refused (plain 7)
with_kind (some kind) text bytes = with_chute kind (read_identifier kind text) bytes

-- "A command is 16 bytes: kind, identifier, chute"; refusals 7, 8 or 13, 9 and 10 or 14 in this order. A part that ends early or late lacks
-- what would stand there: no kind is 7, a short identifier is 8, a chute of other than two bytes is 10 or 14.
unfoldable pub read_command : List ℕ → CommandOutcome
unfolding kind_of with_kind
read_command part = with_kind (kind_of (get_or part 0 0)) (take 13 (drop 1 part)) (drop 14 part)

-- "Each command is read from its own stretch inside the list": the first n parts of 16 bytes; only the last can be shorter
unfoldable pub parts : ℕ → List ℕ → List (List ℕ)
parts zero bytes = []
parts (suc n) bytes = take 16 bytes ∷ parts n (drop 16 bytes)

unfoldable pub parts_of : List ℕ → List (List ℕ)
unfolding parts
parts_of bytes = parts ((length bytes + 15) / 16) bytes

unfoldable pub readings : List ℕ → List CommandOutcome
unfolding parts_of read_command
readings bytes = map read_command (parts_of bytes)

-- A list of commands is accepted, or refused at a command's place, from 1.
pub data ListOutcome : Type 0 where
  all_accepted : ListOutcome
  list_refused : Refusal → ListOutcome

-- "then each command in order for 7 to 10", 13 and 14 among them: the first refusal, the first reading being that of a place
unfoldable pub first_refusal : ℕ → List CommandOutcome → ListOutcome
first_refusal place [] = all_accepted
first_refusal place (accepted command ∷ rest) = first_refusal (place + 1) rest
first_refusal place (refused r ∷ rest) = list_refused (at_place place r)

-- the refusal of a list at its first refused command, and what `Refusal::from` gives for it
abbrev pub refusal_at : Refused → Refusal
refusal_at first = at_place first.place.0 (refusal_for first.reason)

abbrev pub RefusedAtFor : Refused → Refusal → Type 0
RefusedAtFor first r = r ≡ refusal_at first

-- the outcome that each answer of `read_list` stands for
abbrev pub list_outcome : Result ℕ Refused → ListOutcome
list_outcome (Ok largest) = all_accepted
list_outcome (Err first) = list_refused (refusal_at first)

-- the kind of a number that is not tested: one that is no kind's counts as a read's
abbrev pub untested_kind : Option Kind → Kind
untested_kind none = Read
untested_kind (some kind) = kind

-- the command of a part that is not tested: what its bytes say, key 0 where the kind names no item. A part that reads as a command is that one
-- (`Laws.AcceptedAsUntested`); of any other part nothing is promised but that it is some command, so that every list has one at each place
unfoldable pub command_in : List ℕ → Command
unfolding kind_of has_item untested_key chute_of
command_in part =
    let kind : Kind = untested_kind (kind_of (get_or part 0 0)) in
    cond (eqb (length part) 16) (record { kind = kind; key = cond (has_item kind) (untested_key (take 13 (drop 1 part))) 0; chute = chute_of (drop 14 part) })
    (record { kind = Read; key = 0; chute = 0 })

-- the commands of a list
unfoldable pub commands_in : List ℕ → List Command
unfolding parts_of command_in
commands_in bytes = map command_in (parts_of bytes)

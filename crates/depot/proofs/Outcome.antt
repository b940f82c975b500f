-- Laws of a call's outcome: a refusal's number is not 0, so what is printed goes by the number and the lists left; and an opening goes by the
-- lengths of what is lent. Assumes nothing.
use Prim.Native.Nat.{ℕ, ◌+◌, ◌/◌, ◌%◌, ◌<◌, min}
use native.Mathlib.Omega.{arith}
use mathlib.Core.Path.{◌≡◌, refl, ap, sym, ◌∙◌}
use mathlib.Core.Bool.{Bool, true, false, cond, ◌&&◌}
use mathlib.Core.List.{List, [], ◌∷◌, map}
use mathlib.Core.Option.{Option, none, some}
use Rattle.std.specs.Prelude.{Result, Ok, Err}
use borrow.Author.Tests.{le-leb, lt-leb}
use lib.ListN.{length, get_or, take, drop, length-replicate}
use lib.Dec.{eqb, leb}
use Rattle.s10.specs.Refusal.{Refusal, plain, at_place}
use Rattle.s10.specs.Text.{asks_digit, first_fault, serial_digits, check_digit}
use Rattle.s10.specs.declared.Reason.{Reason as IdentifierReason}
use Rattle.s10.specs.declared.Reason.TheVariants.{WrongLength as WrongTextLength, WrongLetter, WrongDigit, WrongCheckDigit}
use Rattle.s10.specs.Outcome.{fault_at, read_text}
use Rattle.s10.specs.Outcome as Identifier
use Rattle.command.specs.declared.Kind.{Kind}
use Rattle.command.specs.declared.Kind.TheVariants.{Insert, Delete, Read, Update, Workers, Checkpoint}
use Rattle.command.specs.declared.Reason.{Reason as CommandReason}
use Rattle.command.specs.declared.Reason.TheVariants.{UnknownKind, WrongIdentifier, NotZero, WrongChute, WrongCount}
use Rattle.command.specs.Dependent.{has_item}
use Rattle.command.specs.Read.{first_refusal, parts_of, readings, read_command, with_kind, with_chute, kind_of, chute_fits, chute_refusal, chute_of, first_not_zero, read_zeros, read_identifier}
use Rattle.command.specs.Read as Command
use Rattle.model.specs.Setup.{Setup}
use Rattle.model.specs.Image.{image_length, empty_image}
use Rattle.model.specs.Statement.{all_within}
use Rattle.state_bytes.specs.Layout.{Lists, state_length, setup_in, state_fits, lengths_fit, handed_back_fit, image_fits}
use Rattle.state_bytes.specs.Outcome.{CallOutcome, accepted, refused, refusal_in, kept}
use Rattle.opening.specs.Calls as Opening
use Rattle.opening.specs.declared.Reason.{Reason as OpeningReason}
use Rattle.opening.specs.declared.Reason.TheVariants.{WrongGraphSize, WrongWorkers, WrongCapacity, WrongListLength, TooManyCommands, WrongLength, WrongChain, WrongSlot, WrongCommand}
use Rattle.opening.specs.Calls.{opening_refusal, Source, source_long, source_chained, source_fits, opened_with, open_on}
use Rattle.controller.specs.Calls as Controller
use Rattle.controller.specs.declared.Reason.{Reason as AdvanceReason}
use Rattle.controller.specs.declared.Reason.TheVariants.{WrongLength as WrongListLengths, UnknownThread, WrongState}
use Rattle.controller.specs.Calls.{advance_refusal, advance_on}
use Rattle.byte_fields.proofs.Bytes.{below_or_past}
use Rattle.depot.specs.Program.{refusal, printed, zeros}

-- ---- a refusal's number is not 0

pub data Numbered : CallOutcome → Type 0 where
  call_accepted : (l : Lists) → Numbered (accepted l)
  call_refused : (r : Refusal) → 0 < r.number → Numbered (refused r)

data CommandNumbered : Command.CommandOutcome → Type 0 where
  command_accepted : (command : _) → CommandNumbered (Command.accepted command)
  command_refused : (r : Refusal) → 0 < r.number → CommandNumbered (Command.refused r)

data IdentifierNumbered : Identifier.TextOutcome → Type 0 where
  identifier_accepted : (key : ℕ) → IdentifierNumbered (Identifier.accepted key)
  identifier_refused : (r : Refusal) → 0 < r.number → IdentifierNumbered (Identifier.refused r)

-- what holds of both ways out of a test holds after it
tested : {A : Type 0} (P : A → Type 0) (t : Bool) (pass fail : A) → P pass → P fail → P (cond t pass fail)
tested P true pass fail p q = p
tested P false pass fail p q = q

identifier_numbered : (text : List ℕ) → IdentifierNumbered (read_text text)
unfolding read_text fault_at
identifier_numbered text =
    tested IdentifierNumbered (eqb (length text) 13) _ _
    (tested IdentifierNumbered (eqb (first_fault 0 text) 13) _ _
    (tested IdentifierNumbered (eqb _ (check_digit (serial_digits text))) _ _ (identifier_accepted _) (identifier_refused _ (omega arith)))
    (identifier_refused (fault_at (first_fault 0 text)) (tested (λ (n : ℕ). 0 < n) (asks_digit (first_fault 0 text)) 13 8 (omega arith) (omega arith))))
    (identifier_refused _ (omega arith))

zeros_numbered : (text : List ℕ) → IdentifierNumbered (read_zeros text)
unfolding read_zeros
zeros_numbered text =
    tested IdentifierNumbered (eqb (length text) 13) _ _
    (tested IdentifierNumbered (eqb (first_not_zero 0 text) 13) _ _ (identifier_accepted _) (identifier_refused _ (omega arith))) (identifier_refused _ (omega arith))

-- refusals 10 and 14
chute_positive : (kind : Kind) → 0 < (chute_refusal kind).number
chute_positive Insert = omega arith
chute_positive Delete = omega arith
chute_positive Read = omega arith
chute_positive Update = omega arith
chute_positive Workers = omega arith
chute_positive Checkpoint = omega arith

chute_numbered : (kind : Kind) (o : Identifier.TextOutcome) (bytes : List ℕ) → IdentifierNumbered o → CommandNumbered (with_chute kind o bytes)
unfolding with_chute
chute_numbered kind _ bytes (identifier_accepted key) =
    tested CommandNumbered (eqb (length bytes) 2 && chute_fits kind (chute_of bytes)) _ _ (command_accepted _) (command_refused _ (chute_positive kind))
chute_numbered kind _ bytes (identifier_refused r positive) = command_refused r positive

kind_numbered : (kind : Option Kind) (text bytes : List ℕ) → CommandNumbered (with_kind kind text bytes)
unfolding with_kind read_identifier
kind_numbered none text bytes = command_refused (plain 7) (omega arith)
kind_numbered (some kind) text bytes =
    chute_numbered kind _ bytes (tested IdentifierNumbered (has_item kind) _ _ (identifier_numbered text) (zeros_numbered text))

command_numbered : (part : List ℕ) → CommandNumbered (read_command part)
unfolding read_command
command_numbered part = kind_numbered (kind_of (get_or part 0 0)) (take 13 (drop 1 part)) (drop 14 part)

-- the first refusal of a list is one of its commands'
first_of_lem : (place : ℕ) (o : Command.CommandOutcome) (rest : List Command.CommandOutcome) (setup : Setup) → CommandNumbered o
    → ((p : ℕ) → Numbered (opened_with (first_refusal p rest) setup)) → Numbered (opened_with (first_refusal place (o ∷ rest)) setup)
unfolding first_refusal opened_with
first_of_lem place _ rest setup (command_accepted command) later = later (place + 1)
first_of_lem place _ rest setup (command_refused r positive) later = call_refused (at_place place r) positive

first_numbered : (place : ℕ) (parts : List (List ℕ)) (setup : Setup) → Numbered (opened_with (first_refusal place (map read_command parts)) setup)
unfolding first_refusal opened_with
first_numbered place [] setup = call_accepted _
first_numbered place (part ∷ parts) setup = first_of_lem place (read_command part) (map read_command parts) setup (command_numbered part) (λ p. first_numbered p parts setup)

pub open_numbered : (size workers capacity : ℕ) (commands : List ℕ) (source : Source) (l : Lists) → Numbered (open_on size workers capacity commands source l)
unfolding open_on readings
open_numbered size workers capacity commands source l =
    tested Numbered (leb 1 size && leb size 150) _ _
    (tested Numbered (leb 1 workers && leb workers 64) _ _
    (tested Numbered (leb 1 capacity && leb capacity 4096) _ _
    (tested Numbered (eqb (length commands % 16) 0) _ _
    (tested Numbered (leb (length commands / 16) 4096) _ _
    (tested Numbered (lengths_fit capacity (length commands / 16) l && image_fits capacity l && source_long capacity source) _ _
    (tested Numbered (source_chained capacity source) _ _
    (tested Numbered (source_fits capacity source) _ _ (first_numbered 1 (parts_of commands) _) (call_refused _ (omega arith)))
    (call_refused _ (omega arith)))
    (call_refused _ (omega arith)))
    (call_refused _ (omega arith)))
    (call_refused _ (omega arith)))
    (call_refused _ (omega arith)))
    (call_refused _ (omega arith)))
    (call_refused _ (omega arith))

pub advance_numbered : (l : Lists) (commands schedule : List ℕ) → Numbered (advance_on l commands schedule)
unfolding advance_on
advance_numbered l commands schedule =
    tested Numbered (handed_back_fit l commands && image_fits (setup_in l.state commands).capacity l) _ _
    (tested Numbered (state_fits l) _ _
    (tested Numbered (all_within (setup_in l.state commands).largest schedule) _ _ (call_accepted _) (call_refused _ (omega arith)))
    (call_refused _ (omega arith)))
    (call_refused _ (omega arith))

-- ---- what is printed

printed_refused : (text : Lists → List ℕ) (o : CallOutcome) (r : Refusal) → r ≡ refusal_in o → 0 < r.number → printed text o ≡ refusal r.number
unfolding printed refusal_in
printed_refused text (accepted l) r e positive = absurd (omega (arith, ap (λ (r : Refusal). r.number) e))
printed_refused text (refused s) r e positive = ap (λ (r : Refusal). refusal r.number) (sym e)

printed_accepted : (text : Lists → List ℕ) (o : CallOutcome) (l left : Lists) → Numbered o → (refusal_in o).number ≡ 0 → left ≡ kept o l → printed text o ≡ text left
unfolding printed refusal_in kept
printed_accepted text _ l left (call_accepted m) e k = ap text (sym k)
printed_accepted text _ l left (call_refused r positive) e k = absurd (omega arith)

-- each reason's number is of one or two digits, and not 0
abbrev pub Short : Refusal → Type 0
Short r = (0 < r.number) × (r.number < 100)

identifier_short : (reason : IdentifierReason) → Short (Identifier.refusal_for reason)
identifier_short WrongTextLength = (omega arith, omega arith)
identifier_short (WrongLetter character) = (omega arith, omega arith)
identifier_short (WrongDigit character) = (omega arith, omega arith)
identifier_short WrongCheckDigit = (omega arith, omega arith)

command_short : (reason : CommandReason) → Short (Command.refusal_for reason)
command_short UnknownKind = (omega arith, omega arith)
command_short (WrongIdentifier reason) = identifier_short reason
command_short (NotZero character) = (omega arith, omega arith)
command_short WrongChute = (omega arith, omega arith)
command_short WrongCount = (omega arith, omega arith)

opening_short : (reason : OpeningReason) → Short (Opening.refusal_for reason)
opening_short WrongGraphSize = (omega arith, omega arith)
opening_short WrongWorkers = (omega arith, omega arith)
opening_short WrongCapacity = (omega arith, omega arith)
opening_short WrongListLength = (omega arith, omega arith)
opening_short TooManyCommands = (omega arith, omega arith)
opening_short WrongLength = (omega arith, omega arith)
opening_short WrongChain = (omega arith, omega arith)
opening_short WrongSlot = (omega arith, omega arith)
opening_short (WrongCommand first) = command_short first.reason

advance_short : (reason : AdvanceReason) → Short (Controller.refusal_for reason)
advance_short WrongListLengths = (omega arith, omega arith)
advance_short UnknownThread = (omega arith, omega arith)
advance_short WrongState = (omega arith, omega arith)

-- so a refused call's number is printed, and else what is left
refused_short : (text : Lists → List ℕ) (o : CallOutcome) (r : Refusal) → Short r → r ≡ refusal_in o → (r.number < 100) × (printed text o ≡ refusal r.number)
refused_short text o r short e = (short.1, printed_refused text o r e short.0)

pub open_refused : (text : Lists → List ℕ) (o : CallOutcome) (answer : Result Unit OpeningReason) (reason : OpeningReason) (r : Refusal) → answer ≡ Err reason
    → opening_refusal answer ≡ refusal_in o → r ≡ Opening.refusal_for reason → (r.number < 100) × (printed text o ≡ refusal r.number)
open_refused text o answer reason r was e is = rw is (refused_short text o _ (opening_short reason) (sym (ap opening_refusal was) ∙ e))

pub open_accepted : (text : Lists → List ℕ) (o : CallOutcome) (l left : Lists) (answer : Result Unit OpeningReason) (x : Unit) → Numbered o → answer ≡ Ok x
    → opening_refusal answer ≡ refusal_in o → left ≡ kept o l → printed text o ≡ text left
open_accepted text o l left answer x numbered was e k =
    printed_accepted text o l left numbered (ap (λ (r : Refusal). r.number) (sym e ∙ ap opening_refusal was)) k

pub advance_refused : (text : Lists → List ℕ) (o : CallOutcome) (answer : Result Unit AdvanceReason) (reason : AdvanceReason) (r : Refusal) → answer ≡ Err reason
    → advance_refusal answer ≡ refusal_in o → r ≡ Controller.refusal_for reason → (r.number < 100) × (printed text o ≡ refusal r.number)
advance_refused text o answer reason r was e is = rw is (refused_short text o _ (advance_short reason) (sym (ap advance_refusal was) ∙ e))

pub advance_accepted : (text : Lists → List ℕ) (o : CallOutcome) (l left : Lists) (answer : Result Unit AdvanceReason) (x : Unit) → Numbered o → answer ≡ Ok x
    → advance_refusal answer ≡ refusal_in o → left ≡ kept o l → printed text o ≡ text left
advance_accepted text o l left answer x numbered was e k =
    printed_accepted text o l left numbered (ap (λ (r : Refusal). r.number) (sym e ∙ ap advance_refusal was)) k

-- ---- what is lent

-- an opening looks at the lengths of the lent lists alone
open_by_lengths : (size workers capacity : ℕ) (commands : List ℕ) (source : Source) (l m : Lists) → length l.state ≡ length m.state → length l.answers ≡ length m.answers
    → length l.keys ≡ length m.keys → length l.chutes ≡ length m.chutes → length l.image ≡ length m.image
    → open_on size workers capacity commands source l ≡ open_on size workers capacity commands source m
unfolding open_on lengths_fit image_fits
open_by_lengths size workers capacity commands source l m state answers keys chutes image = rw (state, answers, keys, chutes, image)

-- and not even at these where the capacity is above 4,096
open_past : (size workers capacity : ℕ) (commands : List ℕ) (source : Source) (l m : Lists) → 4096 < capacity
    → open_on size workers capacity commands source l ≡ open_on size workers capacity commands source m
unfolding open_on
open_past size workers capacity commands source l m past = rw (le-leb 1 capacity (omega arith), lt-leb capacity 4096 past)

state_length_lem : state_length ≡ 4718
unfolding state_length
state_length_lem = refl

-- so lists of zeros that are as long as asked may stand for those that are lent
pub lent_as_zeros : (size workers capacity count : ℕ) (commands : List ℕ) (source : Source) (l : Lists) → length l.state ≡ 4718 → length l.answers ≡ count
    → length l.keys ≡ min capacity 4096 → length l.chutes ≡ min capacity 4096 → length l.image ≡ image_length (min capacity 4096)
    → open_on size workers capacity commands source l ≡ open_on size workers capacity commands source (zeros capacity count)
unfolding zeros empty_image
lent_as_zeros size workers capacity count commands source l state answers keys chutes image =
    below_or_past 4096 capacity
    (λ past. open_past size workers capacity commands source l _ past)
    (λ within.
    let room = length-replicate {A = ℕ} capacity 0 in
    let small : min capacity 4096 ≡ capacity = omega arith in
    open_by_lengths size workers capacity commands source l _
    (state ∙ sym state_length_lem ∙ sym (length-replicate state_length 0))
    (answers ∙ sym (length-replicate count 0))
    (omega arith)
    (omega arith)
    (image ∙ ap image_length small ∙ sym (length-replicate (image_length capacity) 0)))

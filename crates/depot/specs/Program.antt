-- What the program writes, from what it reads: document 01, "The program `depot`". Each definition quotes its sentence. Assumes nothing.
use Rattle.std.specs.Prelude.{ℕ, zero, suc, ◌+◌, ◌*◌, ◌/◌, ◌%◌, cond, ◌||◌, List, [], ◌∷◌, ◌++◌, length, get_or, take, drop, replicate, ltb}
use Rattle.std.proofs.Math.Option.{Option, none, some}
use Rattle.command.specs.declared.Kind.{Kind}
use Rattle.command.specs.declared.Kind.TheVariants.{Insert, Delete, Read, Update, Workers, Checkpoint}
use Rattle.command.specs.Read.{kind_of}
use Rattle.model.specs.Graph.{chain_from}
use Rattle.model.specs.Image.{empty_image}
use Rattle.model.specs.Step.{State}
use Rattle.byte_fields.specs.Bytes.{number_at, fields}
use Rattle.state_bytes.specs.Layout.{Lists, all_lists, state_length, state_in}
use Rattle.state_bytes.specs.Outcome.{CallOutcome, accepted, refused}
use Rattle.opening.specs.Calls.{nothing, open_on}
use Rattle.controller.specs.Calls.{advance_on}
use Rattle.depot.specs.Text.{ascii}

-- ---- words

-- a number in decimal, without leading zeros: at most k digits, and n + 1 are enough for n
unfoldable pub decimal_within : ℕ → ℕ → List ℕ
decimal_within zero n = []
decimal_within (suc k) n = cond (ltb n 10) ((48 + n) ∷ []) (decimal_within k (n / 10) ++ ((48 + n % 10) ∷ []))

unfoldable pub decimal : ℕ → List ℕ
decimal n = decimal_within (suc n) n

abbrev pub space : List ℕ
space = ascii " "

abbrev pub newline : List ℕ
newline = ascii "\n"

abbrev pub kind_name : Kind → List ℕ
kind_name Insert = ascii "insert"
kind_name Delete = ascii "delete"
kind_name Read = ascii "read"
kind_name Update = ascii "update"
kind_name Workers = ascii "workers"
kind_name Checkpoint = ascii "checkpoint"

-- nothing for none, which no command of an accepted list has
abbrev pub name_of : Option Kind → List ℕ
name_of none = []
name_of (some kind) = kind_name kind

-- ---- lines

-- "A refusal prints `refused` and the number.": place and character are not printed
unfoldable pub refusal : ℕ → List ℕ
refusal n = ascii "refused " ++ decimal n ++ newline

-- "Else one line a command: place, kind, identifier, answer": the identifier's 13 characters stand as in the input; "The program prints
-- `workers` for the kind" (02, A.2) and "prints `checkpoint`" (A.3)
unfoldable pub command_line : ℕ → List ℕ → ℕ → List ℕ
command_line place command answer =
    decimal place ++ space ++ name_of (kind_of (get_or command 0 0)) ++ space ++ take 13 (drop 1 command) ++ space ++ decimal answer ++ newline

-- the commands' lines one after the other; the places are 1, 2, 3 and on
unfoldable pub command_lines : List ℕ → List ℕ → List ℕ
command_lines commands answers =
    fields (length commands / 16) (λ i. command_line (suc i) (take 16 (drop (16 * i) commands)) (get_or answers i 0))

-- "then `store`, entries used, `chain`, records linked"
unfoldable pub totals : State → List ℕ
totals s = ascii "store " ++ decimal s.service.store.used ++ ascii " chain " ++ decimal (length (chain_from 150 0 s.graph)) ++ newline

-- all lines, from the lists that the calls leave
unfoldable pub report : List ℕ → Lists → List ℕ
report commands l = command_lines commands l.answers ++ totals (state_in l)

-- ---- the calls

-- a refusal, or else the text of the lists that a call leaves
unfoldable pub printed : (Lists → List ℕ) → CallOutcome → List ℕ
printed text (accepted l) = text l
printed text (refused r) = refusal r.number

-- performs a schedule in opened lists
unfoldable pub advanced : List ℕ → List ℕ → Lists → List ℕ
advanced commands schedule l = printed (report commands) (advance_on l commands schedule)

-- lent lists of zeros, as long as the layout, the room and the command count ask
unfoldable pub zeros : ℕ → ℕ → Lists
zeros capacity count = all_lists (replicate state_length 0) (replicate capacity 0) (replicate capacity 0) (replicate count 0) (empty_image capacity)

-- ---- the program

-- "graph size (1 byte), workers (1), room (2, high first), command count (2, high first), the commands, then a dealing to the end"
abbrev pub size_of : List ℕ → ℕ
size_of input = get_or input 0 0

abbrev pub workers_of : List ℕ → ℕ
workers_of input = get_or input 1 0

abbrev pub capacity_of : List ℕ → ℕ
capacity_of input = number_at 2 2 input

abbrev pub count_of : List ℕ → ℕ
count_of input = number_at 2 4 input

abbrev pub commands_of : List ℕ → List ℕ
commands_of input = take (16 * count_of input) (drop 6 input)

abbrev pub schedule_of : List ℕ → List ℕ
schedule_of input = drop (6 + 16 * count_of input) input

-- what opening answers, in lists of its own and from no image
abbrev pub opening : List ℕ → CallOutcome
opening input = open_on (size_of input) (workers_of input) (capacity_of input) (commands_of input) nothing (zeros (capacity_of input) (count_of input))

unfoldable pub performed : List ℕ → List ℕ
performed input = printed (advanced (commands_of input) (schedule_of input)) (opening input)

-- "Input over 65,536 bytes is refused 5, before any other test. Next, input of fewer than 6 bytes, or ending before the end of the last
-- counted command, is refused 4. Then come opening's tests, and last 11."
unfoldable pub output : List ℕ → List ℕ
output input =
    cond (ltb 65536 (length input)) (refusal 5)
    (cond (ltb (length input) 6 || ltb (length input) (6 + 16 * count_of input)) (refusal 4) (performed input))

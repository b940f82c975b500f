-- What holds of every command and list that is read. Statements only: `proofs/Laws.antt` proves them. Assumes nothing.
use Rattle.std.specs.Prelude.{ℕ, ◌+◌, ◌*◌, ◌≤◌, ◌<◌, ◌≡◌, true, false, ◌⊎◌, List, [], ◌∷◌, length, get_or, take, drop}
use Rattle.std.proofs.Math.Option.{some}
use Rattle.s10.specs.Refusal.{Refusal}
use Rattle.s10.specs.Text.{largest_key}
use Rattle.s10.specs.Outcome as Identifier
use Rattle.command.specs.declared.Kind.{Kind}
use Rattle.command.specs.declared.Kind.TheVariants.{Read, Update, Workers, Checkpoint}
use Rattle.command.specs.declared.Command.{Command}
use Rattle.command.specs.Read.{CommandOutcome, accepted, refused, kind_of, kind_number, chute_fits, read_identifier, read_command, readings, all_accepted, list_refused, first_refusal, command_in}
use Rattle.command.specs.Dependent.{has_item, is_insert_or_delete, are_dependent}

-- Of two commands each depends on the other, or neither does.
abbrev pub DependenceIsSymmetric : Type 0
DependenceIsSymmetric = (a b : Command) → are_dependent a b ≡ are_dependent b a

-- The pairs that the documents name, one sentence after another; with the symmetry these are all pairs.
pub record DependentPairs : Type 0 where
  -- "inserts and deletes depend on one another"
  pub writers : (a b : Command) → is_insert_or_delete a.kind ≡ true → is_insert_or_delete b.kind ≡ true → are_dependent a b ≡ true
  -- "and on any command for their own key"
  pub own_key : (a b : Command) → is_insert_or_delete a.kind ≡ true → a.key ≡ b.key → are_dependent a b ≡ true
  -- "reads and updates of other keys are independent of them", and of one another
  pub other_keys : (a b : Command) → has_item a.kind ≡ true → (b.kind ≡ Update) ⊎ (b.kind ≡ Read) → (a.key ≡ b.key → ⊥) → are_dependent a b ≡ false
  -- "two updates of one key; an update and a read of one key"
  pub updates : (a b : Command) → a.kind ≡ Update → (b.kind ≡ Update) ⊎ (b.kind ≡ Read) → a.key ≡ b.key → are_dependent a b ≡ true
  -- "All other pairs are independent": two reads of one key
  pub reads : (a b : Command) → a.kind ≡ Read → b.kind ≡ Read → are_dependent a b ≡ false
  -- kind 5 "is dependent on every command" (02, A.2)
  pub workers : (a b : Command) → a.kind ≡ Workers → are_dependent a b ≡ true
  -- kind 6 "is dependent on every command" (02, A.3)
  pub checkpoints : (a b : Command) → a.kind ≡ Checkpoint → are_dependent a b ≡ true

-- A kind is that of its number.
abbrev pub KindOfItsNumber : Type 0
KindOfItsNumber = (kind : Kind) → kind_of (kind_number kind) ≡ some kind

-- An accepted command carries a chute that fits its kind.
abbrev pub AcceptedChuteFits : Type 0
AcceptedChuteFits = (part : List ℕ) (command : Command) → read_command part ≡ accepted command → chute_fits command.kind command.chute ≡ true

-- An accepted command's chute is at most the last, 0 for none.
abbrev pub AcceptedChuteIsAtMostLast : Type 0
AcceptedChuteIsAtMostLast = (part : List ℕ) (command : Command) → read_command part ≡ accepted command → command.chute ≤ 512

-- An accepted command's key is at most the largest.
abbrev pub AcceptedKeyIsAtMostLargest : Type 0
AcceptedKeyIsAtMostLargest = (part : List ℕ) (command : Command) → read_command part ≡ accepted command → command.key ≤ largest_key

-- An accepted command is the one that its part has untested.
abbrev pub AcceptedAsUntested : Type 0
AcceptedAsUntested = (part : List ℕ) (command : Command) → read_command part ≡ accepted command → command_in part ≡ command

-- "0 with any refusal but 8, 9 and 13": a refusal that names a character is the identifier's own.
abbrev pub CharacterIsTheIdentifiers : Type 0
CharacterIsTheIdentifiers =
    (part : List ℕ) (r : Refusal) → read_command part ≡ refused r → (r.character ≡ 0 → ⊥)
    → (kind : Kind) × (kind_of (get_or part 0 0) ≡ some kind) × (read_identifier kind (take 13 (drop 1 part)) ≡ Identifier.refused r)

-- every reading is accepted
abbrev pub AllAccepted : List CommandOutcome → Type 0
AllAccepted [] = Unit {0}
AllAccepted (accepted command ∷ rest) = AllAccepted rest
AllAccepted (refused r ∷ rest) = ⊥

-- A list has no refusal exactly if every reading is accepted.
abbrev pub NoRefusalIsAllAccepted : Type 0
NoRefusalIsAllAccepted =
    ((place : ℕ) (rs : List CommandOutcome) → first_refusal place rs ≡ all_accepted → AllAccepted rs)
    × ((place : ℕ) (rs : List CommandOutcome) → AllAccepted rs → first_refusal place rs ≡ all_accepted)

-- A refused command begins inside the list.
abbrev pub RefusedBeginsInside : Type 0
RefusedBeginsInside = (list : List ℕ) (r : Refusal) → first_refusal 1 (readings list) ≡ list_refused r → r.place * 16 < length list + 16

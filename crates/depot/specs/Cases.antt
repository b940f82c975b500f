-- The marked cases (a) to (l) of document 01, as one table: the definitions of identifiers, dependence, serial run and steps on the values
-- that the document names, the program's whole text on its example, and the turns that the example needs. `proofs/Cases.antt` proves it.
-- Assumes nothing.
use Rattle.std.specs.Prelude.{ℕ, ◌+◌, ◌≡◌, true, false, List, [], ◌∷◌, ◌++◌, length, take, replicate}
use Rattle.s10.specs.Text.{check_digit, largest_key, digits}
use Rattle.s10.specs.Outcome.{read_text}
use Rattle.s10.specs.Outcome as Identifier
use Rattle.command.specs.declared.Kind.{Kind}
use Rattle.command.specs.declared.Kind.TheVariants.{Insert, Read, Update}
use Rattle.command.specs.declared.Command.{Command}
use Rattle.command.specs.Dependent.{are_dependent}
use Rattle.model.specs.declared.Thread.TheVariants.{Idle, Clearing}
use Rattle.model.specs.Graph.{chain_from}
use Rattle.model.specs.Serial.{Entry, served, serve}
use Rattle.model.specs.Store.{lay_out, look_up}
use Rattle.model.specs.Service.{Write, write, write_kind}
use Rattle.model.specs.Step.{State, node}
use Rattle.depot.specs.Text.{ascii}
use Rattle.depot.specs.Program.{output}
use Rattle.depot.specs.Reached.{reached}

unfoldable pub command : Kind → ℕ → ℕ → Command
command kind key chute = record { kind = kind; key = key; chute = chute }

-- a full store: room for one entry, item 1 with chute 9
unfoldable pub full : List Entry
full = record { key = 1; chute = 9 } ∷ []

-- the same with another chute
unfoldable pub corrected : List Entry
corrected = record { key = 1; chute = 7 } ∷ []

-- what the steps write for a command in that store, after looking its key up
unfoldable pub written_in_full : Command → Write
written_in_full c = write_kind c.kind 1 c.key c.chute (look_up c.key (lay_out 1 full)) (lay_out 1 full)

-- "Input: size 2, workers 1, room 4, count 2; insert AA000000005AA chute 7; read the same; then 5 bytes 0 and 15 bytes 1."; "the whole run in
-- document 01 now needs 14 bytes 1 where it had 15" (02, A.8)
unfoldable pub input : List ℕ
input =
    (2 ∷ 1 ∷ 0 ∷ 4 ∷ 0 ∷ 2 ∷ 1 ∷ ascii "AA000000005AA") ++ (0 ∷ 7 ∷ 3 ∷ ascii "AA000000005AA") ++ (0 ∷ 0 ∷ []) ++ replicate 5 0 ++ replicate 14 1

-- the same with its first n turns: 38 bytes stand before the turns
abbrev pub stopped : ℕ → List ℕ
stopped n = take (38 + n) input

-- the state that they reach
abbrev pub after : ℕ → State
after n = reached (stopped n)

pub record Marked : Type 0 where
  -- "serial 00000000 has check digit 5"
  pub a : check_digit (digits 8 0) ≡ 5
  -- "00000008 has 0"
  pub b : check_digit (digits 8 8) ≡ 0
  -- "12345678 has 5"
  pub c : check_digit (digits 8 12345678) ≡ 5
  -- "AA000000005AA is key 0"
  pub d : read_text (ascii "AA000000005AA") ≡ Identifier.accepted 0
  -- "ZZ999999995ZZ is the largest key"
  pub e : read_text (ascii "ZZ999999995ZZ") ≡ Identifier.accepted largest_key
  -- "two reads of one key are independent"
  pub f : are_dependent (command Read 1 0) (command Read 1 0) ≡ false
  -- "an update and a read of one key are dependent"
  pub g : are_dependent (command Update 1 7) (command Read 1 0) ≡ true
  -- "an insert and a read of another key": "becomes independent" (02, A.5)
  pub h : are_dependent (command Insert 1 7) (command Read 2 0) ≡ false
  -- "insert of a present item into a full store": "becomes 1004, with the chute changed even in a full store" (02, A.7), in the serial run and as
  -- the steps write it
  pub i : (serve 1 (command Insert 1 7) full ≡ served 1004 corrected) × (written_in_full (command Insert 1 7) ≡ write 1004 (lay_out 1 corrected))
  -- "of an absent one: 1003"
  pub j : (serve 1 (command Insert 2 7) full ≡ served 1003 full) × (written_in_full (command Insert 2 7) ≡ write 1003 (lay_out 1 full))
  -- "the run above": "Output, whole"
  pub k : output input ≡ ascii "1 insert AA000000005AA 1000\n2 read AA000000005AA 7\nstore 1 chain 0\n"
  -- "the same stopped after 9 turns: answers 1000 and 0, store 1, chain 2"
  pub l : output (stopped 9) ≡ ascii "1 insert AA000000005AA 1000\n2 read AA000000005AA 0\nstore 1 chain 2\n"
  -- "now needs 14 bytes 1": they leave every party idle; 13 leave worker 1 clearing, and 12 its record linked
  pub needed : ((after 19).threads 0 ≡ Idle) × ((after 19).threads 1 ≡ Idle) × ((after 18).threads 1 ≡ Clearing (node 0) (node 2)) × (length (chain_from 150 0 (after 17).graph) ≡ 1)

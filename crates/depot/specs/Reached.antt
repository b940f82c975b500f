-- What the program prints, by the model alone: an input that passes every test prints the answers, the entries and the chain of the state that
-- its schedule reaches, and the serial run's once every command is removed.
-- Statements only: `proofs/Reached.antt` proves them. Assumes nothing.
use Rattle.std.specs.Prelude.{ℕ, suc, ◌+◌, ◌*◌, ◌≤◌, ◌≡◌, true, List, [], ◌++◌, length}
use Rattle.command.specs.Read.{commands_in}
use Rattle.model.specs.Setup.{Setup}
use Rattle.model.specs.Step.{State, opened, steps}
use Rattle.model.specs.Serial.{serial_answers, serial_entries}
use Rattle.model.specs.Statement.{all_within, removed, EachCommand}
use Rattle.byte_fields.specs.Bytes.{tabulate}
use Rattle.state_bytes.specs.Layout.{Lists}
use Rattle.state_bytes.specs.Outcome.{accepted}
use Rattle.opening.specs.Calls.{nothing, setup_of}
use Rattle.depot.specs.Text.{ascii}
use Rattle.depot.specs.Program.{decimal, command_lines, totals, size_of, workers_of, capacity_of, count_of, commands_of, schedule_of, opening, output}

-- the setup of an input
abbrev pub input_setup : List ℕ → Setup
input_setup input = setup_of (size_of input) (workers_of input) (capacity_of input) (commands_of input) nothing

-- the state that the schedule reaches from the opening
abbrev pub reached : List ℕ → State
reached input = steps (input_setup input) (schedule_of input) (opened (input_setup input))

-- what an input passes: the program's own tests, the opening's, and 11
pub record InputPasses (input : List ℕ) : Type 0 where
  pub short : length input ≤ 65536
  pub whole : 6 + 16 * count_of input ≤ length input
  pub lists : Lists
  pub opens : opening input ≡ accepted lists
  pub named : all_within (input_setup input).largest (schedule_of input) ≡ true

-- its lines are those of the state reached
abbrev pub PrintsReached : Type 0
PrintsReached =
    (input : List ℕ) → InputPasses input
    → output input ≡ command_lines (commands_of input) (tabulate (length (input_setup input).commands) (λ i. (reached input).service.answers (suc i))) ++ totals (reached input)

-- Demand 3 in what is printed: once every command is removed, whatever turns were dealt, the answers are the serial run's, `store` gives the
-- number of its entries, and no record is linked.
abbrev pub PrintsSerial : Type 0
PrintsSerial =
    (input : List ℕ) → InputPasses input → EachCommand (input_setup input) (λ c. removed (input_setup input) c (schedule_of input) (opened (input_setup input)) ≡ true)
    → output input ≡ command_lines (commands_of input) (serial_answers (capacity_of input) [] (commands_in (commands_of input)))
    ++ (ascii "store " ++ decimal (length (serial_entries (capacity_of input) [] (commands_in (commands_of input)))) ++ ascii " chain 0\n")

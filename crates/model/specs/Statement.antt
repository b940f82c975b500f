-- Demand 3 for the model: whatever the order of steps, each answer is the serial run's, the last table is the serial run's, and no order
-- can block for good; with document 02's A.10, the table and the image at any moment. Cites Serial, Service, Step and Moment alone; proved in
-- proofs/. Assumes nothing.
use Rattle.std.specs.Prelude.{ℕ, ◌≤◌, ◌≡◌, Bool, true, false, cond, ◌&&◌, ◌||◌, List, [], ◌∷◌, ◌++◌, length, get_or, eqb, leb}
use Rattle.std.proofs.Math.Option.{some}
use Rattle.command.specs.declared.Command.{Command}
use Rattle.command.specs.Read.{chute_fits}
use Rattle.command.specs.Count.{largest_count}
use Rattle.model.specs.declared.Thread.{Thread}
use Rattle.model.specs.declared.Thread.TheVariants.{Idle, Loading, Searching, Holding, LookedUp, Written, Walking, Clearing}
use Rattle.s10.specs.Text.{largest_key}
use Rattle.model.specs.Serial.{Stored, serial_answers, serial_entries}
use Rattle.model.specs.Store.{lay_out}
use Rattle.model.specs.Setup.{Setup, command_at}
use Rattle.model.specs.Service.{in_one_step}
use Rattle.model.specs.Step.{State, command_of, opened, step, steps}
use Rattle.model.specs.Moment.{table_of, last_checkpoint, image_at}

-- what an accepted opening has been tested for, as far as the theorem needs it
pub record Accepted (o : Setup) : Type 0 where
  pub size : (1 ≤ o.size) × (o.size ≤ 150)
  pub workers : (1 ≤ o.workers) × (o.workers ≤ 64)
  pub largest : o.largest ≡ largest_count o.workers o.commands
  pub capacity : (1 ≤ o.capacity) × (o.capacity ≤ 4096)
  pub count : length o.commands ≤ 4096
  pub entries : Stored o.capacity o.entries
  pub chutes : (c : ℕ) (cmd : Command) → command_at o.commands c ≡ some cmd → chute_fits cmd.kind cmd.chute ≡ true
  pub keys : (c : ℕ) (cmd : Command) → command_at o.commands c ≡ some cmd → cmd.key ≤ largest_key

-- every step of a schedule names a thread up to a worker count
unfoldable pub all_within : ℕ → List ℕ → Bool
all_within workers [] = true
all_within workers (t ∷ ts) = leb t workers && all_within workers ts

-- The command whose answer a thread's next step writes, 0 for none: "A command's writing turn is the one at which the steps write its
-- answer"; a read's is that of its lookup (02, A.8).
unfoldable pub writes : Setup → Thread → State → ℕ
unfolding in_one_step command_of
writes o Idle s = 0
writes o (Loading at own) s = 0
writes o (Searching at) s = 0
writes o (Holding own) s = cond (in_one_step (command_of o s.graph own.0)) (s.graph.seq own.0) 0
writes o (LookedUp own found) s = s.graph.seq own.0
writes o (Written own) s = 0
writes o (Walking at own) s = 0
writes o (Clearing at own) s = 0

-- The command whose node a thread's next step returns, 0 for none: "it is removed by the turn at which they return its record to the
-- unused chain".
unfoldable pub returns : Thread → State → ℕ
returns Idle s = 0
returns (Loading at own) s = 0
returns (Searching at) s = 0
returns (Holding own) s = 0
returns (LookedUp own found) s = 0
returns (Written own) s = 0
returns (Walking at own) s = 0
returns (Clearing at own) s = cond (eqb (s.graph.next at.0) 0) (s.graph.seq own.0) 0

-- whether some step of a schedule, begun in a state, writes the answer of command c, or returns its node
module _ (o : Setup) (c : ℕ) where
  unfoldable pub wrote : List ℕ → State → Bool
  wrote [] s = false
  wrote (t ∷ ts) s = eqb (writes o (s.threads t) s) c || wrote ts (step o t s)

  unfoldable pub removed : List ℕ → State → Bool
  removed [] s = false
  removed (t ∷ ts) s = eqb (returns (s.threads t) s) c || removed ts (step o t s)

-- every command, by its place from 1
abbrev pub EachCommand : Setup → (ℕ → Type 0) → Type 0
EachCommand o P = (c : ℕ) → 1 ≤ c → c ≤ length o.commands → P c

-- the serial run's answer to command c
unfoldable pub serial_answer : Setup → ℕ → ℕ
serial_answer o c = get_or (0 ∷ serial_answers o.capacity o.entries o.commands) c 0

-- the five parts, after a schedule
pub record Holds (o : Setup) (ts : List ℕ) : Type 0 where
  -- "Each answer is 0 before its command's writing turn, and from that turn on the one that running the whole list [..] gives."
  pub answer : EachCommand o (λ c. (steps o ts (opened o)).service.answers c ≡ cond (wrote o c ts (opened o)) (serial_answer o c) 0)
  -- "When all commands are removed, every answer is given and the chute table is that run's, entry for entry."
  pub table : EachCommand o (λ c. removed o c ts (opened o) ≡ true) →
      EachCommand o (λ c. 1 ≤ (steps o ts (opened o)).service.answers c) × ((steps o ts (opened o)).service.store ≡ lay_out o.capacity (serial_entries o.capacity o.entries o.commands))
  -- "And some further dealing is accepted and leaves every command removed and every party idle"
  pub finish : (more : List ℕ) × (all_within o.largest more ≡ true) × EachCommand o (λ c. removed o c (ts ++ more) (opened o) ≡ true)
      × ((t : ℕ) → t ≤ o.largest → (steps o (ts ++ more) (opened o)).threads t ≡ Idle)
  -- "the store shall equal what the commands already written give when run alone in delivery order, from the opening store or the image"
  pub moment : (steps o ts (opened o)).service.store ≡ table_of o (λ c. wrote o c ts (opened o))
  -- "the image written holds what the commands delivered before the last written kind 6 leave, with its place, and zeros before any"
  pub image : (steps o ts (opened o)).service.image ≡ image_at o (last_checkpoint o (λ c. wrote o c ts (opened o)))

-- the statement: "A dealing may name parties up to the largest count of the opening and the list" (02, A.2)
abbrev pub Demand3 : Type 0
Demand3 = (o : Setup) → Accepted o → (ts : List ℕ) → all_within o.largest ts ≡ true → Holds o ts

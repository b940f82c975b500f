-- What the rounds of a list promise: document 02, A.9. Statements only: `proofs/Promise.antt` proves them. Assumes nothing.
use Rattle.std.specs.Prelude.{ℕ, ◌≤◌, ◌<◌, ◌≡◌, true, List, length, get_or}
use Rattle.std.proofs.Math.Option.{some}
use Rattle.std.proofs.Math.ListN.{get_elem?}
use Rattle.command.specs.declared.Command.{Command}
use Rattle.command.specs.Dependent.{are_dependent}
use Rattle.command.specs.Read.{commands_in}
use Rattle.rounds.specs.Rounds.{rounds_of, round_count}
use Rattle.rounds.specs.Calls.{found, rounds_on}

-- An assignment gives a command, by its place counted from 0, a round. It keeps the rule if rounds count from 1 and "Dependent commands stand in
-- different rounds, the earlier delivered in the earlier round".
pub record Keeps (cs : List Command) (round : ℕ → ℕ) : Type 0 where
  pub from1 : (i : ℕ) → i < length cs → 1 ≤ round i
  pub rule : (i j : ℕ) (a b : Command) → i < j → get_elem? cs i ≡ some a → get_elem? cs j ≡ some b → are_dependent a b ≡ true → round i < round j

-- It uses n rounds or more: there are n commands, no two of which it puts into one round.
pub record Uses (n : ℕ) (cs : List Command) (round : ℕ → ℕ) : Type 0 where
  pub place : ℕ → ℕ
  pub inside : (k : ℕ) → k < n → place k < length cs
  pub apart : (j k : ℕ) → j < k → k < n → round (place j) < round (place k)

-- The rounds of a list of commands, and their number:
pub record Needed (cs : List Command) (rounds : List ℕ) (n : ℕ) : Type 0 where
  -- "a lent list of one entry a command", which keeps the rule
  pub long : length rounds ≡ length cs
  pub keeps : Keeps cs (λ i. get_or rounds i 0)
  -- "and the number of rounds": those from 1 to it have a command each, and no other has one
  pub within : (i : ℕ) → i < length cs → get_or rounds i 0 ≤ n
  pub filled : (r : ℕ) → 1 ≤ r → r ≤ n → (i : ℕ) × (i < length cs) × (get_or rounds i 0 ≡ r)
  -- "No assignment keeping this rule uses fewer rounds"
  pub none_fewer : (round : ℕ → ℕ) → Keeps cs round → Uses n cs round
  -- "and none puts any command in an earlier one"
  pub none_earlier : (round : ℕ → ℕ) → Keeps cs round → (i : ℕ) → i < length cs → get_or rounds i 0 ≤ round i

abbrev pub RoundsAreNeeded : Type 0
RoundsAreNeeded = (cs : List Command) → Needed cs (rounds_of cs) (round_count cs)

-- over calls: what every accepted call of `rounds::find` leaves in the list that it was lent, and answers
abbrev pub RoundsOverCalls : Type 0
RoundsOverCalls = (commands : List ℕ) (lent : ℕ) (rounds : List ℕ) (n : ℕ) → rounds_on commands lent ≡ found rounds n → Needed (commands_in commands) rounds n

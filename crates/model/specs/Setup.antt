-- What an opening fixes, and its commands by their places. Assumes nothing.
use Rattle.std.specs.Prelude.{ℕ, zero, suc, Bool, false, List, []}
use Rattle.std.proofs.Math.Option.{Option, none, some}
use Rattle.std.proofs.Math.ListN.{get_elem?}
use Rattle.command.specs.declared.Command.{Command}
use Rattle.command.specs.Dependent.{are_dependent}
use Rattle.model.specs.Serial.{Entry}

-- graph size, worker count, "the largest count of the opening and the list" (02, A.2), capacity ("store room"), the entries that the
-- store begins with, and commands
pub record Setup : Type 0 where
  pub size : ℕ
  pub workers : ℕ
  pub largest : ℕ
  pub capacity : ℕ
  pub entries : List Entry
  pub commands : List Command

-- the same with an empty store at first
abbrev pub without_entries : Setup → Setup
without_entries o = record { size = o.size; workers = o.workers; largest = o.largest; capacity = o.capacity; entries = []; commands = o.commands }

-- the command of a place; place 0, and a place past the last, have none
unfoldable pub command_at : List Command → ℕ → Option Command
command_at cs zero = none
command_at cs (suc i) = get_elem? cs i

-- no command depends on none
unfoldable pub both_dependent : Option Command → Option Command → Bool
both_dependent none b = false
both_dependent (some a) none = false
both_dependent (some a) (some b) = are_dependent a b

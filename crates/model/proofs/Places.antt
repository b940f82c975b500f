-- The commands of a list by their places. Assumes nothing.
use Rattle.std.specs.Prelude.{ℕ, zero, suc, ◌≤◌, ◌≡◌, refl, List, [], ◌∷◌, length}
use Rattle.std.proofs.Common.{arith}
use Rattle.std.proofs.Math.Option.{none, some}
use Rattle.command.specs.declared.Command.{Command}
use Rattle.model.specs.Setup.{command_at}
use Rattle.command.proofs.Tests.{none_some}

-- every place from 1 to the last has a command, and no other
pub some_command : (cs : List Command) (c : ℕ) → 1 ≤ c → c ≤ length cs → (cmd : Command) × (command_at cs c ≡ some cmd)
unfolding command_at
some_command cs zero l h = absurd (omega arith)
some_command [] (suc i) l h = absurd (omega arith)
some_command (c ∷ cs) (suc zero) l h = (c, refl)
some_command (c ∷ cs) (suc (suc i)) l h = some_command cs (suc i) (omega arith) (omega arith)

pub command_place : (cs : List Command) (c : ℕ) (cmd : Command) → command_at cs c ≡ some cmd → 1 ≤ c
unfolding command_at
command_place cs zero cmd e = absurd (none_some none refl e)
command_place cs (suc i) cmd e = omega arith

-- its place is at most the last
pub command_within : (cs : List Command) (c : ℕ) (cmd : Command) → command_at cs c ≡ some cmd → c ≤ length cs
unfolding command_at
command_within cs zero cmd e = omega arith
command_within [] (suc i) cmd e = absurd (none_some none refl e)
command_within (b ∷ cs) (suc zero) cmd e = omega arith
command_within (b ∷ cs) (suc (suc i)) cmd e = omega (arith, command_within cs (suc i) cmd e)

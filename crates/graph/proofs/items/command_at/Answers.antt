-- `items::command_at` meets its contract: the command's own sixteen bytes, untested. Assumes nothing.
use Prim.Native.Nat.{◌-◌, ◌*◌}
use mathlib.Core.Path.{◌≡◌}
use native.Mathlib.Omega.{arith}
use Rattle.graph.proofs.Commands.{command_is}
use Rattle.graph.proofs.items.command_at.Goals as goal

-- the bytes are the sixteen that end with the command's place
pub returns : goal.returns
returns c =
    let a = c.args in
    let size : a.place.0 * 16 - (a.place.0 * 16 - 16) ≡ 16 = omega (arith, c.requires) in
    let swap : 16 * a.place.0 ≡ a.place.0 * 16 = omega arith in
    rw (command_is a.list.now a.place.0 c.requires.0 c.requires.1, c.untested.ensures, size, swap)

-- `command::read_list` meets its contract. The loop's invariant: the first refusal of what is left is the whole list's, and so is the largest
-- count, of `largest` and the commands that are left. Assumes nothing.
use Prim.Native.Nat.{◌+◌}
use mathlib.Core.Path.{◌≡◌}
use Rattle.command.specs.Read.{readings, first_refusal, commands_in}
use Rattle.command.specs.Count.{largest_count}
use Rattle.command.proofs.read_list.Given as goal

abbrev pub invariant-loop-i : goal.invariant-loop-i
invariant-loop-i l = record {
  size : l.i-iterator.iter.size ≡ 16;
  refusal : first_refusal (l.i-iterator.count + 1) (readings l.i-iterator.iter.rest.now) ≡ first_refusal 1 (readings l.list);
  largest : largest_count l.largest (commands_in l.i-iterator.iter.rest.now) ≡ largest_count 0 (commands_in l.list);
}

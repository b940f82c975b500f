-- `opening::first_next` meets its contract. The loop's invariant: the next indexes are those of a graph of n nodes. Assumes nothing.
use Rattle.opening.proofs.FirstState.{IsFirst}
use Rattle.opening.proofs.first_next.Given as goal

abbrev pub invariant-loop-n : goal.invariant-loop-n
invariant-loop-n l = IsFirst l.n l.next

-- The loop's invariant: the commands before what the iterator has left have their rounds. Assumes nothing.
use Rattle.std.proofs.Common.{◌≡◌}
use Rattle.std.specs.Iterator.Adapters.{enumerate_count, enumerate_source}
use Rattle.std.specs.Slice.Iter.{chunks_rest, chunks_size}
use Rattle.rounds.proofs.Numbering.{Numbering}
use Rattle.rounds.proofs.number.Given as goal

abbrev pub invariant-loop-i : goal.invariant-loop-i
invariant-loop-i l =
    let left = enumerate_source l.i-iterator in
    Numbering l.list (chunks_rest left) l.rounds l.numbered (enumerate_count l.i-iterator) × (chunks_size left ≡ 16) × (goal.iterator-loop-i).can_next l.i-iterator × (goal.iterator-loop-i).is_finite l.i-iterator

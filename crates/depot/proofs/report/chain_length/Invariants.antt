-- `depot::report::chain_length` meets its contract. The loop's invariant: the nodes counted, and those behind the last of them, are the chain.
-- Assumes nothing.
use mathlib.Core.List.{[]}
use Rattle.state_bytes.specs.Layout.{lists, state_in}
use Rattle.depot.proofs.Chain.{Walked}
use Rattle.depot.proofs.report.chain_length.Given as goal

abbrev pub invariant-loop-count : goal.invariant-loop-count
invariant-loop-count l = Walked (state_in (lists l.state [] [] [])).graph l.node.0 l.count

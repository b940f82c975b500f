-- `Command::read` meets its contract: the identifier is what there is of its thirteen bytes, and the chute what is left. Assumes nothing.
use Prim.Native.Nat.{ℕ, ◌-◌, min}
use mathlib.Core.Path.{◌≡◌}
use mathlib.Core.List.{List}
use mathlib.Core.Option.{some}
use native.Mathlib.Omega.{arith}
use lib.ListN.{length, get_or, take, drop, length-drop}
use lib.Seq.{take_all}
use Rattle.std.proofs.Common.{rules}
use Rattle.command.specs.declared.Kind.{Kind}
use Rattle.command.specs.Read.{kind_of, with_kind, with_chute, read_identifier, read_command}
use Rattle.command.proofs.Parts.{part_min, drop_min}
use Rattle.command.proofs.Command.read.Goals as goal

-- a part of a known kind, by the identifier's and the chute's bytes that the code takes
taken : (part : List ℕ) (kind : Kind) (end : ℕ) → some kind ≡ kind_of (get_or part 0 0) → end ≡ min 14 (length part)
    → read_command part ≡ with_chute kind (read_identifier kind (take (end - 1) (drop 1 part))) (take (length part - end) (drop end part))
unfolding with_kind read_command
taken part kind end known e =
    let rest : take (length part - end) (drop end part) ≡ drop end part = take_all (length part - end) (drop end part) (rw length-drop (omega arith)) in
    rw (rest, e, part_min 1 13 part, drop_min, ← known)

pub returns-in_err-key : goal.returns-in_err-key
unfolding with_chute
returns-in_err-key c =
    let read = taken c.args.part.now c.in_ok-kind.kind c.min-end.result (search rules) (omega arith) in
    rw (read, ← c.in_err-key.ensures) (search rules)

pub returns : goal.returns
returns c =
    let read = taken c.args.part.now c.in_ok-kind.kind c.min-end.result (search rules) (omega arith) in
    rw (read, ← c.in_ok-key.ensures) c.with_chute.ensures

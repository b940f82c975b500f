-- `service::write` meets its contract: what `serve` answered is stored at the command's place. Assumes nothing.
use Prim.Native.Nat.{◌≤◌}
use mathlib.Core.Path.{ap}
use native.Mathlib.Omega.{arith}
use borrow.Author.Rules.{rules}
use lib.ListN.{length}
use Rattle.graph.specs.Items.{item_of}
use Rattle.graph.proofs.Writing.{writes_none, writes_served}
use Rattle.graph.proofs.service.write.Goals as goal

pub overflow_sub-answers : goal.overflow_sub-answers
overflow_sub-answers c = (c.requires _ (ap item_of c.in-Some.is)).0

pub offset_bounds-answers-place : goal.offset_bounds-answers-place
offset_bounds-answers-place c =
    let within : let a = c.args in (1 ≤ a.place.0) × (a.place.0 ≤ length a.answers.now) = c.requires _ (ap item_of c.in-Some.is) in
    search rules

pub bounds-answers-place : goal.bounds-answers-place
bounds-answers-place c =
    let within : let a = c.args in (1 ≤ a.place.0) × (a.place.0 ≤ length a.answers.now) = c.requires _ (ap item_of c.in-Some.is) in
    omega (arith, within)

pub returns-in_default : goal.returns-in_default
returns-in_default c =
    let a = c.args in
    rw c.in_default.is (writes_none a.place.0 a.found a.keys.now a.chutes.now a.answers.now a.used)

pub returns : goal.returns
returns c =
    let a = c.args in
    let within : (1 ≤ a.place.0) × (a.place.0 ≤ length a.answers.now) = c.requires _ (ap item_of c.in-Some.is) in
    rw c.in-Some.is (writes_served c.in-Some.command a.place.0 a.found a.keys.now a.chutes.now a.answers.now a.used _ _ _ _ within.0 within.1 c.serve-written.ensures)

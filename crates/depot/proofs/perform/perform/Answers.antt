-- `depot::perform::perform` meets its contract: what is lent is as long as lists of zeros would be. Assumes nothing.
use native.Mathlib.Omega.{arith}
use Prim.Native.Nat.{ℕ, ◌+◌, ◌*◌, ◌≤◌, min}
use mathlib.Core.Path.{◌≡◌, sym, ap, ◌∙◌}
use mathlib.Core.List.{List}
use lib.ListN.{length, take, replicate, length-replicate}
use lib.Seq.{length-take-le}
use Rattle.model.specs.Image.{image_length}
use Rattle.state_bytes.specs.Layout.{Lists, all_lists}
use Rattle.opening.specs.Calls.{nothing, open_on}
use Rattle.depot.specs.Program.{printed, advanced, zeros}
use Rattle.depot.proofs.Outcome.{lent_as_zeros}
use Rattle.depot.proofs.perform.perform.Goals as goal

-- the first n of some zeros
zeros_long : (n most : ℕ) → n ≤ most → length (take n (replicate {A = ℕ} most 0)) ≡ n
zeros_long n most fits = length-take-le n (replicate most 0) (rw length-replicate fits)

-- what is lent
abbrev lent : ℕ → ℕ → Lists
lent entries count = all_lists (replicate 4718 0) (take entries (replicate 4096 0)) (take entries (replicate 4096 0)) (take count (replicate 4096 0)) (take (16 * (entries + 1)) (replicate 65552 0))

-- an opening of it is one of zeros
opens_as_zeros : (size workers capacity count entries : ℕ) (commands : List ℕ) → entries ≡ min capacity 4096 → count ≤ 4096
    → open_on size workers capacity commands nothing (lent entries count) ≡ open_on size workers capacity commands nothing (zeros capacity count)
unfolding image_length
opens_as_zeros size workers capacity count entries commands is few =
    lent_as_zeros size workers capacity count commands nothing (lent entries count) (length-replicate {A = ℕ} 4718 0)
    (zeros_long count 4096 few)
    (zeros_long entries 4096 (omega (arith, is)) ∙ is)
    (zeros_long entries 4096 (omega (arith, is)) ∙ is)
    (zeros_long (16 * (entries + 1)) 65552 (omega (arith, is)) ∙ ap image_length is)

pub returns-in-Ok : goal.returns-in-Ok
returns-in-Ok c =
    let a = c.args in
    let as_zeros = opens_as_zeros a.size a.workers a.capacity a.count c.min-entries.result a.commands.now c.min-entries.ensures (omega (arith, c.requires.1)) in
    rw (ap (printed (advanced a.commands.now a.schedule.now)) (sym as_zeros) ∙ c.in-Ok.ensures.done) c.put_report.ensures

pub returns-in-Err : goal.returns-in-Err
returns-in-Err c =
    let a = c.args in
    let as_zeros = opens_as_zeros a.size a.workers a.capacity a.count c.min-entries.result a.commands.now c.min-entries.ensures (omega (arith, c.requires.1)) in
    rw (ap (printed (advanced a.commands.now a.schedule.now)) (sym as_zeros) ∙ c.in-Err.ensures.refused.1) c.put_refusal.ensures

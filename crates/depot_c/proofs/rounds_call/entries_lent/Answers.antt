-- `depot_c::rounds_call::entries_lent` meets its contract. Assumes nothing.
use Prim.Native.Nat.{ℕ, ◌≤◌}
use mathlib.Core.Path.{refl}
use native.Mathlib.Omega.{arith}
use Rattle.depot_c.specs.Boundary.{UpTo}
use Rattle.depot_c.proofs.RoundsLent.{uncounted, unended, whole}
use Rattle.depot_c.proofs.rounds_call.entries_lent.Goals.{then-count-ne-KEY-via-then-count-ne-KEY, then-count-ne-KEY-via-else-count-ne-KEY+then-rounds-ne0}
use Rattle.depot_c.proofs.rounds_call.entries_lent.Goals as goal

-- one too many
wrong : (lent : ℕ) → 4097 ≤ lent → (4097 ≤ 4097) × UpTo lent 4097
wrong lent long = (omega arith, (λ few. absurd (omega arith), λ _. refl))

pub returns-then-count-ne-KEY : goal.returns-then-count-ne-KEY
returns-then-count-ne-KEY c =
    let a = c.args in
    elim c.then-count-ne-KEY.branch [
      | then-count-ne-KEY-via-then-count-ne-KEY w ↦ wrong _ (omega (arith, uncounted a.rounds a.count w.if-count-ne-KEY.true))
      | then-count-ne-KEY-via-else-count-ne-KEY+then-rounds-ne0 w ↦ wrong _ (omega (arith, unended a.rounds a.count w.if-rounds-ne0.true))
    ]

pub returns : goal.returns
returns c =
    let a = c.args in
    let is = whole a.rounds a.count (omega (arith, c.if-count-ne-KEY.false)) (omega (arith, c.if-rounds-ne0.false)) in
    (omega (arith, c.min.ensures), (λ few. omega (arith, is, c.min.ensures, few), λ many. omega (arith, is, c.min.ensures, many)))

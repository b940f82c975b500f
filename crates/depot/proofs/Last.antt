-- "Then come opening's tests, and last 11": what an opening leaves passes tests 6 and 12 of the call on it, so that only 11 is left. Assumes nothing.
use Prim.Native.Nat.{ℕ}
use mathlib.Core.Path.{◌≡◌}
use mathlib.Core.Bool.{Bool, true, false, cond, ◌&&◌}
use mathlib.Core.List.{List, []}
use native.Mathlib.Omega.{arith}
use Rattle.s10.specs.Refusal.{Refusal, plain}
use Rattle.model.specs.Statement.{all_within}
use Rattle.state_bytes.specs.Layout.{Lists, setup_in, state_fits, handed_back_fit, image_fits}
use Rattle.opening.specs.Calls.{Source, open_on}
use Rattle.state_bytes.specs.Outcome.{accepted, refused}
use Rattle.controller.specs.Calls.{advance_on}
use Rattle.controller.specs.Demand3.{lists_after}
use Rattle.opening.proofs.Accepted.{passed}
use Rattle.controller.proofs.Demand3.{demand_3_over_calls}

-- a test that fails is the only way to its number
only_by : (t : Bool) (l : Lists) (m : ℕ) (r : Refusal) → cond t (accepted l) (refused (plain m)) ≡ refused r → r ≡ plain m
only_by true l m r e = let z : ◌≡◌ {A = ℕ} 0 1 = cc in absurd (omega arith)
only_by false l m r e = cc

-- some schedule is accepted from what an opening leaves, and tests 6 and 12 do not look at the schedule
pub last_is_11 : (size workers capacity : ℕ) (commands : List ℕ) (source : Source) (lent l : Lists) → open_on size workers capacity commands source lent ≡ accepted l
    → (schedule : List ℕ) (r : Refusal) → advance_on l commands schedule ≡ refused r → r ≡ plain 11
unfolding advance_on lists_after
last_is_11 size workers capacity commands source lent l opens schedule r e =
    let finished = (demand_3_over_calls size workers capacity commands source lent l opens [] tt).finish in
    let six = passed (handed_back_fit l commands && image_fits (setup_in l.state commands).capacity l) 6 finished.2 in
    let twelve = passed (state_fits l) 12 six.1 in
    only_by (all_within (setup_in l.state commands).largest schedule) _ 11 r (rw (six.0, twelve.0) at e)

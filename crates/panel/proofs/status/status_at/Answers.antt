-- `panel::status::status_at` meets its contract: a worker past the count is idle, any other as the state has it. Assumes nothing.
use Prim.Native.Nat.{◌≤◌}
use native.Mathlib.Omega.{arith}
use lib.ListN.{get_or}
use Rattle.state_bytes.specs.Layout.{state_length, state_in}
use Rattle.panel.proofs.Showing.{past_shown, worker_shown}
use Rattle.panel.proofs.status.status_at.Goals as goal

pub returns-then-worker-largest : goal.returns-then-worker-largest
returns-then-worker-largest c l same =
    past_shown c.args.state.now (state_in l) c.args.worker c.requires.0 c.if-worker-largest.true

pub returns : goal.returns
returns c l same =
    let within : c.args.worker ≤ get_or c.args.state.now 3 0 = omega arith in
    worker_shown c.args.state.now l c.args.worker same c.requires.0 within c.requires.1 c.thread_at.ensures c.from.ensures

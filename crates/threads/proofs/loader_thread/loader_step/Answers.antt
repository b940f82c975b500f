-- `threads::loader_thread::loader_step` meets its contract, by the loader's state. Assumes nothing.
use Rattle.threads.proofs.LoaderSteps.{worker_state_waits, walk_steps}
use Rattle.threads.proofs.Readiness.{from_known, ready_beside}
use Rattle.threads.proofs.loader_thread.loader_step.Goals as goal

pub loader_walk-thread-requires : goal.loader_walk-thread-requires
loader_walk-thread-requires c =
    let within = rw c.in-Loading.is at c.requires.within in
    (c.requires.nodes, within.0, within.1)

pub returns-in-Idle : goal.returns-in-Idle
returns-in-Idle c =
    λ keys chutes image. from_known c.in-Idle.is (λ ready. c.load_next.ensures keys chutes image) (ready_beside _ _ _ c.requires keys chutes image)

pub returns-in-Loading : goal.returns-in-Loading
returns-in-Loading c =
    let does = c.loader_walk-thread.ensures in
    λ keys chutes image. from_known c.in-Loading.is
    (walk_steps _ _ c.in-Loading.at c.in-Loading.own _ _ does.steps does.within.0 does.within.1 does.same)
    (ready_beside _ _ _ c.requires keys chutes image)

pub returns-in_default : goal.returns-in_default
returns-in_default c =
    λ keys chutes image. worker_state_waits _ _ c.args.thread c.in_default.not-Idle c.in_default.not-Loading (ready_beside _ _ _ c.requires keys chutes image)

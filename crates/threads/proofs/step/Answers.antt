-- `threads::step` meets its contract: thread 0 takes the loader's step, any other a worker's. Assumes nothing.
use mathlib.Core.Path.{refl}
use mathlib.Core.List.{[]}
use lib.ListN.{length}
use Rattle.command.specs.Read.{commands_in}
use Rattle.graph.proofs.Commands.{commands_length, kept_placed}
use Rattle.threads.proofs.Readiness.{of_loader, ready_beside}
use Rattle.threads.proofs.step.Goals as goal

pub loader_step-requires : goal.loader_step-requires
loader_step-requires c =
    ready_beside _ _ _ c.requires.0 [] [] []

pub returns-then-t-eq0 : goal.returns-then-t-eq0
returns-then-t-eq0 c =
    of_loader c.if-t-eq0.true (c.loader_step.ensures c.args.keys.now c.args.chutes.now c.args.image.now)

pub worker_step-requires : goal.worker_step-requires
worker_step-requires c =
    let a = c.args in
    record {
      nodes = c.requires.0.nodes;
      first = c.requires.0.free;
      within = c.requires.0.within;
      placed = kept_placed (commands_in a.list.now) a.graph.now a.answers.now (commands_length a.list.now (length a.answers.now) c.requires.0.whole) c.requires.0.kept;
      imaged = c.requires.1;
    }

pub returns : goal.returns
returns c =
    c.worker_step.ensures c.args.list.now c.args.t c.if-t-eq0.false refl c.requires.0

-- `threads::loader_thread::load_next` meets its contract: each way to a wait is one on which the model's loader waits, and else the stores
-- are the model's load. Assumes nothing.
use mathlib.Core.Path.{◌≡◌, refl}
use mathlib.Core.Bool.{true, false}
use lib.ListN.{length}
use borrow.Author.Rules.{rules}
use borrow.Author.Tests.{le-leb, lt-leb, eq-eqb, ne_eqb}
use Rattle.threads.proofs.LoaderSteps.{blocked, blocked_if, load_waits, load_takes}
use Rattle.threads.proofs.Readiness.{ready_beside}
use Rattle.threads.proofs.loader_thread.load_next.Goals.{then-count-loaded-via-then-count-loaded, then-count-loaded-via-else-count-loaded+then-own-eq0, then-count-loaded-via-else-count-loaded+else-own-eq0+then-graph-offset0}
use Rattle.threads.proofs.loader_thread.load_next.Goals as goal

pub returns-then-count-loaded : goal.returns-then-count-loaded
returns-then-count-loaded c =
    let a = c.args in
    let tests = blocked_if (length a.answers.now) a.counters.loaded.0 a.counters.free.0 a.graph.now.locked in
    let waits : blocked (length a.answers.now) a.counters.loaded.0 a.counters.free.0 a.graph.now.locked ≡ true = elim c.then-count-loaded.branch [
      | then-count-loaded-via-then-count-loaded w ↦ tests true _ _ (le-leb _ _ w.if-count-loaded.true) refl refl
      | then-count-loaded-via-else-count-loaded+then-own-eq0 w ↦ tests false true _ (lt-leb _ _ w.if-count-loaded.false) (eq-eqb _ _ w.if-own-eq0.true) refl
      | then-count-loaded-via-else-count-loaded+else-own-eq0+then-graph-offset0 w ↦
          tests false false true (lt-leb _ _ w.if-count-loaded.false) (ne_eqb _ _ w.if-own-eq0.false) w.if-graph-offset0.true
    ] in
    λ keys chutes image. load_waits _ _ waits (ready_beside _ _ _ c.requires keys chutes image)

pub returns : goal.returns
returns c =
    let a = c.args in
    let free = blocked_if (length a.answers.now) a.counters.loaded.0 a.counters.free.0 a.graph.now.locked false false false
    (lt-leb _ _ c.if-count-loaded.false) (ne_eqb _ _ c.if-own-eq0.false) c.if-graph-offset0.false in
    λ keys chutes image. load_takes _ _ c.load-free.new.self c.load-free.result.0 c.command_at-command.result free c.load-free.ensures c.command_at-command.ensures (search rules)
    (ready_beside _ _ _ c.requires keys chutes image)

-- `panel::status::write_status` meets its contract: each pass writes the status of one more worker. Assumes nothing.
use Rattle.std.proofs.Common.{ℕ, set, subst, sym, add-one, arith}
use Rattle.panel.proofs.Entries.{Wrote, wrote_none, wrote_next, all_left}
use Rattle.panel.proofs.status.write_status.Goals as goal

pub loop-i-init : goal.loop-i-init
loop-i-init c = wrote_none c.args.state.now c.args.status.now

pub loop-i-preserved : goal.loop-i-preserved
loop-i-preserved c =
    subst (λ (k : ℕ). Wrote c.args.state.now c.args.status.now k (set c.loop-i.status c.loop-i.i c.status_at.result)) (sym (add-one c.loop-i.i))
    (wrote_next c.args.state.now c.args.status.now c.loop-i.status c.loop-i.i c.status_at.result (omega arith) c.status_at.ensures c.loop-i.invariant)

pub returns : goal.returns
returns c l same = all_left l _ same c.requires.1 (omega arith) c.loop-i.invariant

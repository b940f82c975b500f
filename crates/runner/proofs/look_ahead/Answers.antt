-- `runner::look_ahead` meets its contract: the schedule's next threads, the chosen one, or none. Assumes nothing.
use Rattle.runner.proofs.look_ahead.Goals as goal

pub returns-in-Given-clause-ahead : goal.returns-in-Given-clause-ahead
returns-in-Given-clause-ahead c = rw c.in-Given.is (c.copy_ahead.ensures.ahead c.args.plan)

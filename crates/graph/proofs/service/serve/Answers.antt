-- `service::serve` meets its contract: what a read answers is the definition's for any store. Assumes nothing.
use Rattle.graph.proofs.service.serve.Goals as goal

pub returns-in-Read : goal.returns-in-Read
returns-in-Read c = rw c.in-Read.is (c.answer_of_read-answer.ensures _ _ _ _)

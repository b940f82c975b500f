-- `service::write_read` meets its contract: a command written in one step is a read, and its answer is stored at its place. Assumes nothing.
use Rattle.graph.proofs.Writing.{writes_read}
use Rattle.graph.proofs.service.write_read.Goals as goal

pub returns : goal.returns
returns c =
    λ item keys chutes used one. writes_read item one c.args.place.0 c.args.found keys chutes c.args.answers.now used _ c.requires.0 c.requires.1 c.answer_of_read.ensures

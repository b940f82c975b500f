-- A thread is read as four numbers, one after the other. Assumes nothing.
use Rattle.state_bytes.specs.Fields.{thread_in}
use Rattle.state_bytes.proofs.fields.ThreadFieldField.read.Goals as goal

pub returns : goal.returns
unfolding thread_in
returns c = rw (c.thread_of.ensures, c.read.ensures)

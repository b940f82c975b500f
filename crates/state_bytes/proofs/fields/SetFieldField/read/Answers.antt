-- A set is read as three words. Assumes nothing.
use Rattle.state_bytes.specs.Fields.{set_in}
use Rattle.state_bytes.proofs.fields.SetFieldField.read.Goals as goal

pub returns : goal.returns
unfolding set_in
returns c = rw (c.from.ensures, c.read.ensures, c.read-2.ensures, c.read-3.ensures)

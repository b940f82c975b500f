use Rattle.byte_fields.proofs.Library.{flag_pastes}
use Rattle.byte_fields.proofs.BoolField.write.Goals as goal

pub returns : goal.returns
returns c = flag_pastes c.args.at c.args.value c.args.list.now

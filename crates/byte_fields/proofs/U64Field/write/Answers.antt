use native.Mathlib.Omega.{arith}
use mathlib.Core.Path.{◌∙◌}
use Rattle.byte_fields.specs.Widths.{number_width}
use Rattle.byte_fields.proofs.Library.{high_first, part_pastes}
use Rattle.byte_fields.proofs.U64Field.write.Goals as goal

pub returns : goal.returns
returns c =
    part_pastes c.args.at _ 8 _ _ c.args.list.now (omega arith) (number_width 8 c.args.value) c.requires
    (c.copy_from_slice.ensures.after ∙ c.to_be_bytes.ensures ∙ high_first 8 c.args.value)

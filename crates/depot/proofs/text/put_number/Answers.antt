-- `depot::text::put_number` meets its contract: the fewest digits that hold a number are its text. Assumes nothing.
use mathlib.Core.Path.{◌∙◌}
use Rattle.depot.proofs.Decimal.{digits_decimal}
use Rattle.depot.proofs.text.put_number.Goals as goal

pub put_text-requires : goal.put_text-requires
put_text-requires c =
    let r = c.decimal-count in
    rw (r.ensures.digits ∙ digits_decimal r.result c.args.number r.ensures.len) c.requires

pub returns : goal.returns
returns c =
    let r = c.decimal-count in
    rw (r.ensures.digits ∙ digits_decimal r.result c.args.number r.ensures.len) at c.put_text.ensures

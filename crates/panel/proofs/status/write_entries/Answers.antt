-- `panel::status::write_entries` meets its contract: each pass puts the bytes of one more worker. Assumes nothing.
use native.Mathlib.Omega.{arith}
use Rattle.byte_fields.proofs.Paste.{fields_none}
use Rattle.panel.proofs.Showing.{bytes_more, bytes_all}
use Rattle.panel.proofs.status.write_entries.Goals as goal

pub loop-i-init : goal.loop-i-init
loop-i-init c workers s same = fields_none _ _ _ _ _

pub loop-i-preserved : goal.loop-i-preserved
loop-i-preserved c workers s same = bytes_more workers s _ c.from.result (c.loop-i.invariant workers s same) (omega arith) same c.from.ensures

pub returns : goal.returns
returns c workers s same = bytes_all workers s (c.loop-i.invariant workers s same) (omega arith) c.requires

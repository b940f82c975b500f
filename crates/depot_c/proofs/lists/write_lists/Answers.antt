-- `depot_c::lists::write_lists` meets its contract: each room is written over a whole list. Assumes nothing.
use Rattle.depot_c.proofs.Entries.{written_numbers}
use Rattle.depot_c.proofs.lists.write_lists.Goals as goal

pub returns : goal.returns
returns c = (
  written_numbers 8 _ _ _ c.requires.keys_fit (c.write_fields.ensures 0),
  written_numbers 2 _ _ _ c.requires.chutes_fit (c.write_fields-2.ensures 0),
  written_numbers 2 _ _ _ c.requires.answers_fit (c.write_fields-3.ensures 0),
)

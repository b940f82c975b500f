-- `depot_c::rounds_call::depot_rounds_needed` meets its contract: room is lent for as many entries as there are. Assumes nothing.
use mathlib.Core.Path.{◌∙◌}
use lib.Seq.{length-take-le}
use Rattle.depot_c.proofs.rounds_call.depot_rounds_needed.Goals as goal

pub find_rounds-requires : goal.find_rounds-requires
find_rounds-requires c =
    let lent = c.entries_lent-lent.ensures in
    let long = length-take-le _ _ lent.0 in
    (λ few. long ∙ lent.1.0 few, λ many. long ∙ lent.1.1 many)

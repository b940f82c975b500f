-- `state_bytes::fits::nodes_fit` meets its contract. Assumes nothing.
use mathlib.Core.Path.{refl, ◌∙◌}
use Rattle.std.proofs.Common.{rules, tests}
use Rattle.std.proofs.lemmas.Iterator.{YieldsList-from_range}
use Rattle.std.proofs.lemmas.Iterator.Search.{all_from_yields_List}
use Rattle.state_bytes.specs.Layout.{node_fits_at}
use Rattle.state_bytes.proofs.Below.{range_all}
use Rattle.state_bytes.proofs.fits.nodes_fit.Goals as goal

pub returns : goal.returns
returns c =
    let test = node_fits_at c.args.state.now c.args.size c.args.count in
    all_from_yields_List test _ _ _ c.all.ensures.ran (YieldsList-from_range 0 151 151 refl refl) (λ x b q k. search (rules, tests)) ∙ range_all 151 test

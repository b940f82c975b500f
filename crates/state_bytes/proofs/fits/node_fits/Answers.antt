-- `state_bytes::fits::node_fits` meets its contract. Assumes nothing.
use Prim.Native.Nat.{ℕ, ◌+◌, ◌*◌}
use mathlib.Core.Bool.{◌&&◌}
use mathlib.Core.List.{List}
use mathlib.Core.Path.{◌≡◌, refl, ap, ◌∙◌}
use lib.Dec.{leb}
use lib.ListN.{get_or}
use Rattle.std.proofs.Common.{rules, tests}
use Rattle.node_set.specs.Members.{member, none_above}
use Rattle.byte_fields.specs.Bytes.{number_at}
use Rattle.state_bytes.specs.Layout.{set_at, set_fits, node_fits_at}
use Rattle.state_bytes.proofs.Below.{none_above_all_below}
use Rattle.state_bytes.proofs.fits.node_fits.Goals as goal

-- the tests one after the other
as_tests : (b : List ℕ) (size count n : ℕ) → node_fits_at b size count n
    ≡ (leb (get_or b (14 + n) 0) size && leb (number_at 2 (165 + 2 * n) b) count && leb (get_or b (467 + n) 0) 1 && leb (get_or b (618 + n) 0) 1 && set_fits (set_at b n) size)
unfolding node_fits_at
as_tests b size count n = refl

-- that no member is above the size is what `set_fits` tests
set_within : (set : List ℕ) (size : ℕ) → none_above 192 size (member set) ≡ set_fits set size
unfolding set_fits
set_within set size = none_above_all_below 192 size (member set)

pub returns-then-state-n-le1-2 : goal.returns-then-state-n-le1-2
returns-then-state-n-le1-2 c =
    let args = c.args in
    let e = as_tests args.state.now args.size args.count args.n in
    let set : c.is_within.result ≡ set_fits (set_at args.state.now args.n) args.size =
    c.is_within.ensures ∙ set_within c.set_at.result args.size ∙ ap (λ (set : List ℕ). set_fits set args.size) c.set_at.ensures in
    search (rules, tests)

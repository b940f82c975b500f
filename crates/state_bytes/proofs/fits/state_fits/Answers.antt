-- `state_bytes::fits::state_fits` meets its contract. Assumes nothing.
use Prim.Native.Nat.{ℕ}
use native.Mathlib.Omega.{arith}
use mathlib.Core.Bool.{◌&&◌}
use mathlib.Core.List.{List}
use mathlib.Core.Path.{◌≡◌, refl}
use lib.Dec.{leb}
use lib.ListN.{length, get_or}
use Rattle.std.proofs.Common.{rules, tests}
use Rattle.byte_fields.specs.Bytes.{all_below, number_at}
use Rattle.byte_fields.proofs.Fill.{number_one}
use Rattle.state_bytes.specs.Layout.{Lists, state_length, count_in, head_fits, settings_fit, node_fits_at, thread_fits_at, ascends, state_fits}
use Rattle.state_bytes.proofs.fits.state_fits.Goals as goal

-- `state_fits` makes the tests one after the other
as_tests : (l : Lists) → let b : List ℕ = l.state in
    state_fits l
    ≡ (head_fits (number_at 1 0 b) (number_at 1 13 b) (number_at 1 3 b) && settings_fit (number_at 1 1 b) (number_at 1 2 b) (number_at 1 3 b) (number_at 2 4 b) (number_at 2 6 b)
    && leb (number_at 2 8 b) (number_at 2 6 b) && leb (number_at 1 12 b) (number_at 1 1 b) && all_below 151 (node_fits_at b (number_at 1 1 b) (number_at 2 6 b))
    && all_below 65 (thread_fits_at b (number_at 1 1 b)) && leb (number_at 2 10 b) (number_at 2 4 b) && ascends (number_at 2 10 b) l.keys)
unfolding state_fits count_in
as_tests l = refl

-- the same tests, of the bytes and the numbers that the code reads
as_read : (l : Lists) (b keys : List ℕ) (capacity count loaded used : ℕ) → length b ≡ state_length → l.state ≡ b → l.keys ≡ keys
    → capacity ≡ number_at 2 4 b → count ≡ number_at 2 6 b → loaded ≡ number_at 2 8 b → used ≡ number_at 2 10 b
    → state_fits l
    ≡ (head_fits (get_or b 0 0) (get_or b 13 0) (get_or b 3 0) && settings_fit (get_or b 1 0) (get_or b 2 0) (get_or b 3 0) capacity count && leb loaded count
    && leb (get_or b 12 0) (get_or b 1 0) && all_below 151 (node_fits_at b (get_or b 1 0) count) && all_below 65 (thread_fits_at b (get_or b 1 0))
    && leb used capacity && ascends used keys)
unfolding state_length
as_read l b keys capacity count loaded used long state same p q r s =
    rw (
      p,
      q,
      r,
      s,
      ← number_one 0 b (omega arith),
      ← number_one 1 b (omega arith),
      ← number_one 2 b (omega arith),
      ← number_one 3 b (omega arith),
      ← number_one 12 b (omega arith),
      ← number_one 13 b (omega arith),
      ← state,
      ← same,
    ) (as_tests l)

pub returns-then-used-capacity : goal.returns-then-used-capacity
returns-then-used-capacity c l state keys =
    let e = as_read l c.args.state.now c.args.keys.now _ _ _ _ c.requires state keys c.number_at-capacity.ensures c.number_at-count.ensures c.number_at-loaded.ensures c.number_at-used.ensures in
    search (rules, tests)

pub returns-else-used-capacity : goal.returns-else-used-capacity
returns-else-used-capacity c l state keys =
    let e = as_read l c.args.state.now c.args.keys.now _ _ _ _ c.requires state keys c.number_at-capacity.ensures c.number_at-count.ensures c.number_at-loaded.ensures c.number_at-used.ensures in
    search (rules, tests)

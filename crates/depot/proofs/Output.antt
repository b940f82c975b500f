-- The program's tests in their order. Assumes nothing.
use Prim.Native.Nat.{ℕ, ◌+◌, ◌*◌, ◌≤◌, ◌<◌}
use mathlib.Core.Path.{◌≡◌}
use mathlib.Core.List.{List}
use borrow.Author.Tests.{lt-ltb, le-ltb}
use lib.ListN.{length}
use Rattle.byte_fields.specs.Bytes.{number_at}
use Rattle.depot.specs.Program.{refusal, performed, output}

module _ (input : List ℕ) where
  pub output_too_long : 65536 < length input → output input ≡ refusal 5
  unfolding output
  output_too_long long = rw (lt-ltb 65536 (length input) long)

  pub output_too_short : length input ≤ 65536 → length input < 6 → output input ≡ refusal 4
  unfolding output
  output_too_short fits short = rw (le-ltb 65536 (length input) fits, lt-ltb (length input) 6 short)

  pub output_cut : length input ≤ 65536 → 6 ≤ length input → length input < 6 + 16 * number_at 2 4 input → output input ≡ refusal 4
  unfolding output
  output_cut fits head cut = rw (le-ltb 65536 (length input) fits, le-ltb (length input) 6 head, lt-ltb (length input) (6 + 16 * number_at 2 4 input) cut)

  pub output_performed : length input ≤ 65536 → 6 ≤ length input → 6 + 16 * number_at 2 4 input ≤ length input → output input ≡ performed input
  unfolding output
  output_performed fits head whole = rw (le-ltb 65536 (length input) fits, le-ltb (length input) 6 head, le-ltb (length input) (6 + 16 * number_at 2 4 input) whole)

-- What an opening comes to where its tests pass. Assumes nothing.
use Prim.Native.Nat.{ℕ, ◌/◌, ◌%◌}
use mathlib.Core.Path.{◌≡◌}
use mathlib.Core.Bool.{true, ◌&&◌}
use mathlib.Core.List.{List}
use lib.ListN.{length}
use lib.Dec.{eqb, leb}
use Rattle.command.specs.Read.{first_refusal, readings}
use Rattle.state_bytes.specs.Layout.{Lists, lengths_fit, image_fits}
use Rattle.state_bytes.specs.Outcome.{CallOutcome}
use Rattle.opening.specs.Calls.{Source, source_long, source_chained, source_fits, opened_with, open_on, setup_of}
use Rattle.opening.specs.Opened.{after_lists}

module _ (size workers capacity : ℕ) (commands : List ℕ) (source : Source) (l : Lists) where
  -- what is left after tests 1 to 5: those of the lists, then the commands decide
  abbrev pub after_five : CallOutcome
  after_five =
      after_lists capacity (length commands / 16) source l (opened_with (first_refusal 1 (readings commands)) (setup_of size workers capacity commands source))

  pub five_passed : (leb 1 size && leb size 150) ≡ true → (leb 1 workers && leb workers 64) ≡ true → (leb 1 capacity && leb capacity 4096) ≡ true
      → eqb (length commands % 16) 0 ≡ true → leb (length commands / 16) 4096 ≡ true → open_on size workers capacity commands source l ≡ after_five
  unfolding open_on
  five_passed e1 e2 e3 e4 e5 = rw (e1, e2, e3, e4, e5)

  pub reads_list : (lengths_fit capacity (length commands / 16) l && image_fits capacity l) ≡ true → source_long capacity source ≡ true → source_chained capacity source ≡ true
      → source_fits capacity source ≡ true → after_five ≡ opened_with (first_refusal 1 (readings commands)) (setup_of size workers capacity commands source)
  reads_list fit long chained slots = rw (fit, long, chained, slots)

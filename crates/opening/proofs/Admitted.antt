-- What an opened answer has been tested for. Assumes nothing.
use Prim.Native.Nat.{ℕ}
use native.Mathlib.Omega.{arith}
use mathlib.Core.Path.{◌≡◌, ◌∙◌}
use mathlib.Core.Bool.{and-eq-true_iff}
use mathlib.Core.List.{List}
use borrow.Author.Tests.{eqb-true}
use Rattle.command.specs.Count.{largest_count}
use Rattle.command.specs.Read.{commands_in}
use Rattle.model.proofs.Service.{largest_fits}
use Rattle.state_bytes.specs.Layout.{Lists, lengths_fit, image_fits}
use Rattle.state_bytes.specs.Outcome.{accepted}
use Rattle.opening.specs.Calls.{Source, open_on, setup_of}
use Rattle.opening.specs.Opened.{Admitted}
use Rattle.opening.proofs.Accepted.{passes, accepted_opening}

-- what was tested of the setup and of the lengths
pub admitted : (size workers capacity : ℕ) (commands : List ℕ) (source : Source) (l : Lists) {left : Lists} (largest : ℕ) → largest ≡ largest_count workers (commands_in commands) → open_on size workers capacity commands source l ≡ accepted left
    → Admitted largest (setup_of size workers capacity commands source) source l
unfolding lengths_fit image_fits
admitted size workers capacity commands source l largest is e =
    let opening = accepted_opening size workers capacity commands source l _ e in
    let tests = passes size workers capacity commands source l _ e in
    let long = (and-eq-true_iff _ _).0 tests.long in
    let both = (and-eq-true_iff _ _).0 long.0 in
    let all = (and-eq-true_iff _ _).0 both.0 in
    let three = (and-eq-true_iff _ _).0 all.0 in
    let two = (and-eq-true_iff _ _).0 three.0 in
    record {
      setup = opening.setup;
      largest_is = is;
      largest_fits = rw is (largest_fits _ opening.setup).1;
      state_long = eqb-true _ _ two.0;
      answers_long = eqb-true _ _ two.1 ∙ omega (arith, opening.long);
      keys_long = eqb-true _ _ three.1;
      chutes_long = eqb-true _ _ all.1;
      image_long = eqb-true _ _ both.1;
      source_is_long = long.1;
      source_is_chained = tests.chained;
    }

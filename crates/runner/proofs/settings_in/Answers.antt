-- `runner::settings_in` meets its contract: each setting is read where it stands. Assumes nothing.
use native.Mathlib.Omega.{arith}
use mathlib.Core.Path.{sym, ◌∙◌}
use Rattle.state_bytes.specs.Layout.{state_length, setup_in, count_in}
use Rattle.byte_fields.proofs.Fill.{number_one}
use Rattle.runner.proofs.settings_in.Goals as goal

pub returns : goal.returns
unfolding state_length setup_in count_in
returns c commands count =
    let b = c.args.state.now in
    record {
      size = number_one 1 b (omega (arith, c.requires));
      workers = number_one 2 b (omega (arith, c.requires));
      largest = number_one 3 b (omega (arith, c.requires));
      capacity = sym c.number_at.ensures;
      count = count ∙ sym c.number_at-2.ensures;
    }

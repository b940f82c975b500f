-- `runner::counters_in` meets its contract: each counter is read where it stands. Assumes nothing.
use native.Mathlib.Omega.{arith}
use mathlib.Core.Path.{sym}
use Rattle.state_bytes.specs.Layout.{state_length}
use Rattle.byte_fields.proofs.Fill.{number_one}
use Rattle.runner.proofs.counters_in.Goals as goal

pub returns : goal.returns
unfolding state_length
returns c =
    let b = c.args.state.now in
    record {
      free_is = sym (number_one 12 b (omega (arith, c.requires)));
      loaded_is = c.number_at.ensures;
      used_is = c.number_at-2.ensures;
      limit_is = sym (number_one 13 b (omega (arith, c.requires)));
    }

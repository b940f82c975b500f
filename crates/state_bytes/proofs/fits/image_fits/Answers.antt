-- `state_bytes::fits::image_fits` meets its contract: the capacity is read where the layout has it. Assumes nothing.
use mathlib.Core.Path.{sym, ap, ◌∙◌}
use lib.ListN.{length}
use Rattle.model.specs.Image.{image_length}
use Rattle.state_bytes.specs.Layout.{state_length, setup_in, image_fits}
use Rattle.state_bytes.proofs.Passed.{lengths_passed}
use Rattle.state_bytes.proofs.fits.image_fits.Goals as goal

-- lists that fit have a state as long as the layout asks
pub returns-then-state-ne-STATE_LENGTH : goal.returns-then-state-ne-STATE_LENGTH
unfolding state_length
returns-then-state-ne-STATE_LENGTH c l list state long fit = absurd (c.if-state-ne-STATE_LENGTH.true (sym (ap length state) ∙ (lengths_passed l list fit).state))

pub returns : goal.returns
unfolding image_fits image_length setup_in
returns c l list state long fit = rw (long, state, ← c.number_at-capacity.ensures)

-- `opening::open_with` meets its contract: an opening leaves the lists of the opening state. Assumes nothing.
use mathlib.Core.Path.{refl, sym, ◌∙◌}
use Rattle.std.proofs.Common.{option_copied}
use Rattle.model.specs.Setup.{Setup}
use Rattle.state_bytes.specs.Outcome.{kept}
use Rattle.opening.specs.Calls.{Source, setup_of}
use Rattle.opening.specs.Opened.{source_of}
use Rattle.opening.proofs.FirstState.{as_many_zeros, stored_at, used_is, zeros_are, opened_lists_are}
use Rattle.opening.proofs.open_with.Goals as goal

pub returns-clause-left : goal.returns-clause-left
unfolding kept
returns-clause-left c =
    let a = c.args in
    let source : Source = source_of (option_copied a.source) in
    let o : Setup = setup_of a.size a.workers a.capacity a.commands.now source in
    let p = c.in_ok-largest.ensures.admitted in
    let laid = stored_at source p.keys_long c.fill_store-used.ensures in
    rw c.in_ok-largest.ensures.outcome
    (opened_lists_are o
    (c.write_opened.ensures o (record { size = refl; workers = refl; largest = sym p.largest_is; capacity = refl; count = sym p.answers_long }) (used_is o.capacity o.entries laid))
    laid
    (c.fill.ensures.after (λ y e. e) ∙ as_many_zeros p.answers_long)
    (c.fill-2.ensures.after (λ y e. e) ∙ zeros_are o.capacity p.image_long))

-- `opening::fill_store` meets its contract: the image's entries, or zeros. Assumes nothing.
use mathlib.Core.Path.{◌∙◌}
use borrow.Author.Tests.{eqb-true}
use Rattle.opening.specs.Calls.{source_long, source_chained, first_entries}
use Rattle.opening.proofs.FirstState.{as_many_zeros, empty_store}
use Rattle.opening.proofs.fill_store.Goals as goal

pub read_image-requires : goal.read_image-requires
unfolding source_long source_chained
read_image-requires c =
    (eqb-true _ _ (rw c.in-Some.is at c.requires.1), c.requires.0, rw c.in-Some.is at c.requires.2)

pub returns-in-Some : goal.returns-in-Some
unfolding first_entries
returns-in-Some c = rw c.in-Some.is c.read_image.ensures

pub returns-in-None : goal.returns-in-None
unfolding first_entries
returns-in-None c =
    rw c.in-None.is (empty_store _ (c.fill.ensures.after (λ y e. e)) (c.fill-in-None.ensures.after (λ y e. e) ∙ as_many_zeros c.requires.0))

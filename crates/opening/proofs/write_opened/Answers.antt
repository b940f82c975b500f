-- `opening::write_opened` meets its contract: the graph written is that of the opening state. Assumes nothing.
use mathlib.Core.Path.{sym, ap, ◌∙◌}
use Prim.Native.Nat.{ℕ}
use Rattle.model.specs.Graph.{first_next}
use Rattle.model.specs.Step.{opened}
use Rattle.opening.proofs.FirstState.{opened_shown}
use Rattle.opening.proofs.write_opened.Goals as goal

pub returns : goal.returns
returns c o sets entries =
    let first = λ (n : ℕ). c.first_next.ensures n ∙ ap (λ (size : ℕ). first_next size n) (sym sets.size) in
    c.write_state.ensures o (opened o) sets (opened_shown o _ _ c.first_next.result c.empty.result c.empty.ensures sets.workers entries first)

-- `opening::tested` meets its contract: what passed is admitted. Assumes nothing.
use mathlib.Core.Path.{◌≡◌, refl, sym, ap, ◌∙◌}
use Prim.Native.Nat.{ℕ, max}
use native.Mathlib.Omega.{arith}
use mathlib.Core.List.{List}
use Rattle.std.proofs.Common.{rules, option_copied}
use Rattle.command.specs.declared.Command.{Command}
use Rattle.command.specs.Count.{largest_count}
use Rattle.command.proofs.Count.{largest_max}
use Rattle.model.specs.Setup.{Setup}
use Rattle.model.specs.Step.{opened}
use Rattle.state_bytes.specs.Layout.{Lists, all_lists, lists_of}
use Rattle.state_bytes.specs.Outcome.{accepted}
use Rattle.opening.specs.Calls.{Source, open_on, opened_with, setup_of}
use Rattle.opening.specs.Opened.{source_of}
use Rattle.opening.proofs.Admitted.{admitted}
use Rattle.opening.proofs.tested.Goals as goal

-- the larger of the opening's count and the list's largest is the largest of both
largest_of_both : (workers most n : ℕ) (cs : List Command) → n ≡ max workers most → most ≡ largest_count 0 cs → n ≡ largest_count workers cs
largest_of_both workers most n cs e f =
    let zero : max workers 0 ≡ workers = omega arith in
    e ∙ (ap (max workers) f ∙ (sym (largest_max workers 0 cs) ∙ ap (λ (m : ℕ). largest_count m cs) zero))

pub returns-clause-admitted : goal.returns-clause-admitted
unfolding open_on opened_with
returns-clause-admitted c =
    let a = c.args in
    let source : Source = source_of (option_copied a.source) in
    let lent : Lists = all_lists a.state.now a.keys.now a.chutes.now a.answers.now a.image.now in
    let o : Setup = setup_of a.size a.workers a.capacity a.commands.now source in
    let opens : open_on a.size a.workers a.capacity a.commands.now source lent ≡ accepted (lists_of o (opened o)) = search rules in
    let largest_is = largest_of_both a.workers _ _ _ c.max.ensures (c.in_ok-most.ensures.largest _ refl) in
    admitted a.size a.workers a.capacity a.commands.now source lent c.max.result largest_is opens

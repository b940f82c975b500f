-- `depot::run` meets its contract: each way out is the output under the tests that led there. Assumes nothing.
use Prim.Native.Nat.{◌+◌, ◌*◌, ◌-◌}
use native.Mathlib.Omega.{arith}
use mathlib.Core.Path.{◌≡◌, sym, ◌∙◌}
use lib.ListN.{length, drop, length-drop}
use lib.Seq.{take_all}
use Rattle.depot.specs.Program.{performed}
use Rattle.depot.proofs.Wrote.{wrote_taken, wrote_counts}
use Rattle.depot.proofs.Output.{output_too_long, output_too_short, output_cut, output_performed}
use Rattle.depot.proofs.run.Goals as goal

pub returns-then-length-gt-LONGEST : goal.returns-then-length-gt-LONGEST
returns-then-length-gt-LONGEST c =
    let a = c.args in
    let wrote = c.put_refusal.ensures in
    record { out_after = wrote_taken wrote ∙ sym (output_too_long a.input.now c.if-length-gt-LONGEST.true); prefix_len = wrote_counts wrote }

pub returns-then-length-lt-HEAD : goal.returns-then-length-lt-HEAD
returns-then-length-lt-HEAD c =
    let a = c.args in
    let wrote = c.put_refusal-then-length-lt-HEAD.ensures in
    record { out_after = wrote_taken wrote ∙ sym (output_too_short a.input.now c.if-length-gt-LONGEST.false c.if-length-lt-HEAD.true); prefix_len = wrote_counts wrote }

pub returns-then-length-end : goal.returns-then-length-end
returns-then-length-end c =
    let a = c.args in
    let wrote = c.put_refusal-then-length-end.ensures in
    let cut = rw c.number_at-count.ensures at c.if-length-end.true in
    record { out_after = wrote_taken wrote ∙ sym (output_cut a.input.now c.if-length-gt-LONGEST.false c.if-length-lt-HEAD.false cut); prefix_len = wrote_counts wrote }

pub returns : goal.returns
unfolding performed
returns c =
    let a = c.args in
    let wrote = c.perform.ensures in
    let whole = rw c.number_at-count.ensures at c.if-length-end.false in
    let cut : 6 + 16 * c.number_at-count.result - 6 ≡ 16 * c.number_at-count.result = omega arith in
    let rest = take_all (length a.input.now - (6 + 16 * c.number_at-count.result)) (drop (6 + 16 * c.number_at-count.result) a.input.now) (simp length-drop (omega arith)) in
    let text = rw (cut, rest, c.number_at-count.ensures, c.number_at-capacity.ensures) at wrote in
    record { out_after = wrote_taken text ∙ sym (output_performed a.input.now c.if-length-gt-LONGEST.false c.if-length-lt-HEAD.false whole); prefix_len = wrote_counts text }

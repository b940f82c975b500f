-- `choice::foremost_of` meets its contract. The loop's invariant: best is the foremost of the threads so far, and highest its rank. Assumes nothing.
use Prim.Native.Nat.{ℕ, ◌+◌, ◌≤◌, ◌<◌}
use native.Mathlib.Numerals.{add-one}
use mathlib.Core.Path.{◌≡◌, refl}
use borrow.Author.Tests.{lt-ltb, le-ltb}
use Rattle.model.specs.Dispatch.{foremost}
use Rattle.choice.proofs.foremost_of.Goals.{then-highest-r, else-highest-r}
use Rattle.choice.proofs.foremost_of.Goals as goal

module _ (ranks : ℕ → ℕ) (t best highest next : ℕ) (is : best ≡ foremost ranks t) (has : highest ≡ ranks best) (new : next ≡ ranks (t + 1)) where
  -- a thread of a larger rank than the foremost of those before it is the foremost, by the definition's test
  overtakes : highest < next → t + 1 ≡ foremost ranks (t + 1)
  unfolding foremost
  overtakes more = rw (add-one, lt-ltb _ _ (rw (add-one, is) at (rw (has, new) at more)))

  -- and one of no larger rank is not
  stays : next ≤ highest → best ≡ foremost ranks (t + 1)
  unfolding foremost
  stays less = rw (add-one, le-ltb _ _ (rw (add-one, is) at (rw (has, new) at less))) is

pub rank_of-highest-requires : goal.rank_of-highest-requires
rank_of-highest-requires c = c.requires.0 0

pub loop-before-init : goal.loop-before-init
unfolding foremost
loop-before-init c = record { best_is = refl; highest_is = c.rank_of-highest.ensures }

pub rank_of-r-requires : goal.rank_of-r-requires
rank_of-r-requires c = c.requires.0 _

pub loop-before-preserved : goal.loop-before-preserved
loop-before-preserved c =
    let last = c.loop-before.invariant in
    let r = c.rank_of-r.ensures in
    elim c.if-highest-r.branch [
      | then-highest-r w ↦ record { best_is = rw w.best-is (overtakes _ _ _ _ _ last.best_is last.highest_is r w.if-highest-r.true); highest_is = rw (w.best-is, w.highest-is) r }
      | else-highest-r w ↦ record { best_is = rw w.best-is (stays _ _ _ _ _ last.best_is last.highest_is r w.if-highest-r.false); highest_is = rw (w.best-is, w.highest-is) last.highest_is }
    ]

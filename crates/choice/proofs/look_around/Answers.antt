-- `choice::look_around` meets its contract: the foremost thread is the model's, and so is its rank. Assumes nothing.
use Prim.Native.Nat.{ℕ, ◌≤◌}
use native.Mathlib.Omega.{arith}
use mathlib.Core.Path.{◌≡◌, sym}
use mathlib.Core.Bool.{false, cond}
use mathlib.Core.List.{List}
use borrow.Author.Rules.{rules}
use borrow.Author.Tests.{eq-eqb, ne_eqb}
use lib.Dec.{eqb}
use lib.ListN.{get_or}
use Rattle.model.specs.declared.Thread.{Thread}
use Rattle.model.specs.declared.Thread.TheVariants.{Idle}
use Rattle.model.specs.Setup.{Setup}
use Rattle.model.specs.Step.{State}
use Rattle.model.specs.Dispatch as Dispatch
use Rattle.model.proofs.Finish.Foremost.{foremost_within}
use Rattle.graph.specs.declared.Graph.{Graph}
use Rattle.graph.specs.Arrays.{numbers}
use Rattle.choice.specs.Chosen.{Seen}
use Rattle.choice.proofs.look_around.Goals as goal

-- while not settled the model goes by the foremost thread t and its rank r
by_foremost : (o : Setup) (s : State) (graph : Graph) (threads : List Thread) {loaded count largest t r : ℕ} → Seen graph threads loaded count largest o s
    → t ≡ Dispatch.foremost (λ u. Dispatch.rank (numbers graph.seq) (get_or threads u Idle)) largest → r ≡ Dispatch.rank (numbers graph.seq) (get_or threads t Idle)
    → Dispatch.fresh o false s ≡ cond (eqb r 0) (Dispatch.served o s) (Dispatch.step_of false t)
unfolding Dispatch.fresh Dispatch.chosen
by_foremost o s graph threads {largest} {t} seen is has =
    let chosen : Dispatch.chosen o s ≡ t = simp (seen.largest_is, seen.seq_is, seen.threads_are) (sym is) in
    rw (chosen, seen.seq_is, seen.threads_are t, ← has)

-- it is one of the 65
few : (seq : List ℕ) (threads : List Thread) (largest t : ℕ) → largest ≤ 64 → t ≡ Dispatch.foremost (λ u. Dispatch.rank (numbers seq) (get_or threads u Idle)) largest → t ≤ 64
few seq threads largest t small is = omega (arith, small, is, foremost_within (λ u. Dispatch.rank (numbers seq) (get_or threads u Idle)) largest)

pub bounds-threads-t : goal.bounds-threads-t
bounds-threads-t c =
    let a = c.args in
    omega (arith, few a.graph.now.seq a.threads.now a.largest _ c.requires.1 c.foremost_of-t.ensures)

pub rank_of-requires : goal.rank_of-requires
rank_of-requires c = c.requires.0 _

pub returns-then-rank_of-eq0 : goal.returns-then-rank_of-eq0
returns-then-rank_of-eq0 c =
    let a = c.args in (
      c.served.ensures.0,
      λ o s seen.
          rw (by_foremost o s a.graph.now a.threads.now seen c.foremost_of-t.ensures c.rank_of.ensures, eq-eqb _ 0 c.if-rank_of-eq0.true)
          (c.served.ensures.1 o s seen.first_is seen.loaded_is seen.count_is),
    )

pub returns : goal.returns
returns c =
    let a = c.args in (
      λ t is. let small = few a.graph.now.seq a.threads.now a.largest _ c.requires.1 c.foremost_of-t.ensures in search rules,
      λ o s seen. rw (by_foremost o s a.graph.now a.threads.now seen c.foremost_of-t.ensures c.rank_of.ensures, ne_eqb _ 0 c.if-rank_of-eq0.false),
    )

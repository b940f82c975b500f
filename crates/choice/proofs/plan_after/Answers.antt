-- `choice::plan_after` meets its contract: the plan stays while its thread goes on, and else another thread comes next. Assumes nothing.
use Prim.Native.Nat.{ℕ}
use mathlib.Core.Path.{◌≡◌, refl, sym, ◌∙◌}
use mathlib.Core.Bool.{true, false}
use mathlib.Core.List.{List}
use lib.ListN.{get_or}
use Rattle.std.specs.Prelude.{Some}
use Rattle.model.specs.declared.Thread.{Thread}
use Rattle.model.specs.declared.Thread.TheVariants.{Idle}
use Rattle.model.specs.Setup.{Setup}
use Rattle.model.specs.Step.{State}
use Rattle.model.specs.Dispatch as Dispatch
use Rattle.graph.specs.declared.Graph.{Graph}
use Rattle.choice.specs.declared.Plan.{Plan}
use Rattle.choice.specs.Chosen.{Seen, next_of, after}
use Rattle.choice.proofs.plan_after.Goals.{in-Some+else-goes_on, in_default}
use Rattle.choice.proofs.plan_after.Goals as goal

module _ {graph : Graph} {threads : List Thread} {loaded count largest : ℕ} (o : Setup) (s : State) (plan : Plan) (t : ℕ) (is : plan.next ≡ Some t) (seen : Seen graph threads loaded count largest o s) where
  -- a thread that goes on makes the next step
  goes : Dispatch.goes_on plan.settled (get_or threads t Idle) ≡ true → next_of plan ≡ after o plan s
  unfolding Dispatch.following
  goes on = rw (is, seen.threads_are t, on)

  -- after one that does not comes another
  ends : Dispatch.goes_on plan.settled (get_or threads t Idle) ≡ false → after o plan s ≡ Dispatch.fresh o plan.settled s
  unfolding Dispatch.following
  ends off = rw (is, seen.threads_are t, off)

-- once settled it is worker 1's or the loader's
settled_served : (o : Setup) (s : State) → Dispatch.fresh o true s ≡ Dispatch.served o s
unfolding Dispatch.fresh
settled_served o s = refl

pub returns-then-goes_on : goal.returns-then-goes_on
returns-then-goes_on c =
    (c.requires.2, λ o s seen. goes o s c.args.plan c.in-Some.t c.in-Some.is seen (sym c.goes_on.ensures ∙ c.if-goes_on.true))

pub returns-then-plan : goal.returns-then-plan
returns-then-plan c = (
  c.served.ensures.0,
  λ o s seen.
      let another : after o c.args.plan s ≡ Dispatch.fresh o c.args.plan.settled s = elim c.match-plan.branch [
        | in-Some+else-goes_on w ↦ ends o s c.args.plan w.in-Some.t w.in-Some.is seen (sym w.goes_on.ensures ∙ w.if-goes_on.false)
        | in_default w ↦ rw w.in_default.is
      ] in
      rw (another, c.if-plan.true, settled_served o s) (c.served.ensures.1 o s seen.first_is seen.loaded_is seen.count_is),
)

pub returns : goal.returns
returns c = (
  c.look_around.ensures.0,
  λ o s seen.
      let another : after o c.args.plan s ≡ Dispatch.fresh o c.args.plan.settled s = elim c.match-plan.branch [
        | in-Some+else-goes_on w ↦ ends o s c.args.plan w.in-Some.t w.in-Some.is seen (sym w.goes_on.ensures ∙ w.if-goes_on.false)
        | in_default w ↦ rw w.in_default.is
      ] in
      rw (another, c.if-plan.false) (c.look_around.ensures.1 o s seen),
)

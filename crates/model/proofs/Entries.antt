-- The steps do not look at the entries that an opening begins with: those of a setup are those of the setup without them. Assumes nothing.
use Prim.Native.Nat.{ℕ, zero, suc}
use Rattle.std.specs.Prelude.{◌≡◌, Bool}
use Rattle.std.proofs.Math.Path.{refl, ap}
use Rattle.std.proofs.Math.Bool.{true, false, cond}
use mathlib.Core.List.{List, [], ◌∷◌}
use Rattle.std.proofs.Math.Option.{Option, none, some}
use Rattle.command.specs.declared.Command.{Command}
use Rattle.model.specs.declared.Thread.{Thread}
use Rattle.model.specs.declared.Thread.TheVariants.{Idle, Loading, Searching, Holding, LookedUp, Written, Walking, Clearing}
use Rattle.model.specs.Setup.{Setup, without_entries}
use Rattle.model.specs.Service.{Service, found_for, in_one_step, write_for}
use Rattle.model.specs.Step.{State, node, command_of, add_dependence, loader_idle, loader_walk, loader_step, serve_to, holding, looked_up, worker_step, step, steps}
use Rattle.model.specs.Dispatch.{commands_left, steps_needed, chosen, Next, stop, step_of, served, fresh, following, steps_from, dispatched}

module _ (o : Setup) where
  -- a write asks for the capacity alone
  pub write_without : (m : Option Command) (c found : ℕ) (v : Service) → write_for (without_entries o) m c found v ≡ write_for o m c found v
  unfolding write_for
  write_without none c found v = refl
  write_without (some cmd) c found v = refl

  looked_up_without : (t own found : ℕ) (s : State) → looked_up (without_entries o) t own found s ≡ looked_up o t own found s
  unfolding looked_up command_of
  looked_up_without t own found s = rw (write_without (command_of o s.graph own) (s.graph.seq own) found s.service)

  -- a step of the loader asks for the commands alone
  loader_without : (thread : Thread) (s : State) → loader_step (without_entries o) thread s ≡ loader_step o thread s
  unfolding loader_step loader_idle loader_walk add_dependence command_of
  loader_without Idle s = refl
  loader_without (Loading at own) s = refl
  loader_without (Searching at) s = refl
  loader_without (Holding own) s = refl
  loader_without (LookedUp own found) s = refl
  loader_without (Written own) s = refl
  loader_without (Walking at own) s = refl
  loader_without (Clearing at own) s = refl

  -- and a worker's for the commands and the capacity
  holding_without : (t own : ℕ) (s : State) → holding (without_entries o) t own s ≡ holding o t own s
  unfolding holding command_of
  holding_without t own s =
      let m : Option Command = command_of o s.graph own in
      let found : ℕ = found_for m s.service.store in
      ap (λ (s' : State). cond (in_one_step m) s' (serve_to t (LookedUp (node own) found) s.service s)) (looked_up_without t own found s)

  worker_without : (t : ℕ) (thread : Thread) (s : State) → worker_step (without_entries o) t thread s ≡ worker_step o t thread s
  unfolding worker_step
  worker_without t Idle s = refl
  worker_without t (Loading at own) s = refl
  worker_without t (Searching at) s = refl
  worker_without t (Holding own) s = holding_without t own.0 s
  worker_without t (LookedUp own found) s = looked_up_without t own.0 found s
  worker_without t (Written own) s = refl
  worker_without t (Walking at own) s = refl
  worker_without t (Clearing at own) s = refl

  -- so a step does not look at the entries
  pub step_without : (t : ℕ) (s : State) → step (without_entries o) t s ≡ step o t s
  unfolding step
  step_without t s = rw (loader_without (s.threads 0) s, worker_without t (s.threads t) s)

  -- nor does a schedule
  pub steps_without : (ts : List ℕ) (s : State) → steps (without_entries o) ts s ≡ steps o ts s
  unfolding steps
  steps_without [] s = refl
  steps_without (t ∷ ts) s = rw (step_without t s) (steps_without ts (step o t s))

  -- nor the dispatcher's choice
  following_without : (settled : Bool) (t : ℕ) (s : State) → following (without_entries o) settled t s ≡ following o settled t s
  unfolding following fresh served chosen
  following_without false t s = refl
  following_without true t s = refl

  steps_from_without : (k : ℕ) (n : Next) (s : State) → steps_from (without_entries o) k n s ≡ steps_from o k n s
  unfolding steps_from
  steps_from_without zero n s = refl
  steps_from_without (suc k) stop s = refl
  steps_from_without (suc k) (step_of settled t) s = rw (step_without t s, following_without settled t (step o t s)) (ap (λ (l : List ℕ). t ∷ l) (steps_from_without k (following o settled t (step o t s)) (step o t s)))

  pub needed_without : (s : State) → steps_needed (without_entries o) s ≡ steps_needed o s
  unfolding steps_needed commands_left
  needed_without s = refl

  pub dispatched_without : (s : State) → dispatched (without_entries o) s ≡ dispatched o s
  unfolding dispatched fresh served chosen
  dispatched_without s = rw (needed_without s) (steps_from_without (steps_needed o s) (fresh o false s) s)

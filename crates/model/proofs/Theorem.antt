-- Demand 3 for the model, proved: the opening state meets the invariant, every step keeps it, and from it the five parts follow.
-- Assumes nothing.
use Rattle.std.specs.Prelude.{ℕ, ◌+◌, ◌≤◌, ◌≡◌, refl, Bool, true, cond, ◌&&◌, List}
use Rattle.std.proofs.Common.{arith, ◌∙◌, inl, ⊎_elim}
use Rattle.std.proofs.Math.Path.{ap}
use Rattle.std.proofs.Math.Bool.{or-false}
use Rattle.command.specs.Dependent.{is_checkpoint}
use Rattle.model.specs.Store.{lay_out}
use Rattle.model.specs.Setup.{Setup}
use Rattle.model.specs.Step.{State, opened, steps}
use Rattle.model.specs.Moment.{table_of, last_checkpoint, image_at}
use Rattle.model.specs.Dispatch.{dispatched}
use Rattle.model.specs.Statement.{Accepted, all_within, wrote, removed, EachCommand, serial_answer, Demand3}
use Rattle.command.proofs.Tests.{true_false, eqb_cases}
use Rattle.model.proofs.Service.{entries_of, entries_agree, entries_all, table_of_lem, serial_positive}
use Rattle.model.proofs.Last.{last_agrees}
use Rattle.model.proofs.Chain.Invariant.{Ghost, Inv}
use Rattle.model.proofs.Chain.Ghost.{ghost_steps}
use Rattle.model.proofs.Chain.Keep.{steps_keep}
use Rattle.model.proofs.Chain.Opening.{opened_ghost, opened_meets}
use Rattle.model.proofs.Finish.{steps_tell, schedule_finishes}

module _ (o : Setup) (acc : Accepted o) (ts : List ℕ) (within : all_within o.largest ts ≡ true) where
  abbrev s : State
  s = steps o ts (opened o)

  abbrev pub g : Ghost
  g = ghost_steps o ts (opened o) (opened_ghost o)

  -- the invariant holds after every schedule
  pub reached : Inv o s g
  reached = steps_keep o acc ts within (opened o) (opened_ghost o) (opened_meets o acc)

  -- what the invariant calls written and removed is what the steps wrote and returned
  pub written_is : (c : ℕ) → 1 ≤ c → g.written c ≡ wrote o c ts (opened o)
  written_is c low = (steps_tell o acc c low ts within (opened o) (opened_ghost o) (opened_meets o acc)).0 ∙ or-false (wrote o c ts (opened o))

  pub removed_is : (c : ℕ) → 1 ≤ c → g.removed c ≡ removed o c ts (opened o)
  removed_is c low = (steps_tell o acc c low ts within (opened o) (opened_ghost o) (opened_meets o acc)).1 ∙ or-false (removed o c ts (opened o))

  -- "the table at any moment": the store is what the answered commands give when run alone in delivery order, after every step
  pub table_at_any_moment : s.service.store ≡ lay_out o.capacity (entries_of o g.written)
  table_at_any_moment = reached.service.stored

  -- the commands that it means are those already written
  table_written : s.service.store ≡ table_of o (λ c. wrote o c ts (opened o))
  table_written =
      table_at_any_moment
      ∙ (ap (lay_out o.capacity) (entries_agree o g.written (λ c. wrote o c ts (opened o)) (λ c low high. written_is c low))
      ∙ table_of_lem o (λ c. wrote o c ts (opened o)))

  -- and the image is that of the last kind 6 among them
  pub image_kept : s.service.image ≡ image_at o (last_checkpoint o (λ c. wrote o c ts (opened o)))
  unfolding last_checkpoint
  image_kept =
      reached.service.imaged
      ∙ ap (image_at o) (last_agrees g.written (λ c. wrote o c ts (opened o)) 1 o.commands 0 (λ n c e. ap (λ (b : Bool). b && is_checkpoint c.kind) (written_is (1 + n) (omega arith))))

  answers_serial : EachCommand o (λ c. s.service.answers c ≡ cond (wrote o c ts (opened o)) (serial_answer o c) 0)
  answers_serial c low high = reached.service.answered c low high ∙ ap (λ (b : Bool). cond b (serial_answer o c) 0) (written_is c low)

  -- a removed command is answered
  all_written : EachCommand o (λ c. removed o c ts (opened o) ≡ true) → EachCommand o (λ c. g.written c ≡ true)
  all_written all c low high = reached.progress.removed_written c (removed_is c low ∙ all c low high)

  -- as the serial run answers it
  pub all_serial : EachCommand o (λ c. removed o c ts (opened o) ≡ true) → EachCommand o (λ c. s.service.answers c ≡ serial_answer o c)
  all_serial all c low high = reached.service.answered c low high ∙ ap (λ (b : Bool). cond b (serial_answer o c) 0) (all_written all c low high)

  all_answered : EachCommand o (λ c. removed o c ts (opened o) ≡ true) → EachCommand o (λ c. 1 ≤ s.service.answers c)
  all_answered all c low high = omega (arith, all_serial all c low high, serial_positive o acc c low high)

  -- and its node is linked no more: a linked one has a command that is not removed
  pub none_linked : EachCommand o (λ c. removed o c ts (opened o) ≡ true) → s.graph.next 0 ≡ 0
  none_linked all = ⊎_elim (λ e. e.0) (λ e. absurd (linked_first e.0)) (eqb_cases (s.graph.next 0) 0)
    where
      linked_first : (s.graph.next 0 ≡ 0 → ⊥) → ⊥
      linked_first some =
          let first = s.graph.next 0 in
          let used = reached.order.linked_used first (reached.order.next_linked 0 (inl refl) some) in
          let few = reached.order.below first in
          let loaded = reached.order.loaded_count in
          true_false _ (removed_is (s.graph.seq first) used ∙ all (s.graph.seq first) used (omega arith)) (reached.progress.removed_gone first used)

pub demand_3 : Demand3
demand_3 o acc ts within = record {
  answer = answers_serial o acc ts within;
  table = λ all. (all_answered o acc ts within all, table_at_any_moment o acc ts within ∙ ap (lay_out o.capacity) (entries_all o (g o acc ts within).written (all_written o acc ts within all)));
  finish = let f = schedule_finishes o acc (opened o) (opened_ghost o) (opened_meets o acc) (λ c. refl) ts within in (dispatched o (steps o ts (opened o)), f.0, f.1, f.2);
  moment = table_written o acc ts within;
  image = image_kept o acc ts within;
}

-- The dispatcher over the calls of a host in C (02, A.6): demand 3 after any list of calls in which some dispatch, that what `depot_dispatch` writes
-- is what it performed, and that it finishes within the bound that `depot_steps_needed` tells. What the calls answer and leave is what their
-- contracts say. Proved in proofs/Dispatching. Assumes nothing.
use Rattle.std.specs.Prelude.{ℕ, suc, ◌+◌, ◌*◌, ◌≤◌, ◌≡◌, true, not, cond, List, [], ◌∷◌, ◌++◌, length, take, eqb}
use Rattle.node_set.specs.Members.{count_below}
use Rattle.byte_fields.specs.Bytes.{number_at, bytes_of}
use Rattle.model.specs.Setup.{Setup}
use Rattle.model.specs.Step.{opened}
use Rattle.model.specs.Statement.{removed, EachCommand}
use Rattle.state_bytes.specs.Layout.{Lists}
use Rattle.opening.specs.Calls.{Source, setup_of}
use Rattle.controller.specs.Demand3.{Call}
use Rattle.depot_c.specs.Boundary.{open_answer, open_left, advance_answer, advance_left, needed_answer, needed_left, dispatch_answer, dispatch_left, schedule_left, count_left}
use Rattle.depot_c.specs.Demand3.{answer_to, after_call, IsIdle, BytesHoldAfter}

-- ---- lists of calls

-- a call of `depot_advance`, or one of `depot_dispatch`: the byte lists, the commands, the list for the schedule and the count's bytes handed over
pub data ByteCall : Type 0 where
  advances : Call → ByteCall
  dispatches : Lists → List ℕ → List ℕ → List ℕ → ByteCall

unfoldable pub answer_to_any : ByteCall → ℕ
answer_to_any (advances call) = answer_to call
answer_to_any (dispatches lists commands lent count) = dispatch_answer lists commands lent count

-- the byte lists that the host has after a call, where it had b
unfoldable pub after_any : ByteCall → Lists → Lists
after_any (advances call) b = after_call call b
after_any (dispatches lists commands lent count) b = cond (eqb (dispatch_answer lists commands lent count) 0) (dispatch_left lists commands lent count) b

unfoldable pub bytes_after_all : List ByteCall → Lists → Lists
bytes_after_all [] b = b
bytes_after_all (call ∷ calls) b = bytes_after_all calls (after_any call b)

-- "Each accepted call gets the run and lists as those before it left them": the byte lists b, and the opening's commands
abbrev pub Handed : ByteCall → List ℕ → Lists → Type 0
Handed (advances call) commands b = (call.lists ≡ b) × (call.commands ≡ commands)
Handed (dispatches lists cs lent count) commands b = (lists ≡ b) × (cs ≡ commands)

abbrev pub ProperBytesAll : List ℕ → Lists → List ByteCall → Type 0
ProperBytesAll commands b [] = Unit {0}
ProperBytesAll commands b (call ∷ calls) = (answer_to_any call ≡ 0 → Handed call commands b) × ProperBytesAll commands (after_any call b) calls

-- the schedule that `depot_dispatch` wrote: as many bytes of the lent list as the count's eight bytes say
unfoldable pub bytes_written : Lists → List ℕ → List ℕ → List ℕ → List ℕ
bytes_written b commands lent count = take (number_at 8 0 (count_left b commands lent count)) (schedule_left b commands lent count)

-- the schedules performed by the accepted calls, one after the other
unfoldable pub performed_by : ByteCall → List ℕ
performed_by (advances call) = cond (eqb (answer_to call) 0) call.schedule []
performed_by (dispatches lists commands lent count) = cond (eqb (dispatch_answer lists commands lent count) 0) (bytes_written lists commands lent count) []

unfoldable pub performed_all : List ByteCall → List ℕ
performed_all [] = []
performed_all (call ∷ calls) = performed_by call ++ performed_all calls

-- ---- the claims

-- demand 3 after any list of calls in which some dispatch
abbrev pub Demand3OverBytesWithDispatcher : Type 0
Demand3OverBytesWithDispatcher =
    (size workers capacity : ℕ) (commands : List ℕ) (source : Source) (lent b : Lists) →
    open_answer size workers capacity commands source lent ≡ 0 → open_left size workers capacity commands source lent ≡ b →
    (calls : List ByteCall) → ProperBytesAll commands b calls →
    BytesHoldAfter (setup_of size workers capacity commands source) commands (bytes_after_all calls b) (performed_all calls)

-- of byte lists b that such calls left, after the schedules ts, with eight bytes for a count
pub record BytesFinish (o : Setup) (commands : List ℕ) (b : Lists) (ts count : List ℕ) : Type 0 where
  -- "(n + w) × (3 × s + 6)", n the commands that no turn has removed
  pub bound : ℕ
  pub bound_is : bound ≡ (count_below (length o.commands) (λ j. not (removed o (suc j) ts (opened o))) + o.largest) * (3 * o.size + 6)
  -- `depot_steps_needed` tells it
  pub told : (needed_answer b commands count ≡ 0) × (needed_left b commands count ≡ bytes_of 8 bound)
  -- a list as long is accepted, and the dispatcher ends "with every command removed and every party idle"
  pub finishes : (lent : List ℕ) → bound ≤ length lent → (dispatch_answer b commands lent count ≡ 0)
      × EachCommand o (λ c. removed o c (ts ++ bytes_written b commands lent count) (opened o) ≡ true) × ((t : ℕ) → t ≤ o.largest → IsIdle t (dispatch_left b commands lent count))
  -- "performing that dealing by hand gives the same state"
  pub by_hand : (lent : List ℕ) → bound ≤ length lent → (advance_answer b commands (bytes_written b commands lent count) ≡ 0)
      × (advance_left b commands (bytes_written b commands lent count) ≡ dispatch_left b commands lent count)

abbrev pub DispatcherFinishesOverBytes : Type 0
DispatcherFinishesOverBytes =
    (size workers capacity : ℕ) (commands : List ℕ) (source : Source) (lent b : Lists) →
    open_answer size workers capacity commands source lent ≡ 0 → open_left size workers capacity commands source lent ≡ b →
    (calls : List ByteCall) → ProperBytesAll commands b calls → (count : List ℕ) → length count ≡ 8 →
    BytesFinish (setup_of size workers capacity commands source) commands (bytes_after_all calls b) (performed_all calls) count

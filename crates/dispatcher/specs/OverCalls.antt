-- The dispatcher's promises over calls (02, A.6): what it writes is what it performed, it finishes within the document's limit, and demand 3
-- holds after any list of calls in which some dispatch. Proved in proofs/OverCalls. Assumes nothing.
use Rattle.std.specs.Prelude.{ℕ, suc, ◌+◌, ◌*◌, ◌≤◌, ◌≡◌, true, not, List, [], ◌∷◌, ◌++◌, length, take, drop}
use Rattle.node_set.specs.Members.{count_below}
use Rattle.model.specs.declared.Thread.TheVariants.{Idle}
use Rattle.model.specs.Setup.{Setup}
use Rattle.model.specs.Step.{opened}
use Rattle.model.specs.Statement.{removed, EachCommand}
use Rattle.state_bytes.specs.Layout.{Lists, state_in}
use Rattle.state_bytes.specs.Outcome.{accepted, kept}
use Rattle.opening.specs.Calls.{Source, open_on, setup_of}
use Rattle.controller.specs.Calls.{advance_on}
use Rattle.controller.specs.Demand3.{Call, call_on, ProperCall, accepts, HoldsAfter}
use Rattle.dispatcher.specs.Calls.{needed_now, Made, DispatchOutcome, made, refused, dispatch_on, lists_left}

-- the schedule that a call wrote into the lent list
abbrev pub schedule_in : Made → List ℕ
schedule_in d = take d.count d.schedule

-- ---- what it writes is what it performed

-- "The count it reports is the length of the dealing written, and performing that dealing by hand gives the same state"; "bytes past the dealing
-- stay untouched". So of every lists that it accepts, also of a run that no dealing reaches.
pub record Written (l : Lists) (commands lent : List ℕ) (d : Made) : Type 0 where
  pub by_hand : advance_on l commands (schedule_in d) ≡ accepted d.lists
  pub counted : length (schedule_in d) ≡ d.count
  pub untouched : drop d.count d.schedule ≡ drop d.count lent
  pub few : d.count ≤ needed_now l commands

abbrev pub WhatIsWritten : Type 0
WhatIsWritten = (l : Lists) (commands lent : List ℕ) (d : Made) → dispatch_on l commands lent ≡ made d → Written l commands lent d

-- ---- lists of calls

-- a call by which the caller deals turns, or one that dispatches, with the lists, the commands and the lent list handed over
pub data AnyCall : Type 0 where
  advances : Call → AnyCall
  dispatches : Lists → List ℕ → List ℕ → AnyCall

-- the lists that the caller has after a call, where it had l
unfoldable pub after_any : AnyCall → Lists → Lists
after_any (advances call) l = kept (call_on call) l
after_any (dispatches lists commands lent) l = lists_left (dispatch_on lists commands lent) l

unfoldable pub lists_after_all : List AnyCall → Lists → Lists
lists_after_all [] l = l
lists_after_all (call ∷ calls) l = lists_after_all calls (after_any call l)

-- "Each accepted call gets the run and lists as those before it left them", and the opening's commands
abbrev pub ProperAny : List ℕ → Lists → AnyCall → Type 0
ProperAny commands l (advances call) = ProperCall commands l call (call_on call)
ProperAny commands l (dispatches lists cs lent) = (d : Made) → dispatch_on lists cs lent ≡ made d → (lists ≡ l) × (cs ≡ commands)

abbrev pub ProperAll : List ℕ → Lists → List AnyCall → Type 0
ProperAll commands l [] = Unit {0}
ProperAll commands l (call ∷ calls) = ProperAny commands l call × ProperAll commands (after_any call l) calls

-- the schedules performed, one after the other; of a call that dispatches, what it wrote
unfoldable pub made_in : DispatchOutcome → List ℕ
made_in (made d) = schedule_in d
made_in (refused r) = []

unfoldable pub performed_by : AnyCall → List ℕ
performed_by (advances call) = accepts (call_on call) call.schedule
performed_by (dispatches lists commands lent) = made_in (dispatch_on lists commands lent)

unfoldable pub performed_all : List AnyCall → List ℕ
performed_all [] = []
performed_all (call ∷ calls) = performed_by call ++ performed_all calls

-- ---- demand 3, and the finish

-- demand 3 after any list of calls in which some dispatch
abbrev pub Demand3WithDispatcher : Type 0
Demand3WithDispatcher =
    (size workers capacity : ℕ) (commands : List ℕ) (source : Source) (lent l : Lists) → open_on size workers capacity commands source lent ≡ accepted l →
    (calls : List AnyCall) → ProperAll commands l calls →
    HoldsAfter (setup_of size workers capacity commands source) commands (lists_after_all calls l) (performed_all calls)

-- "From any state reached": n is the number of commands that no turn has removed, and with room for (n + w) × (3 × s + 6) turns the dispatcher
-- ends "with every command removed and every party idle"
pub record Finishes (o : Setup) (commands : List ℕ) (l : Lists) (ts lent : List ℕ) : Type 0 where
  pub needed : needed_now l commands ≡ (count_below (length o.commands) (λ j. not (removed o (suc j) ts (opened o))) + o.largest) * (3 * o.size + 6)
  pub finishes : needed_now l commands ≤ length lent → (d : Made) × (dispatch_on l commands lent ≡ made d)
      × EachCommand o (λ c. removed o c (ts ++ schedule_in d) (opened o) ≡ true) × ((t : ℕ) → t ≤ o.largest → (state_in d.lists).threads t ≡ Idle)

abbrev pub DispatcherFinishesOverCalls : Type 0
DispatcherFinishesOverCalls =
    (size workers capacity : ℕ) (commands : List ℕ) (source : Source) (lists l : Lists) → open_on size workers capacity commands source lists ≡ accepted l →
    (calls : List AnyCall) → ProperAll commands l calls → (lent : List ℕ) →
    Finishes (setup_of size workers capacity commands source) commands (lists_after_all calls l) (performed_all calls) lent

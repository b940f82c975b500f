-- The dispatcher over the calls of a host in C (specs/Dispatching), proved: what an accepted call leaves in the bytes is what `depot_advance`
-- leaves on the schedule that was written, so that its calls count as calls of `depot_advance`, and the finish is the one over calls on
-- numbers. Assumes nothing.
use Prim.Native.Nat.{ℕ, suc, ◌+◌, ◌*◌, ◌^◌, ◌≤◌, ◌<◌}
use native.Mathlib.Nat.{mul-le-mul}
use native.Mathlib.Omega.{arith}
use mathlib.Core.Path.{◌≡◌, refl, ap, ◌∙◌}
use mathlib.Core.Bool.{true, not}
use mathlib.Core.List.{List, [], ◌∷◌, ◌++◌, append_assoc, append-nil}
use lib.ListN.{length, take}
use lib.Dec.{eqb}
use borrow.Author.Tests.{eq-eqb}
use Rattle.byte_fields.specs.Bytes.{number_at, bytes_of}
use Rattle.byte_fields.proofs.Bytes.{lies_whole, lies_number}
use Rattle.command.specs.Read.{commands_in}
use Rattle.panel.proofs.Counts.{count_within}
use Rattle.model.specs.Setup.{Setup}
use Rattle.model.specs.Step.{opened}
use Rattle.model.specs.Statement.{Accepted, removed, EachCommand}
use Rattle.model.specs.Dispatch.{commands_left, steps_needed}
use Rattle.state_bytes.specs.Layout.{Lists, setup_in, state_in, state_fits, handed_back_fit}
use Rattle.state_bytes.proofs.Passed.{state_passed}
use Rattle.controller.proofs.Demand3.{Reach, accepted_reaches}
use Rattle.dispatcher.specs.Calls.{needed_now, Made, made, dispatch_on, refusal_in, count_in, lent_left}
use Rattle.dispatcher.specs.OverCalls.{schedule_in}
use Rattle.dispatcher.proofs.Answer.{all_there, needs_so}
use Rattle.dispatcher.proofs.OverCalls.{passes, what_is_written, tests_passed, reached_finishes}
use Rattle.depot_c.specs.Boundary.{decoded, encoded, left, count_long, advance_answer, advance_left, needed_answer, needed_left, made_left, dispatch_answer, dispatch_left}
use Rattle.depot_c.specs.Demand3.{IsIdle}
use Rattle.depot_c.specs.Dispatching.{ByteCall, advances, dispatches, answer_to_any, after_any, bytes_after_all, Handed, ProperBytesAll, bytes_written, performed_by, performed_all, Demand3OverBytesWithDispatcher, BytesFinish, DispatcherFinishesOverBytes}
use Rattle.depot_c.proofs.Accepted.{accepted_answers, dispatch_accepted}
use Rattle.depot_c.proofs.Demand3.{BytesReach, opening_bytes, answered_reaches, read_reached, accepted_call, call_reaches, idle_read, bytes_hold}

-- ---- what a call that dispatches leaves in bytes

-- the bound of a state that passes the tests fits eight bytes: at most 4,096 commands are not loaded, 151 nodes have one, and there are at
-- most 64 workers
bound_fits : (l : Lists) (commands : List ℕ) → handed_back_fit l commands ≡ true → state_fits l ≡ true → needed_now l commands < 256 ^ 8
unfolding needed_now steps_needed commands_left setup_in
bound_fits l commands fit whole =
    let range = state_passed l whole in
    let size = number_at 1 1 l.state in
    let count = all_there l commands fit in
    let used = count_within (suc size) (λ n. not (eqb ((state_in l).graph.seq n) 0)) in
    omega (arith, mul-le-mul {n₁ = commands_left (setup_in l.state commands) (state_in l) + number_at 1 3 l.state} {m₁ = 3 * size + 6} {n₂ = 4311} {m₂ = 456} (omega arith) (omega arith))

module _ (b : Lists) (commands lent count : List ℕ) (long : count_long count ≡ true) (d : Made) (e : dispatch_on (decoded b) commands lent ≡ made d) where
  -- it answers 0: it is no refusal
  made_answers : dispatch_answer b commands lent count ≡ 0
  unfolding refusal_in
  made_answers = rw (long, e)

  -- it leaves the bytes of its lists
  made_leaves : dispatch_left b commands lent count ≡ encoded d.lists
  unfolding made_left
  made_leaves = rw (long, e)

  -- its count is at most the bound, so eight bytes hold it
  count_read : number_at 8 0 (bytes_of 8 d.count) ≡ d.count
  count_read =
      let p = passes (decoded b) commands lent d e in
      lies_number 8 d.count (omega (arith, (what_is_written (decoded b) commands lent d e).few, bound_fits (decoded b) commands p.fit p.whole)) (lies_whole (bytes_of 8 d.count))

  -- so the schedule is as many bytes of the lent list as they say
  made_written : bytes_written b commands lent count ≡ schedule_in d
  unfolding bytes_written refusal_in count_in lent_left
  made_written = rw (long, e) (ap (λ (n : ℕ). take n d.schedule) count_read)

-- handed to `depot_advance`, what an accepted call wrote leaves the same bytes
by_hand : (b : Lists) (commands lent count : List ℕ) → dispatch_answer b commands lent count ≡ 0
    → let written = bytes_written b commands lent count in
    (advance_answer b commands written ≡ 0) × (advance_left b commands written ≡ dispatch_left b commands lent count)
unfolding left
by_hand b commands lent count answer =
    let a = dispatch_accepted b commands lent count answer in
    let d = a.1 in
    let w = what_is_written (decoded b) commands lent d a.2 in
    rw (made_written b commands lent count a.0 d a.2, made_leaves b commands lent count a.0 d a.2, w.by_hand) (accepted_answers d.lists, refl)

-- ---- lists of calls

module _ (o : Setup) (acc : Accepted o) (commands : List ℕ) (same : o.commands ≡ commands_in commands) (long : length commands ≡ 16 * length o.commands) where
  -- a call that dispatches reaches what its schedule, dealt by hand, does
  dispatch_reaches : (b : Lists) (ts lent count : List ℕ) → BytesReach o b ts → dispatch_answer b commands lent count ≡ 0
      → BytesReach o (dispatch_left b commands lent count) (ts ++ bytes_written b commands lent count)
  dispatch_reaches b ts lent count r answer =
      let hand = by_hand b commands lent count answer in
      rw (← hand.1) (accepted_call o acc commands same long b ts (bytes_written b commands lent count) r hand.0)

  -- each call reaches what the schedule that it performed does
  any_reaches : (call : ByteCall) (b : Lists) (ts : List ℕ) → (answer_to_any call ≡ 0 → Handed call commands b) → BytesReach o b ts
      → BytesReach o (after_any call b) (ts ++ performed_by call)
  unfolding answer_to_any after_any performed_by
  any_reaches (advances call) b ts proper r = call_reaches o acc commands same long call b ts proper r
  any_reaches (dispatches lists cs lent count) b ts proper r =
      answered_reaches o (dispatch_answer lists cs lent count) (dispatch_left lists cs lent count) b ts (bytes_written lists cs lent count)
      (λ zero_answer.
      let handed = proper zero_answer in
      rw (handed.0, handed.1) (dispatch_reaches b ts lent count r (rw (handed.0, handed.1) at zero_answer)))
      r

  -- call by call
  all_reach : (calls : List ByteCall) (b : Lists) (ts : List ℕ) → BytesReach o b ts → ProperBytesAll commands b calls → BytesReach o (bytes_after_all calls b) (ts ++ performed_all calls)
  unfolding bytes_after_all performed_all
  all_reach [] b ts r proper = rw append-nil r
  all_reach (call ∷ calls) b ts r proper =
      rw (← append_assoc ts (performed_by call) (performed_all calls))
      (all_reach calls (after_any call b) (ts ++ performed_by call) (any_reaches call b ts proper.0 r) proper.1)

-- every proper list of calls goes on from the opening's byte lists
pub demand_3_over_byte_calls_with_dispatcher : Demand3OverBytesWithDispatcher
demand_3_over_byte_calls_with_dispatcher size workers capacity commands source lent b answer is calls proper =
    let first = opening_bytes size workers capacity commands source lent b answer is in
    let last = all_reach _ first.0 commands refl first.1 calls b [] first.2 proper in
    rw last.bytes (bytes_hold _ first.0 commands refl first.1 last.lists (performed_all calls) last.reach)

-- ---- the finish

module _ (o : Setup) (acc : Accepted o) (commands : List ℕ) (same : o.commands ≡ commands_in commands) (long : length commands ≡ 16 * length o.commands)
    (b : Lists) (ts : List ℕ) (r : BytesReach o b ts) (count : List ℕ) (eight : length count ≡ 8) where
  -- byte lists that calls reach pass the tests, so that the bound is told
  bound_told : (needed_answer b commands count ≡ 0) × (needed_left b commands count ≡ bytes_of 8 (needed_now r.lists commands))
  bound_told =
      let t = tests_passed o acc commands same long r.lists ts r.reach in
      let n = needs_so r.lists commands t.0 t.2 refl in
      rw (eq-eqb (length count) 8 eight, read_reached o acc commands same long b ts r, ← n.0, ← n.1) (refl, refl)

  -- the dispatcher finishes on the lists reached, and what it leaves and writes there are their bytes
  finishes_in_bytes : (lent : List ℕ) → needed_now r.lists commands ≤ length lent → (dispatch_answer b commands lent count ≡ 0)
      × EachCommand o (λ c. removed o c (ts ++ bytes_written b commands lent count) (opened o) ≡ true) × ((t : ℕ) → t ≤ o.largest → IsIdle t (dispatch_left b commands lent count))
  finishes_in_bytes lent room =
      let l = r.lists in
      let f = (reached_finishes o acc commands same long l ts r.reach lent).finishes room in
      let d = f.0 in
      let e : dispatch_on (decoded b) commands lent ≡ made d = ap (λ (m : Lists). dispatch_on m commands lent) (read_reached o acc commands same long b ts r) ∙ f.1 in
      let whole = eq-eqb (length count) 8 eight in
      let last : Reach o d.lists (ts ++ schedule_in d) = accepted_reaches o acc commands same long l d.lists ts (schedule_in d) r.reach (what_is_written l commands lent d f.1).by_hand in (
        made_answers b commands lent count whole d e,
        λ c low high. rw (made_written b commands lent count whole d e) (f.2 c low high),
        λ t h. rw (made_leaves b commands lent count whole d e) (idle_read o acc commands same long d.lists (ts ++ schedule_in d) last t h (f.3 t h)),
      )

  -- each part is the one over calls on numbers
  bytes_finish : BytesFinish o commands b ts count
  bytes_finish = record {
    bound = needed_now r.lists commands;
    bound_is = (reached_finishes o acc commands same long r.lists ts r.reach []).needed;
    told = bound_told;
    finishes = finishes_in_bytes;
    by_hand = λ lent room. by_hand b commands lent count (finishes_in_bytes lent room).0;
  }

-- byte lists that proper calls left are reached, and from there the dispatcher finishes
pub dispatcher_finishes_over_byte_calls : DispatcherFinishesOverBytes
dispatcher_finishes_over_byte_calls size workers capacity commands source lent b answer is calls proper count eight =
    let first = opening_bytes size workers capacity commands source lent b answer is in
    let last = all_reach _ first.0 commands refl first.1 calls b [] first.2 proper in
    bytes_finish _ first.0 commands refl first.1 (bytes_after_all calls b) (performed_all calls) last count eight

-- The dispatcher's promises over calls (specs/OverCalls), proved: what it wrote, handed to `advance`, leaves the same lists, so its calls count
-- as calls that deal that schedule; and from a reached state its schedule finishes. Assumes nothing.
use Prim.Native.Nat.{ℕ, ◌+◌, ◌*◌, ◌≤◌}
use native.Mathlib.Omega.{arith}
use mathlib.Core.Path.{◌≡◌, refl, sym, ap, ◌∙◌}
use mathlib.Core.Bool.{Bool, true, false, cond, ◌&&◌, and-eq-true_iff}
use mathlib.Core.List.{List, [], ◌∷◌, ◌++◌, append_assoc, append-nil}
use lib.ListN.{length, drop}
use lib.Seq.{take-append_seam, drop-append_seam}
use borrow.Author.Tests.{le-leb, leb-true}
use Rattle.s10.specs.Refusal.{plain}
use Rattle.command.specs.Read.{commands_in}
use Rattle.model.specs.Setup.{Setup, without_entries}
use Rattle.model.specs.Step.{State, opened, steps}
use Rattle.model.specs.Statement.{Accepted, all_within, removed}
use Rattle.model.specs.Dispatch.{commands_left, steps_needed, dispatched}
use Rattle.model.proofs.Dispatching.{dispatched_few, dispatched_within, dispatcher_finishes}
use Rattle.model.proofs.Entries.{needed_without, dispatched_without}
use Rattle.state_bytes.specs.Layout.{Lists, lists_of, setup_in, state_in, state_fits, handed_back_fit, image_fits}
use Rattle.state_bytes.specs.Outcome.{accepted}
use Rattle.opening.proofs.Accepted.{accepted_opening, passed as call_passed}
use Rattle.controller.specs.Calls.{advance_on}
use Rattle.controller.specs.Demand3.{call_on}
use Rattle.model.proofs.Formed.Opening.{accepted_formed}
use Rattle.model.proofs.Finish.Schedule.{within_append}
use Rattle.state_bytes.proofs.Passed.{state_passed}
use Rattle.state_bytes.proofs.RoundTrip.{lists_state, setup_read_back}
use Rattle.controller.proofs.Answer.{accepts}
use Rattle.controller.proofs.Demand3.{Reach, formed, read_back, opening_reaches, call_reaches, accepted_reaches, more_accepted, state_is, holds}
use Rattle.dispatcher.specs.Calls.{needed_now, Made, DispatchOutcome, made, refused, made_from, dispatch_on, lists_left}
use Rattle.dispatcher.specs.OverCalls.{schedule_in, Written, WhatIsWritten, AnyCall, advances, dispatches, after_any, lists_after_all, ProperAny, ProperAll, made_in, performed_by, performed_all, Demand3WithDispatcher, Finishes, DispatcherFinishesOverCalls}

-- ---- what is written

-- a test that an accepted call passed, and what it then came to
passed : (t : Bool) (n : ℕ) (x : DispatchOutcome) (d : Made) → cond t x (refused (plain n)) ≡ made d → (t ≡ true) × (x ≡ made d)
passed true n x d e = (refl, e)
passed false n x d e = absurd (let z : ◌≡◌ {A = ℕ} 0 1 = cc in omega arith)

-- what an accepted call passed, and came to
pub record Passes (l : Lists) (commands lent : List ℕ) (d : Made) : Type 0 where
  pub fit : handed_back_fit l commands ≡ true
  imaged : image_fits (setup_in l.state commands).capacity l ≡ true
  pub whole : state_fits l ≡ true
  room : needed_now l commands ≤ length lent
  is : made_from (setup_in l.state commands) (state_in l) lent ≡ d

dealt_same : (c d : Made) → made c ≡ made d → c ≡ d
dealt_same c d e = cc

pub passes : (l : Lists) (commands lent : List ℕ) (d : Made) → dispatch_on l commands lent ≡ made d → Passes l commands lent d
unfolding dispatch_on
passes l commands lent d e =
    let a = passed _ 6 _ d e in let b = passed _ 12 _ d a.1 in let c = passed _ 6 _ d b.1 in
    let both = (and-eq-true_iff (handed_back_fit l commands) (image_fits (setup_in l.state commands).capacity l)).0 a.0 in
    record { fit = both.0; imaged = both.1; whole = b.0; room = leb-true (needed_now l commands) (length lent) c.0; is = dealt_same _ d c.1 }

-- what was written is the schedule, and then the lent list's own bytes
module _ (o : Setup) (s : State) (lent : List ℕ) where
  schedule_is : schedule_in (made_from o s lent) ≡ dispatched o s
  unfolding made_from
  schedule_is = take-append_seam (dispatched o s) (drop (length (dispatched o s)) lent)

  lists_are : (made_from o s lent).lists ≡ lists_of o (steps o (dispatched o s) s)
  unfolding made_from
  lists_are = refl

  count_is : (made_from o s lent).count ≡ length (dispatched o s)
  unfolding made_from
  count_is = refl

  rest_is : drop (made_from o s lent).count (made_from o s lent).schedule ≡ drop (made_from o s lent).count lent
  unfolding made_from
  rest_is = drop-append_seam (dispatched o s) (drop (length (dispatched o s)) lent)

now_is : (l : Lists) (commands : List ℕ) → needed_now l commands ≡ steps_needed (setup_in l.state commands) (state_in l)
unfolding needed_now
now_is l commands = refl

-- the largest count is at least the one in force, which is at least 1
some_worker : (l : Lists) (commands : List ℕ) → state_fits l ≡ true → 1 ≤ (setup_in l.state commands).largest
unfolding setup_in
some_worker l commands whole = let h = (state_passed l whole).limit in omega (arith, h.0, h.1)

written_from : (l : Lists) (commands lent : List ℕ) → handed_back_fit l commands ≡ true → image_fits (setup_in l.state commands).capacity l ≡ true → state_fits l ≡ true
    → Written l commands lent (made_from (setup_in l.state commands) (state_in l) lent)
written_from l commands lent fit imaged whole = record {
  by_hand =
      ap (advance_on l commands) (schedule_is o (state_in l) lent)
      ∙ accepts l commands (dispatched o (state_in l)) {lent = lent} (record { lengths = fit; image = imaged; state = whole; named = dispatched_within o (some_worker l commands whole) (state_in l) })
      ∙ ap accepted (sym (lists_are o (state_in l) lent));
  counted = ap length (schedule_is o (state_in l) lent) ∙ sym (count_is o (state_in l) lent);
  untouched = rest_is o (state_in l) lent;
  few = omega (arith, count_is o (state_in l) lent, now_is l commands, dispatched_few o (state_in l));
}
  where
    o : Setup
    o = setup_in l.state commands

pub what_is_written : WhatIsWritten
what_is_written l commands lent d e = let p = passes l commands lent d e in rw (← p.is) (written_from l commands lent p.fit p.imaged p.whole)

-- ---- lists of calls

module _ (o : Setup) (acc : Accepted o) (commands : List ℕ) (same : o.commands ≡ commands_in commands) (long : length commands ≡ 16 * length o.commands) where
  -- a call that dispatches reaches what its schedule does; a refused one leaves the lists
  dispatch_reaches : (lists : Lists) (cs lent : List ℕ) (l : Lists) (ts : List ℕ) (outcome : DispatchOutcome) → dispatch_on lists cs lent ≡ outcome
      → ((d : Made) → outcome ≡ made d → (lists ≡ l) × (cs ≡ commands)) → Reach o l ts → Reach o (lists_left outcome l) (ts ++ made_in outcome)
  unfolding lists_left made_in
  dispatch_reaches lists cs lent l ts (made d) e handed r =
      let h = handed d refl in
      accepted_reaches o acc commands same long l d.lists ts (schedule_in d) r (what_is_written l commands lent d (rw (h.0, h.1) at e)).by_hand
  dispatch_reaches lists cs lent l ts (refused why) e handed r = rw (append-nil ts) r

  any_reaches : (call : AnyCall) (l : Lists) (ts : List ℕ) → ProperAny commands l call → Reach o l ts → Reach o (after_any call l) (ts ++ performed_by call)
  unfolding after_any performed_by
  any_reaches (advances call) l ts proper r = call_reaches o acc commands same long call l ts (call_on call) refl proper r
  any_reaches (dispatches lists cs lent) l ts proper r = dispatch_reaches lists cs lent l ts (dispatch_on lists cs lent) refl proper r

  -- call by call
  all_reach : (calls : List AnyCall) (l : Lists) (ts : List ℕ) → Reach o l ts → ProperAll commands l calls → Reach o (lists_after_all calls l) (ts ++ performed_all calls)
  unfolding lists_after_all performed_all
  all_reach [] l ts r proper = rw append-nil r
  all_reach (call ∷ calls) l ts r proper =
      rw (← append_assoc ts (performed_by call) (performed_all calls))
      (all_reach calls (after_any call l) (ts ++ performed_by call) (any_reaches call l ts proper.0 r) proper.1)

pub demand_3_with_dispatcher : Demand3WithDispatcher
demand_3_with_dispatcher size workers capacity commands source lent l e calls proper =
    let is = accepted_opening size workers capacity commands source lent l e in
    let r = all_reach _ is.setup commands refl is.long calls l [] (opening_reaches _ l is.lists) proper in
    holds _ is.setup commands refl is.long (lists_after_all calls l) (performed_all calls) r

-- ---- the finish

needed_is : (o : Setup) (s : State) → steps_needed o s ≡ (commands_left o s + o.largest) * (3 * o.size + 6)
unfolding steps_needed
needed_is o s = refl

accepted_same : (l m : Lists) → accepted l ≡ accepted m → l ≡ m
accepted_same l m e = cc

-- where every test passes, the call comes to what stands behind them
picks : (a i b c : Bool) (x y z w : DispatchOutcome) → a ≡ true → i ≡ true → b ≡ true → c ≡ true → cond (a && i) (cond b (cond c x y) z) w ≡ x
picks a i b c x y z w h j k l = rw (h, j, k, l)

-- a state that passes the tests, and a lent list with room
dispatches_on : (l : Lists) (commands lent : List ℕ) → handed_back_fit l commands ≡ true → image_fits (setup_in l.state commands).capacity l ≡ true → state_fits l ≡ true → needed_now l commands ≤ length lent
    → dispatch_on l commands lent ≡ made (made_from (setup_in l.state commands) (state_in l) lent)
unfolding dispatch_on
dispatches_on l commands lent fit imaged whole room = picks _ _ _ _ _ _ _ _ fit imaged whole (le-leb (needed_now l commands) (length lent) room)

module _ (o : Setup) (acc : Accepted o) (commands : List ℕ) (same : o.commands ≡ commands_in commands) (long : length commands ≡ 16 * length o.commands) (l : Lists) (ts : List ℕ) (r : Reach o l ts) where
  -- what is read of the lists is the setup without its entries, and the reached state
  setup_is : setup_in l.state commands ≡ without_entries o
  setup_is =
      ap (λ (m : Lists). setup_in m.state commands) r.1 ∙ ap (λ (b : List ℕ). setup_in b commands) (lists_state o (steps o ts (opened o)))
      ∙ setup_read_back o (steps o ts (opened o)) (accepted_formed o acc) (formed o acc ts r.0) commands same

  state_read : state_in l ≡ steps o ts (opened o)
  state_read = state_is o acc commands same long l ts r

  turns_now : needed_now l commands ≡ steps_needed o (steps o ts (opened o))
  turns_now = now_is l commands ∙ ap (λ (x : Setup). steps_needed x (state_in l)) setup_is ∙ needed_without o (state_in l) ∙ ap (steps_needed o) state_read

  schedule_now : dispatched (setup_in l.state commands) (state_in l) ≡ dispatched o (steps o ts (opened o))
  schedule_now = ap (λ (x : Setup). dispatched x (state_in l)) setup_is ∙ dispatched_without o (state_in l) ∙ ap (dispatched o) state_read

  -- they pass the tests of a call, since an empty schedule is accepted
  pub tests_passed : (handed_back_fit l commands ≡ true) × (image_fits (setup_in l.state commands).capacity l ≡ true) × (state_fits l ≡ true)
  unfolding advance_on all_within
  tests_passed =
      let e = more_accepted o acc commands same long l ts r [] refl in
      let a = call_passed _ 6 e in let b = call_passed _ 12 a.1 in
      let both = (and-eq-true_iff (handed_back_fit l commands) (image_fits (setup_in l.state commands).capacity l)).0 a.0 in
      (both.0, both.1, b.0)

  -- the lists that it leaves are those of the state that its schedule reaches
  module _ (lent : List ℕ) where
    abbrev d : Made
    d = made_from (setup_in l.state commands) (state_in l) lent

    schedule_reached : schedule_in d ≡ dispatched o (steps o ts (opened o))
    schedule_reached = schedule_is (setup_in l.state commands) (state_in l) lent ∙ schedule_now

    lists_reached : d.lists ≡ lists_of o (steps o (ts ++ dispatched o (steps o ts (opened o))) (opened o))
    lists_reached =
        let p = dispatcher_finishes o acc ts r.0 in
        let t = tests_passed in
        let w = (written_from l commands lent t.0 t.1 t.2).by_hand in
        let m = more_accepted o acc commands same long l ts r (dispatched o (steps o ts (opened o))) p.within in
        accepted_same _ _ (sym w ∙ ap (advance_on l commands) schedule_reached ∙ m)

    pub reached_finishes : Finishes o commands l ts lent
    reached_finishes =
        let p = dispatcher_finishes o acc ts r.0 in
        let t = tests_passed in
        let more = dispatched o (steps o ts (opened o)) in
        let last = within_append o.largest ts more r.0 p.within in
        record {
          needed = turns_now ∙ needed_is o (steps o ts (opened o)) ∙ ap (λ n. (n + o.largest) * (3 * o.size + 6)) p.left;
          finishes = λ room. (
            d,
            dispatches_on l commands lent t.0 t.1 t.2 room,
            λ c low high. ap (λ (x : List ℕ). removed o c (ts ++ x) (opened o)) schedule_reached ∙ p.removes c low high,
            λ u h. ap (λ (m : Lists). (state_in m).threads u) lists_reached ∙ ap (λ (x : State). x.threads u) (read_back o acc (ts ++ more) last) ∙ p.idle u h,
          );
        }

pub dispatcher_finishes_over_calls : DispatcherFinishesOverCalls
dispatcher_finishes_over_calls size workers capacity commands source lists l e calls proper lent =
    let is = accepted_opening size workers capacity commands source lists l e in
    let r = all_reach _ is.setup commands refl is.long calls l [] (opening_reaches _ l is.lists) proper in
    reached_finishes _ is.setup commands refl is.long (lists_after_all calls l) (performed_all calls) r lent

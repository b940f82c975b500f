-- Demand 3 over calls, proved: the lists kept are always those of the state that the performed schedules reach, so that the five parts of
-- the model's theorem are read off them. Assumes nothing.
use Prim.Native.Nat.{ℕ, zero, suc, ◌+◌, ◌*◌, ◌≤◌, ◌<◌}
use native.Mathlib.Numerals.{add-one}
use native.Mathlib.Omega.{arith}
use mathlib.Core.Path.{◌≡◌, refl, sym, ap, ◌∙◌}
use mathlib.Core.Bool.{true, cond, ◌||◌, or-true}
use mathlib.Core.List.{List, [], ◌∷◌, ◌++◌, map, append_assoc, append-nil}
use lib.ListN.{length, get_or}
use lib.Dec.{leb, ltb}
use borrow.Author.Tests.{lt-ltb, le-leb}
use Rattle.model.specs.Serial.{Entry}
use Rattle.model.specs.Store.{lay_out}
use Rattle.model.specs.Setup.{Setup, without_entries}
use Rattle.model.specs.Step.{State, opened, steps}
use Rattle.model.specs.Statement.{Accepted, all_within, Holds}
use Rattle.model.specs.Serial.{Ascending}
use Rattle.model.proofs.Service.{entries_ascending, count_within}
use Rattle.model.proofs.Finish.Schedule.{steps_append, within_append}
use Rattle.model.proofs.Theorem.{reached, table_at_any_moment, demand_3}
use Rattle.model.proofs.Entries.{steps_without}
use Rattle.model.proofs.Formed.{Formed}
use Rattle.model.proofs.Formed.Keep.{steps_formed}
use Rattle.model.proofs.Formed.Opening.{opened_formed, accepted_formed}
use Rattle.s10.specs.Refusal.{plain}
use Rattle.command.specs.Read.{commands_in}
use Rattle.state_bytes.specs.Layout.{Lists, head_bytes, state_bytes, lists_of, setup_in, state_in, ascends, state_fits, handed_back_fit, image_fits}
use Rattle.opening.specs.Calls.{Source, open_on, setup_of}
use Rattle.state_bytes.specs.Outcome.{CallOutcome, accepted, refused, kept}
use Rattle.controller.specs.Calls.{advance_on}
use Rattle.controller.specs.Demand3.{Call, call_on, lists_after, ProperCall, Proper, accepts, schedules, HoldsAfter, Demand3OverCalls}
use Rattle.byte_fields.proofs.Bytes.{below_or_past, each_all_below}
use Rattle.state_bytes.proofs.RoundTrip.{lists_state, lists_image, state_read_back, setup_read_back, lists_fit, image_fits_lem, state_fits_lem}
use Rattle.opening.proofs.Accepted.{passed, IsOpened, accepted_opening}

-- ---- the store's keys ascend

-- each key of ascending entries is smaller than the next
next_larger : (es : List Entry) (z : List ℕ) → Ascending es → (i : ℕ) → suc i < length es
    → get_or (map (λ (e : Entry). e.key) es ++ z) i 0 < get_or (map (λ (e : Entry). e.key) es ++ z) (suc i) 0
next_larger [] z h i l = absurd (omega arith)
next_larger (e ∷ []) z h i l = absurd (omega arith)
next_larger (e ∷ f ∷ es) z h zero l = h.0.0
next_larger (e ∷ f ∷ es) z h (suc i) l = next_larger (f ∷ es) z h.1 i (omega arith)

-- so the first used keys ascend: the last of them has none to be smaller than
ascends_where : (used : ℕ) (keys : List ℕ) → ((i : ℕ) → suc i < used → get_or keys i 0 < get_or keys (suc i) 0) → ascends used keys ≡ true
unfolding ascends
ascends_where used keys larger =
    each_all_below used (λ i. leb used (i + 1) || ltb (get_or keys i 0) (get_or keys (i + 1) 0)) (λ i below.
    below_or_past (suc i) used
    (λ l. rw (add-one i, lt-ltb (get_or keys i 0) (get_or keys (suc i) 0) (larger i l)) (or-true (leb used (suc i))))
    (λ l. rw (le-leb used (i + 1) (omega arith))))

-- and those of a store laid out from ascending entries do
laid_ascends : (capacity : ℕ) (es : List Entry) → Ascending es → ascends (lay_out capacity es).used (lay_out capacity es).keys ≡ true
unfolding lay_out
laid_ascends capacity es h = ascends_where (length es) _ (next_larger es _ h)

-- ---- the calls

-- the definition of the answers read, unfolded once
answer_in : (l : Lists) (c : ℕ) → (state_in l).service.answers c ≡ get_or (0 ∷ l.answers) c 0
unfolding state_in
answer_in l c = refl

-- lists hold nothing of the opening's entries
lists_without : (o : Setup) (s : State) → lists_of (without_entries o) s ≡ lists_of o s
unfolding lists_of state_bytes head_bytes
lists_without o s = refl

-- a call on lists that fit performs its schedule on what is read of them, or refuses an unknown thread
advance_is : (l : Lists) (commands schedule : List ℕ) (o : Setup) (s : State) → handed_back_fit l commands ≡ true → image_fits (setup_in l.state commands).capacity l ≡ true
    → state_fits l ≡ true → setup_in l.state commands ≡ without_entries o → state_in l ≡ s
    → advance_on l commands schedule ≡ cond (all_within o.largest schedule) (accepted (lists_of o (steps o schedule s))) (refused (plain 11))
unfolding advance_on
advance_is l commands schedule o s fit imaged whole setup state = rw (fit, imaged, whole, setup, state, steps_without o schedule s, lists_without o (steps o schedule s))

-- the lists are those that a schedule reaches from the opening
abbrev pub Reach : Setup → Lists → List ℕ → Type 0
Reach o l ts = (all_within o.largest ts ≡ true) × (l ≡ lists_of o (steps o ts (opened o)))

-- their image is the reached state's
pub image_is : (o : Setup) (l : Lists) (ts : List ℕ) → Reach o l ts → l.image ≡ (steps o ts (opened o)).service.image
image_is o l ts r = ap (λ (m : Lists). m.image) r.1 ∙ lists_image o (steps o ts (opened o))

-- the opening reaches its lists by no step
pub opening_reaches : (o : Setup) (l : Lists) → l ≡ lists_of o (opened o) → Reach o l []
unfolding all_within steps
opening_reaches o l e = (refl, e)

module _ (o : Setup) (acc : Accepted o) (ts : List ℕ) (within : all_within o.largest ts ≡ true) where
  -- a reached state is formed, its keys ascend, and its lists are read as it
  pub formed : Formed o (steps o ts (opened o))
  formed = steps_formed o (accepted_formed o acc) ts within (opened o) (opened_formed o acc.size.0 acc.workers.0 acc.entries (accepted_formed o acc))

  ascending : ascends (steps o ts (opened o)).service.store.used (steps o ts (opened o)).service.store.keys ≡ true
  ascending = rw (table_at_any_moment o acc ts within) (laid_ascends o.capacity _ (entries_ascending o acc _))

  -- the worker count in force is one of the opening's and the list's
  limited : (steps o ts (opened o)).service.limit ≤ o.largest
  limited = rw (reached o acc ts within).service.limited (count_within o acc _).1

  pub read_back : state_in (lists_of o (steps o ts (opened o))) ≡ steps o ts (opened o)
  read_back = state_read_back o (steps o ts (opened o)) (accepted_formed o acc) formed

  -- a call on the lists of a reached state performs its schedule, or refuses an unknown thread
  call_performs : (commands : List ℕ) → o.commands ≡ commands_in commands → length commands ≡ 16 * length o.commands → (schedule : List ℕ)
      → advance_on (lists_of o (steps o ts (opened o))) commands schedule
      ≡ cond (all_within o.largest schedule) (accepted (lists_of o (steps o (ts ++ schedule) (opened o)))) (refused (plain 11))
  call_performs commands same long schedule =
      let s : State = steps o ts (opened o) in
      let fo = accepted_formed o acc in
      rw (steps_append o ts schedule (opened o))
      (advance_is (lists_of o s) commands schedule o s (lists_fit o s fo formed commands long) (ap (λ (b : List ℕ). image_fits (setup_in b commands).capacity (lists_of o s)) (lists_state o s) ∙ image_fits_lem o s fo formed commands)
      (state_fits_lem o s fo formed acc.size.0 acc.workers.0 limited acc.capacity.0 ascending)
      (rw (lists_state o s) (setup_read_back o s fo formed commands same)) read_back)

-- ---- the lists after calls

module _ (o : Setup) (acc : Accepted o) (commands : List ℕ) (same : o.commands ≡ commands_in commands) (long : length commands ≡ 16 * length o.commands) where
  -- an accepted call adds its schedule
  pub accepted_reaches : (l m : Lists) (ts schedule : List ℕ) → Reach o l ts → advance_on l commands schedule ≡ accepted m → Reach o m (ts ++ schedule)
  accepted_reaches l m ts schedule r e =
      let performed = sym (call_performs o acc ts r.0 commands same long schedule) ∙ rw r.1 at e in
      let pass = passed (all_within o.largest schedule) 11 performed in
      (within_append o.largest ts schedule r.0 pass.0, (let q = pass.1 in cc))

  -- a refused call leaves the lists, and an accepted one leaves those that its schedule reaches
  pub call_reaches : (call : Call) (l : Lists) (ts : List ℕ) (outcome : CallOutcome) → call_on call ≡ outcome → ProperCall commands l call outcome → Reach o l ts
      → Reach o (kept outcome l) (ts ++ accepts outcome call.schedule)
  unfolding call_on kept
  call_reaches call l ts (accepted m) e handed r = accepted_reaches l m ts call.schedule r (rw (handed.0, handed.1) at e)
  call_reaches call l ts (refused why) e handed r = rw (append-nil ts) r

  -- call by call
  pub calls_reach : (calls : List Call) (l : Lists) (ts : List ℕ) → Reach o l ts → Proper commands l calls → Reach o (lists_after calls l) (ts ++ schedules calls)
  unfolding lists_after schedules
  calls_reach [] l ts r proper = rw append-nil r
  calls_reach (call ∷ calls) l ts r proper =
      rw (← append_assoc ts (accepts (call_on call) call.schedule) (schedules calls))
      (calls_reach calls (kept (call_on call) l) (ts ++ accepts (call_on call) call.schedule) (call_reaches call l ts (call_on call) refl proper.0 r) proper.1)

  -- ---- the five parts

  module _ (l : Lists) (ts : List ℕ) (r : Reach o l ts) where
    -- what is read of the lists is the reached state
    pub state_is : state_in l ≡ steps o ts (opened o)
    state_is = rw r.1 (read_back o acc ts r.0)

    answer_is : (c : ℕ) → get_or (0 ∷ l.answers) c 0 ≡ (steps o ts (opened o)).service.answers c
    answer_is c = sym (answer_in l c) ∙ ap (λ (s : State). s.service.answers c) state_is

    -- a schedule that names known threads is accepted
    pub more_accepted : (more : List ℕ) → all_within o.largest more ≡ true → advance_on l commands more ≡ accepted (lists_of o (steps o (ts ++ more) (opened o)))
    more_accepted more within = rw r.1 (call_performs o acc ts r.0 commands same long more ∙ rw within)

    -- each part is the model's
    pub holds : HoldsAfter o commands l ts
    holds =
        let model : Holds o ts = demand_3 o acc ts r.0 in
        let f = model.finish in
        let last : State = steps o (ts ++ f.0) (opened o) in
        let read_last : state_in (lists_of o last) ≡ last = read_back o acc (ts ++ f.0) (within_append o.largest ts f.0 r.0 f.1) in
        record {
          answer = λ c low high. answer_is c ∙ model.answer c low high;
          table = λ all. (λ c low high. rw (answer_is c) ((model.table all).0 c low high), ap (λ (s : State). s.service.store) state_is ∙ (model.table all).1);
          finish = (f.0, lists_of o last, more_accepted f.0 f.1, f.2, λ t h. ap (λ (s : State). s.threads t) read_last ∙ f.3 t h);
          moment = ap (λ (s : State). s.service.store) state_is ∙ model.moment;
          image = image_is o l ts r ∙ model.image;
        }

-- the opening's lists are those of the empty schedule, and every proper list of calls goes on from there
pub opening_and_calls_reach : (size workers capacity : ℕ) (commands : List ℕ) (source : Source) (lent l : Lists) → open_on size workers capacity commands source lent ≡ accepted l
    → (calls : List Call) → Proper commands l calls
    → let o : Setup = setup_of size workers capacity commands source in
    IsOpened o commands l × Reach o (lists_after calls l) (schedules calls)
opening_and_calls_reach size workers capacity commands source lent l e calls proper =
    let is = accepted_opening size workers capacity commands source lent l e in
    (is, calls_reach _ is.setup commands refl is.long calls l [] (opening_reaches _ l is.lists) proper)

pub demand_3_over_calls : Demand3OverCalls
demand_3_over_calls size workers capacity commands source lent l e calls proper =
    let r = opening_and_calls_reach size workers capacity commands source lent l e calls proper in
    holds _ r.0.setup commands refl r.0.long (lists_after calls l) (schedules calls) r.1

-- an accepted opening, then one call: a schedule of known threads is performed, and what is read of the lists left is the state reached
pub opening_performs : (size workers capacity : ℕ) (commands : List ℕ) (source : Source) (lent l : Lists) → open_on size workers capacity commands source lent ≡ accepted l
    → let o : Setup = setup_of size workers capacity commands source in
    (schedule : List ℕ) → all_within o.largest schedule ≡ true →
    let s : State = steps o schedule (opened o) in
    (advance_on l commands schedule ≡ accepted (lists_of o s)) × (state_in (lists_of o s) ≡ s)
opening_performs size workers capacity commands source lent l e schedule within =
    let o : Setup = setup_of size workers capacity commands source in
    let is : IsOpened o commands l = accepted_opening size workers capacity commands source lent l e in
    (more_accepted o is.setup commands refl is.long l [] (opening_reaches o l is.lists) schedule within, read_back o is.setup schedule within)

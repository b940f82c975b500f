-- Demand 3 over the calls of a host in C, proved: the numbers of the lists that calls reach fit their bytes, so the byte lists kept are
-- always read as the lists of the state that the performed schedules reach, and the five parts are those over calls on numbers. Assumes nothing.
use Prim.Native.Nat.{ℕ, zero, suc, ◌-◌, ◌*◌, ◌%◌, ◌^◌, ◌≤◌, ◌<◌}
use native.Mathlib.Omega.{arith}
use mathlib.Core.Path.{◌≡◌, refl, sym, ap, ◌∙◌}
use mathlib.Core.Bool.{Bool, true, false, cond}
use mathlib.Core.List.{List, [], ◌∷◌, ◌++◌, append_assoc, append-nil}
use lib.ListN.{length, get_or}
use lib.Dec.{eqb}
use borrow.Author.Tests.{eq-eqb, eqb-true}
use Rattle.s10.specs.Text.{largest_key}
use Rattle.command.specs.Read.{commands_in}
use Rattle.model.specs.declared.Thread.TheVariants.{Idle}
use Rattle.model.specs.Store.{Store}
use Rattle.model.specs.Setup.{Setup}
use Rattle.model.specs.Step.{State, opened, steps}
use Rattle.model.specs.Statement.{Accepted, all_within, EachCommand}
use Rattle.model.proofs.Bounds.{reached_keys, reached_answers}
use Rattle.state_bytes.specs.Layout.{Lists, thread_bytes, lists_of, state_in}
use Rattle.byte_fields.proofs.Bytes.{below_or_past, lies_taken, lies_field, tabulate_length, tabulate_at, tabulate_past}
use Rattle.state_bytes.proofs.StateParts.{thread_length, part_lies}
use Rattle.state_bytes.proofs.RoundTrip.{lists_state, lists_answers, lists_keys, lists_chutes}
use Rattle.state_bytes.specs.Outcome.{CallOutcome, accepted}
use Rattle.controller.specs.Calls.{advance_on}
use Rattle.opening.specs.Calls.{Source, setup_of}
use Rattle.controller.specs.Demand3.{Call}
use Rattle.opening.proofs.Accepted.{IsOpened, accepted_opening}
use Rattle.controller.proofs.Demand3.{Reach, opening_reaches, formed, accepted_reaches, state_is, holds}
use Rattle.depot_c.specs.Numbers.{bytes_in}
use Rattle.depot_c.specs.Boundary.{are_whole, number_lists, decoded, encoded, left, open_answer, open_left, advance_answer, advance_left}
use Rattle.depot_c.specs.Demand3.{answer_to, after_call, bytes_after, ProperBytes, bytes_schedules, answer_at, TableIs, IsIdle, BytesHoldAfter, Demand3OverBytes}
use Rattle.depot_c.proofs.Entries.{bytes_in_length, number_in_bytes, bytes_in_read_back}
use Rattle.depot_c.proofs.Outcomes.{decoded_whole}
use Rattle.depot_c.proofs.Accepted.{accepted_answers, opening_accepted, advance_accepted}
use Rattle.model.proofs.Service.{largest_fits}

-- ---- lists of numbers and their bytes

-- each number fits its bytes
pub record Bounded (l : Lists) : Type 0 where
  pub keys : (i : ℕ) → get_or l.keys i 0 < 256 ^ 8
  pub chutes : (i : ℕ) → get_or l.chutes i 0 < 256 ^ 2
  pub answers : (i : ℕ) → get_or l.answers i 0 < 256 ^ 2

-- bytes of numbers end with a number
encoded_whole : (l : Lists) → are_whole (length (encoded l).keys) (length (encoded l).chutes) (length (encoded l).answers) ≡ true
unfolding are_whole encoded
encoded_whole l =
    let keys = eq-eqb (length (bytes_in 8 l.keys) % 8) 0 (omega (arith, bytes_in_length 8 l.keys)) in
    let chutes = eq-eqb (length (bytes_in 2 l.chutes) % 2) 0 (omega (arith, bytes_in_length 2 l.chutes)) in
    let answers = eq-eqb (length (bytes_in 2 l.answers) % 2) 0 (omega (arith, bytes_in_length 2 l.answers)) in
    rw (keys, chutes, answers)

-- lists whose numbers fit are those that their bytes write
pub encoded_read_back : (l : Lists) → Bounded l → decoded (encoded l) ≡ l
unfolding number_lists encoded
encoded_read_back l fit =
    decoded_whole (encoded l) (encoded_whole l)
    ∙ rw (bytes_in_read_back 8 l.keys (omega arith) fit.keys, bytes_in_read_back 2 l.chutes (omega arith) fit.chutes, bytes_in_read_back 2 l.answers (omega arith) fit.answers)

-- ---- what calls reach

-- the byte lists are those of lists that a schedule reaches
pub record BytesReach (o : Setup) (b : Lists) (ts : List ℕ) : Type 0 where
  pub lists : Lists
  pub bytes : b ≡ encoded lists
  pub reach : Reach o lists ts

-- the byte lists of an accepted opening are those that the empty schedule reaches
pub opening_bytes : (size workers capacity : ℕ) (commands : List ℕ) (source : Source) (lent b : Lists)
    → open_answer size workers capacity commands source lent ≡ 0 → open_left size workers capacity commands source lent ≡ b
    → let o : Setup = setup_of size workers capacity commands source in
    Accepted o × (length commands ≡ 16 * length o.commands) × BytesReach o b []
unfolding left
opening_bytes size workers capacity commands source lent b answer is =
    let o : Setup = setup_of size workers capacity commands source in
    let a = opening_accepted size workers capacity commands source (decoded lent) answer in
    let opening : IsOpened o commands a.0 = accepted_opening size workers capacity commands source (decoded lent) a.0 a.1 in (
      opening.setup,
      opening.long,
      record {
        lists = a.0;
        bytes = sym is ∙ ap (λ (x : CallOutcome). left x lent) a.1;
        reach = opening_reaches o a.0 opening.lists;
      },
    )

-- a call that answers 0 adds its schedule, and any other adds nothing and leaves the byte lists
pub answered_reaches : (o : Setup) (answer : ℕ) (after b : Lists) (ts schedule : List ℕ) → (answer ≡ 0 → BytesReach o after (ts ++ schedule)) → BytesReach o b ts
    → BytesReach o (cond (eqb answer 0) after b) (ts ++ cond (eqb answer 0) schedule [])
answered_reaches o answer after b ts schedule zero_reaches r = by (eqb answer 0) refl
  where
    by : (t : Bool) → eqb answer 0 ≡ t → BytesReach o (cond t after b) (ts ++ cond t schedule [])
    by true e = zero_reaches (eqb-true answer 0 e)
    by false e = rw (append-nil ts) r

module _ (o : Setup) (acc : Accepted o) (commands : List ℕ) (same : o.commands ≡ commands_in commands) (long : length commands ≡ 16 * length o.commands) where
  -- the numbers of a reached state's lists fit: each key is a command's, a first entry's or 0, and an answer is a number of two bytes
  state_bounded : (ts : List ℕ) → all_within o.largest ts ≡ true → Bounded (lists_of o (steps o ts (opened o)))
  unfolding largest_key
  state_bounded ts within =
      let s : State = steps o ts (opened o) in
      let given : ℕ → ℕ = λ j. s.service.answers (suc j) in
      record {
        keys = λ i. rw (lists_keys o s) (omega (arith, reached_keys o acc ts within (λ n. n ≤ largest_key) (omega arith) acc.keys acc.entries.keys i));
        chutes = λ i. rw (lists_chutes o s) (omega (arith, (formed o acc ts within).service.store.chutes_fit i));
        answers = λ i. rw (lists_answers o s)
            (below_or_past i (length o.commands)
            (λ h. rw (tabulate_at (length o.commands) given 0 i h) (omega (arith, reached_answers o acc ts within (suc i) (omega arith) (omega arith))))
            (λ h. rw (tabulate_past (length o.commands) given 0 i h) (omega arith)));
      }

  -- so lists that calls reach are read back from their bytes
  pub reached_read_back : (l : Lists) (ts : List ℕ) → Reach o l ts → decoded (encoded l) ≡ l
  reached_read_back l ts r = rw r.1 (encoded_read_back (lists_of o (steps o ts (opened o))) (state_bounded ts r.0))

  -- and what is read of byte lists that calls reach is the lists reached
  pub read_reached : (b : Lists) (ts : List ℕ) (r : BytesReach o b ts) → decoded b ≡ r.lists
  read_reached b ts r = ap decoded r.bytes ∙ reached_read_back r.lists ts r.reach

  -- an accepted call adds its schedule, and leaves the bytes of the lists reached
  pub accepted_call : (b : Lists) (ts schedule : List ℕ) → BytesReach o b ts → advance_answer b commands schedule ≡ 0 → BytesReach o (advance_left b commands schedule) (ts ++ schedule)
  unfolding left
  accepted_call b ts schedule r e =
      let a = advance_accepted (decoded b) commands schedule e in
      record {
        lists = a.0;
        bytes = ap (λ (x : CallOutcome). left x b) a.1;
        reach = accepted_reaches o acc commands same long r.lists a.0 ts schedule r.reach (ap (λ (l : Lists). advance_on l commands schedule) (sym (read_reached b ts r)) ∙ a.1);
      }

  -- a proper call, if it answers 0, was handed the byte lists reached, and goes on from there
  pub call_reaches : (call : Call) (b : Lists) (ts : List ℕ) → (answer_to call ≡ 0 → (call.lists ≡ b) × (call.commands ≡ commands)) → BytesReach o b ts
      → BytesReach o (after_call call b) (ts ++ cond (eqb (answer_to call) 0) call.schedule [])
  unfolding answer_to after_call
  call_reaches call b ts proper r =
      answered_reaches o (answer_to call) (advance_left call.lists call.commands call.schedule) b ts call.schedule
      (λ zero_answer.
      let handed = proper zero_answer in
      rw (handed.0, handed.1) (accepted_call b ts call.schedule r (rw (handed.0, handed.1) at zero_answer)))
      r

  -- call by call
  calls_reach : (calls : List Call) (b : Lists) (ts : List ℕ) → BytesReach o b ts → ProperBytes commands b calls → BytesReach o (bytes_after calls b) (ts ++ bytes_schedules calls)
  unfolding bytes_after bytes_schedules
  calls_reach [] b ts r proper = rw append-nil r
  calls_reach (call ∷ calls) b ts r proper =
      let performed : List ℕ = cond (eqb (answer_to call) 0) call.schedule [] in
      rw (← append_assoc ts performed (bytes_schedules calls))
      (calls_reach calls (after_call call b) (ts ++ performed) (call_reaches call b ts proper.0 r) proper.1)

  -- ---- the five parts

  -- the bytes of a thread that is read as idle are an idle one's: they are laid out so
  pub idle_read : (l : Lists) (ts : List ℕ) → Reach o l ts → (t : ℕ) → t ≤ o.largest → (state_in l).threads t ≡ Idle → IsIdle t (encoded l)
  unfolding encoded
  idle_read l ts r t h e =
      let s : State = steps o ts (opened o) in
      let idle : s.threads t ≡ Idle = ap (λ (x : State). x.threads t) (sym (state_is o acc commands same long l ts r)) ∙ e in
      let laid = lies_field 5 65 (λ i. thread_bytes (s.threads i)) (λ i. thread_length (s.threads i)) (part_lies o s 15 (omega arith)) t (omega (arith, largest_fits o acc)) in
      rw (r.1, lists_state o s, ← idle) (lies_taken 5 (thread_length (s.threads t)) laid)

  module _ (l : Lists) (ts : List ℕ) (r : Reach o l ts) where
    -- there is an answer for each command
    answers_length : length l.answers ≡ length o.commands
    answers_length = ap (λ (m : Lists). length m.answers) r.1 ∙ rw (lists_answers o (steps o ts (opened o))) (tabulate_length (length o.commands) _)

    -- the two bytes at a command's place are its answer
    answer_read : EachCommand o (λ c. answer_at c (encoded l) ≡ get_or (0 ∷ l.answers) c 0)
    unfolding answer_at encoded
    answer_read zero low high = absurd (omega arith)
    answer_read (suc i) low high =
        let fit : Bounded l = rw r.1 (state_bounded ts r.0) in
        let place : suc i - 1 ≡ i = omega arith in
        rw place (number_in_bytes 2 l.answers i (omega (arith, answers_length)) (fit.answers i))

    -- a store read of the lists is the chute table of their bytes
    table_read : (store : Store) → (state_in l).service.store ≡ store → TableIs store (encoded l)
    unfolding state_in encoded
    table_read store e = record {
      keys = ap (λ (st : Store). bytes_in 8 st.keys) e;
      chutes = ap (λ (st : Store). bytes_in 2 st.chutes) e;
      used = ap (λ (st : Store). st.used) e;
    }

    -- an image is bytes as it stands
    image_read : (encoded l).image ≡ l.image
    unfolding encoded
    image_read = refl

    -- a call on the bytes is one on the lists
    call_read : (more : List ℕ) (m : Lists) → advance_on l commands more ≡ accepted m
        → (advance_answer (encoded l) commands more ≡ 0) × (advance_left (encoded l) commands more ≡ encoded m)
    unfolding left
    call_read more m e = rw (reached_read_back l ts r, e) (accepted_answers m, refl)

    -- each part is the one over calls on numbers
    pub bytes_hold : BytesHoldAfter o commands (encoded l) ts
    bytes_hold =
        let numbers = holds o acc commands same long l ts r in
        let f = numbers.finish in
        let m : Lists = f.1 in
        let last : Reach o m (ts ++ f.0) = accepted_reaches o acc commands same long l m ts f.0 r f.2 in
        let call = call_read f.0 m f.2 in
        record {
          answer = λ c low high. answer_read c low high ∙ numbers.answer c low high;
          table = λ all. (λ c low high. rw (answer_read c low high) ((numbers.table all).0 c low high), table_read _ (numbers.table all).1);
          finish = (f.0, call.0, f.3, λ t h. rw call.1 (idle_read m (ts ++ f.0) last t h (f.4 t h)));
          moment = table_read _ numbers.moment;
          image = image_read ∙ numbers.image;
        }

-- every proper list of calls goes on from the opening's byte lists
pub demand_3_over_byte_calls : Demand3OverBytes
demand_3_over_byte_calls size workers capacity commands source lent b answer is calls proper =
    let first = opening_bytes size workers capacity commands source lent b answer is in
    let last = calls_reach _ first.0 commands refl first.1 calls b [] first.2 proper in
    rw last.bytes (bytes_hold _ first.0 commands refl first.1 last.lists (bytes_schedules calls) last.reach)

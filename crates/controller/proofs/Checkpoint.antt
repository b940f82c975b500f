-- The promise on restarts over calls, proved: the lent image is that of the state which the calls reach, and an opening from it with the
-- rest of the list is the model's. Assumes nothing.
use Prim.Native.Nat.{ℕ, zero, suc, ◌+◌, ◌-◌, ◌*◌, ◌/◌, ◌%◌, ◌≤◌}
use native.Mathlib.Omega.{arith}
use mathlib.Core.Path.{◌≡◌, refl, ap, ◌∙◌}
use mathlib.Core.Bool.{true, cond, ◌&&◌, and-eq-true_iff}
use mathlib.Core.List.{List, ◌∷◌}
use lib.ListN.{length, get_or, drop, length-drop}
use lib.Seq.{get_or-drop}
use lib.Dec.{leb}
use borrow.Author.Tests.{le-leb, eq-eqb}
use Rattle.command.specs.Read.{ListOutcome, all_accepted, first_refusal, readings, commands_in}
use Rattle.command.proofs.Rest.{commands_drop, none_refused_drop}
use Rattle.model.specs.Serial.{serial_answers, serial_entries}
use Rattle.model.specs.Store.{lay_out}
use Rattle.model.specs.Setup.{Setup}
use Rattle.model.specs.Image.{image_length, seq_in}
use Rattle.model.specs.Step.{opened}
use Rattle.model.specs.Statement.{Accepted, wrote, serial_answer}
use Rattle.model.specs.Checkpoint.{resumed, Resumes}
use Rattle.model.proofs.Checkpoint.{restart}
use Rattle.state_bytes.specs.Layout.{Lists, lists_of, lengths_fit, image_fits}
use Rattle.state_bytes.specs.Outcome.{accepted}
use Rattle.opening.specs.Calls.{image_from, source_long, source_chained, source_fits, first_entries, opened_with, open_on, setup_of}
use Rattle.controller.specs.Demand3.{Call, lists_after, schedules, HoldsAfter}
use Rattle.controller.specs.Checkpoint.{GoesOn, RestartOverCalls}
use Rattle.opening.proofs.Tests.{five_passed, reads_list}
use Rattle.controller.proofs.Demand3.{Reach, formed, image_is, opening_and_calls_reach, demand_3_over_calls}

-- ---- the image that calls leave

module _ (o : Setup) (acc : Accepted o) (l : Lists) (ts : List ℕ) (r : Reach o l ts) where
  -- it is as long as the capacity asks
  image_long : length l.image ≡ image_length o.capacity
  image_long = ap length (image_is o l ts r) ∙ (formed o acc ts r.0).service.image

  -- so the model's run goes on from it
  image_resumes : 1 ≤ seq_in l.image → (size workers : ℕ) → (1 ≤ size) × (size ≤ 150) → (1 ≤ workers) × (workers ≤ 64) → Resumes o size workers l.image
  image_resumes some_place size workers sizes counts =
      rw (image_is o l ts r) (restart o acc ts r.0 (rw (image_is o l ts r) at some_place) size workers sizes counts)

-- ---- an opening from an image

-- a number in a range passes its two tests
in_range : (n high : ℕ) → (1 ≤ n) × (n ≤ high) → (leb 1 n && leb n high) ≡ true
in_range n high h = (and-eq-true_iff (leb 1 n) (leb n high)).1 (le-leb 1 n h.0, le-leb n high h.1)

-- the answer of place c of the rest is that of place p + c of the whole
answer_after : (p : ℕ) (answers : List ℕ) (c : ℕ) → 1 ≤ c → get_or (0 ∷ drop p answers) c 0 ≡ get_or (0 ∷ answers) (p + c) 0
answer_after p answers zero low = absurd (omega arith)
answer_after p answers (suc i) low = let place : p + suc i ≡ suc (p + i) = omega arith in rw place (get_or-drop p answers i 0)

module _ (o : Setup) (acc : Accepted o) (commands : List ℕ) (same : o.commands ≡ commands_in commands) (long : length commands ≡ 16 * length o.commands)
    (read : first_refusal 1 (readings commands) ≡ all_accepted) (image : List ℕ) (image_length_lem : length image ≡ image_length o.capacity)
    (size workers : ℕ) (resumes : Resumes o size workers image) where
  abbrev rest : List ℕ
  rest = drop (16 * seq_in image) commands

  abbrev again : Setup
  again = setup_of size workers o.capacity rest (image_from image)

  -- what it fixes is the model's opening from that image
  again_is : again ≡ resumed o size workers image
  unfolding first_entries
  again_is = rw (commands_drop (seq_in image) commands, ← same)

  rest_length : length rest ≡ length commands - 16 * seq_in image
  rest_length = length-drop (16 * seq_in image) commands

  -- each test passes
  opens : (fresh : Lists) → lengths_fit o.capacity (length rest / 16) fresh ≡ true → image_fits o.capacity fresh ≡ true
      → open_on size workers o.capacity rest (image_from image) fresh ≡ accepted (lists_of again (opened again))
  unfolding opened_with source_long source_chained source_fits
  opens fresh fit imaged =
      five_passed size workers o.capacity rest (image_from image) fresh (in_range size 150 resumes.accepted.size) (in_range workers 64 resumes.accepted.workers) (in_range o.capacity 4096 acc.capacity)
      (eq-eqb (length rest % 16) 0 (omega (arith, rest_length, long))) (le-leb (length rest / 16) 4096 (omega (arith, rest_length, long, acc.count)))
      ∙ (reads_list size workers o.capacity rest (image_from image) fresh ((and-eq-true_iff (lengths_fit o.capacity (length rest / 16) fresh) (image_fits o.capacity fresh)).1 (fit, imaged))
      (eq-eqb (length image) (image_length o.capacity) image_length_lem) resumes.chain resumes.slots
      ∙ ap (λ (x : ListOutcome). opened_with x again) (none_refused_drop (seq_in image) 1 1 commands read))

  -- the serial run from there is the rest of the whole one
  serial_answers_lem : (c : ℕ) → 1 ≤ c → serial_answer again c ≡ serial_answer o (seq_in image + c)
  unfolding serial_answer
  serial_answers_lem c low =
      ap (λ (r : Setup). get_or (0 ∷ serial_answers r.capacity r.entries r.commands) c 0) again_is
      ∙ (ap (λ (l : List ℕ). get_or (0 ∷ l) c 0) resumes.answers ∙ answer_after (seq_in image) (serial_answers o.capacity o.entries o.commands) c low)

  serial_entries_lem : serial_entries again.capacity again.entries again.commands ≡ serial_entries o.capacity o.entries o.commands
  serial_entries_lem = ap (λ (r : Setup). serial_entries r.capacity r.entries r.commands) again_is ∙ resumes.entries

  -- so what holds after calls of the opening is what the whole run would give
  goes_on : (calls : List Call) (l : Lists) → HoldsAfter again rest l (schedules calls) → GoesOn o (seq_in image) again calls l
  goes_on calls l h = record {
    answer = λ c low high. h.answer c low high ∙ ap (λ (n : ℕ). cond (wrote again c (schedules calls) (opened again)) n 0) (serial_answers_lem c low);
    table = λ all. (h.table all).1 ∙ ap (lay_out o.capacity) serial_entries_lem;
  }

pub restart_over_calls : RestartOverCalls
restart_over_calls size workers capacity commands source lent l e calls proper some_place size' workers' sizes counts fresh fit imaged =
    let o : Setup = setup_of size workers capacity commands source in
    let r = opening_and_calls_reach size workers capacity commands source lent l e calls proper in
    let image : List ℕ = (lists_after calls l).image in
    let acc : Accepted o = r.0.setup in
    let resumes : Resumes o size' workers' image = image_resumes o acc (lists_after calls l) (schedules calls) r.1 some_place size' workers' sizes counts in
    let long = image_long o acc (lists_after calls l) (schedules calls) r.1 in
    let opening = opens o acc commands refl r.0.long r.0.read image long size' workers' resumes fresh fit imaged in (
      _,
      opening,
      λ more proper'.
          goes_on o acc commands refl r.0.long r.0.read image long size' workers' resumes more _
          (demand_3_over_calls size' workers' capacity (drop (16 * seq_in image) commands) (image_from image) fresh _ opening more proper'),
    )

-- Restart (02, A.3) over calls: a run opened from the image that any calls leave, with the rest of the list, is accepted and gives the answers
-- and the table of the unbroken run. What the image holds is the fifth part of demand 3. Proved in proofs/Checkpoint. Assumes nothing.
use Rattle.std.specs.Prelude.{ℕ, ◌+◌, ◌*◌, ◌/◌, ◌≤◌, ◌≡◌, true, cond, List, ◌∷◌, length, get_or, drop}
use Rattle.model.specs.Serial.{serial_entries}
use Rattle.model.specs.Store.{lay_out}
use Rattle.model.specs.Setup.{Setup}
use Rattle.model.specs.Step.{opened}
use Rattle.model.specs.Image.{seq_in}
use Rattle.model.specs.Statement.{wrote, removed, EachCommand, serial_answer}
use Rattle.state_bytes.specs.Layout.{Lists, state_in, lengths_fit, image_fits}
use Rattle.state_bytes.specs.Outcome.{accepted}
use Rattle.opening.specs.Calls.{Source, image_from, open_on, setup_of}
use Rattle.controller.specs.Demand3.{Call, lists_after, Proper, schedules}

-- "A run opened from an image with the rest of the list must give the answers and table of the unbroken run": the run r, opened with the
-- commands after place p of the run o, whatever calls deal it; "its delivery places begin again at 1"
pub record GoesOn (o : Setup) (p : ℕ) (r : Setup) (calls : List Call) (l : Lists) : Type 0 where
  pub answer : EachCommand r (λ c. get_or (0 ∷ l.answers) c 0 ≡ cond (wrote r c (schedules calls) (opened r)) (serial_answer o (p + c)) 0)
  pub table : EachCommand r (λ c. removed r c (schedules calls) (opened r) ≡ true)
      → (state_in l).service.store ≡ lay_out o.capacity (serial_entries o.capacity o.entries o.commands)

-- From the image of every state that calls reach and that has a checkpoint, with any size and worker count and any lent lists of the right
-- lengths, opening with the commands after the image's place is accepted, and the run goes on.
abbrev pub RestartOverCalls : Type 0
RestartOverCalls =
    (size workers capacity : ℕ) (commands : List ℕ) (source : Source) (lent l : Lists) → open_on size workers capacity commands source lent ≡ accepted l →
    (calls : List Call) → Proper commands l calls →
    let image : List ℕ = (lists_after calls l).image in
    let p : ℕ = seq_in image in
    let rest : List ℕ = drop (16 * p) commands in
    1 ≤ p → (size' workers' : ℕ) → (1 ≤ size') × (size' ≤ 150) → (1 ≤ workers') × (workers' ≤ 64) →
    (fresh : Lists) → lengths_fit capacity (length rest / 16) fresh ≡ true → image_fits capacity fresh ≡ true →
    (m : Lists) × (open_on size' workers' capacity rest (image_from image) fresh ≡ accepted m) × ((more : List Call) → Proper rest m more
    → GoesOn (setup_of size workers capacity commands source) p (setup_of size' workers' capacity rest (image_from image)) more (lists_after more m))

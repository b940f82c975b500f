-- Restart (02, A.3) as a promise about every schedule: a run opened from the image that it leaves, with the rest of the list, gives the answers
-- and the table of the unbroken run. Cites Serial, Image and Step; proved in proofs/Checkpoint. Assumes nothing.
use Rattle.std.specs.Prelude.{ℕ, ◌≤◌, ◌≡◌, true, List, drop}
use Rattle.command.specs.Count.{largest_count}
use Rattle.model.specs.Setup.{Setup}
use Rattle.model.specs.Serial.{serial_answers, serial_entries}
use Rattle.model.specs.Image.{chain_fits, slots_fit, entries_in, seq_in}
use Rattle.model.specs.Step.{opened, steps}
use Rattle.model.specs.Statement.{Accepted, all_within}

-- an opening from an image, with the commands after its place; size and worker count are the new opening's own
abbrev pub resumed : Setup → ℕ → ℕ → List ℕ → Setup
resumed o size workers image = record {
  size = size;
  workers = workers;
  largest = largest_count workers (drop (seq_in image) o.commands);
  capacity = o.capacity;
  entries = entries_in o.capacity image;
  commands = drop (seq_in image) o.commands;
}

-- such an opening is accepted, and "must give the answers and table of the unbroken run"
pub record Resumes (o : Setup) (size workers : ℕ) (image : List ℕ) : Type 0 where
  pub chain : chain_fits o.capacity image ≡ true
  pub slots : slots_fit o.capacity image ≡ true
  pub accepted : Accepted (resumed o size workers image)
  pub answers : let r : Setup = resumed o size workers image in
      serial_answers r.capacity r.entries r.commands ≡ drop (seq_in image) (serial_answers o.capacity o.entries o.commands)
  pub entries : let r : Setup = resumed o size workers image in
      serial_entries r.capacity r.entries r.commands ≡ serial_entries o.capacity o.entries o.commands

-- from the image of every state that a schedule reaches and that has a checkpoint
abbrev pub Restart : Type 0
Restart =
    (o : Setup) → Accepted o → (ts : List ℕ) → all_within o.largest ts ≡ true → 1 ≤ seq_in (steps o ts (opened o)).service.image
    → (size workers : ℕ) → (1 ≤ size) × (size ≤ 150) → (1 ≤ workers) × (workers ≤ 64) → Resumes o size workers (steps o ts (opened o)).service.image

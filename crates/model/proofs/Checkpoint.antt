-- The promise on restarts (specs/Checkpoint), proved: from the image of a checkpoint, with the rest of the list, a run goes on as the unbroken
-- one would. Assumes nothing.
use Prim.Native.Nat.{ℕ, suc, ◌+◌, ◌-◌, ◌≤◌}
use native.Mathlib.Omega.{arith}
use Rattle.std.specs.Prelude.{◌≡◌, refl, Bool, true, List, length}
use Rattle.std.proofs.Common.{sym, ap, subst, ◌∙◌, ⊎_elim, length-drop, ne_eqb}
use Rattle.std.proofs.Math.Option.{some}
use Rattle.std.proofs.Math.ListN.{get_elem?}
use Rattle.command.specs.declared.Command.{Command}
use Rattle.command.specs.Dependent.{is_checkpoint}
use Rattle.model.specs.Setup.{Setup, command_at}
use Rattle.model.specs.Serial.{Stored, serial_answers, serial_entries}
use Rattle.model.specs.Image.{seq_in}
use Rattle.model.specs.ImageLaws.{ReadsAs}
use Rattle.model.specs.Step.{opened, steps}
use Rattle.model.specs.Statement.{Accepted, wrote}
use Rattle.model.specs.Moment.{last_checkpoint, entries_before, image_at}
use Rattle.model.specs.Checkpoint.{resumed, Resumes, Restart}
use Rattle.model.proofs.Last.{Stands, last_stands}
use Rattle.model.proofs.Places.{command_within}
use Rattle.model.proofs.Theorem.{image_kept}
use Rattle.model.proofs.ImageLaws.{written_reads_back, zeros_read_as_empty}
use Rattle.model.proofs.Resume.{stored_after, entries_in_parts, answers_in_parts, entries_up_to, command_dropped}

-- ---- the image of a checkpoint

-- the commands delivered before a place leave entries that a store can hold
pub stored_before : (o : Setup) → Accepted o → (k : ℕ) → Stored o.capacity (entries_before o k)
unfolding entries_before serial_entries command_at
stored_before o acc k = stored_after o.capacity (k - 1) o.commands o.entries (λ j b e. (acc.chutes (suc j) b e, acc.keys (suc j) b e)) acc.entries

module _ (o : Setup) (acc : Accepted o) (n : ℕ) (c : Command) (found : get_elem? o.commands n ≡ some c) (is : is_checkpoint c.kind ≡ true) where
  place_within : suc n ≤ length o.commands
  unfolding command_at
  place_within = command_within o.commands (suc n) c found

  -- the image of the checkpoint there is accepted, and holds what the commands before it leave and its place
  pub image_reads : ReadsAs o.capacity (image_at o (suc n)) (suc n) (entries_before o (suc n))
  unfolding image_at
  image_reads =
      rw (ne_eqb (suc n) 0 (λ (e : suc n ≡ 0). omega arith))
      (written_reads_back o.capacity (suc n) (entries_before o (suc n)) acc.capacity.1 (omega (arith, acc.count, place_within)) (stored_before o acc (suc n)))

  -- a run opened from such an image goes on as the unbroken one would
  module _ (image : List ℕ) (reads : ReadsAs o.capacity image (suc n) (entries_before o (suc n))) (size workers : ℕ) (sizes : (1 ≤ size) × (size ≤ 150)) (counts : (1 ≤ workers) × (workers ≤ 64)) where
    resumed_accepted : Accepted (resumed o size workers image)
    resumed_accepted = record {
      size = sizes;
      workers = counts;
      largest = refl;
      capacity = acc.capacity;
      count = omega (arith, acc.count, length-drop (seq_in image) o.commands);
      entries = rw reads.entries (stored_before o acc (suc n));
      chutes = λ j b e. acc.chutes (seq_in image + j) b (command_dropped (seq_in image) o.commands j b e);
      keys = λ j b e. acc.keys (seq_in image + j) b (command_dropped (seq_in image) o.commands j b e);
    }

    pub resumes : Resumes o size workers image
    unfolding serial_answers serial_entries entries_before
    resumes =
        let before : suc n - 1 ≡ n = omega arith in
        let up_to_lem = entries_up_to o.capacity n o.commands c o.entries found is in
        record {
          chain = reads.chain;
          slots = reads.slots;
          accepted = resumed_accepted;
          answers = rw (reads.seq, reads.entries, before, ← up_to_lem) (answers_in_parts o.capacity (suc n) o.commands o.entries);
          entries = rw (reads.seq, reads.entries, before, ← up_to_lem) (entries_in_parts o.capacity (suc n) o.commands o.entries);
        }

-- so does one opened from the image of every state that has a checkpoint
pub restart : Restart
unfolding last_checkpoint image_at
restart o acc ts within some_place size workers sizes counts =
    ⊎_elim (λ e. absurd (no_checkpoint e)) from (last_stands written 1 o.commands 0)
  where
    written : ℕ → Bool
    written c = wrote o c ts (opened o)

    image : List ℕ
    image = (steps o ts (opened o)).service.image

    kept : image ≡ image_at o (last_checkpoint o written)
    kept = image_kept o acc ts within

    no_checkpoint : last_checkpoint o written ≡ 0 → ⊥
    no_checkpoint e =
        let zeros : seq_in image ≡ 0 = ap seq_in (kept ∙ ap (image_at o) e) ∙ (zeros_read_as_empty o.capacity).seq in
        omega arith

    from : Stands written 1 o.commands (last_checkpoint o written) → Resumes o size workers image
    from h =
        let e : last_checkpoint o written ≡ suc h.0 = h.3 ∙ omega arith in
        resumes o acc h.0 h.1 h.2 h.5 image
        (subst (λ (l : List ℕ). ReadsAs o.capacity l (suc h.0) (entries_before o (suc h.0))) (sym (kept ∙ ap (image_at o) e)) (image_reads o acc h.0 h.1 h.2 h.5))
        size workers sizes counts

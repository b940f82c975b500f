-- What a set of commands leaves, the table and the image, by the serial run alone: document 02, A.10, measures the store and the image at every
-- moment by it, with the commands already written for the set. Assumes nothing.
use Rattle.std.specs.Prelude.{ℕ, suc, ◌-◌, Bool, cond, ◌&&◌, List, [], ◌∷◌, take, eqb}
use Rattle.command.specs.declared.Command.{Command}
use Rattle.command.specs.Dependent.{is_checkpoint}
use Rattle.model.specs.Setup.{Setup}
use Rattle.model.specs.Serial.{Entry, serial_entries}
use Rattle.model.specs.Store.{Store, lay_out}
use Rattle.model.specs.Image.{image_of, empty_image}

-- ---- the table

-- those commands of a list whose place is in W, "in delivery order"; the first place is i
unfoldable pub only_from : (ℕ → Bool) → ℕ → List Command → List Command
only_from W i [] = []
only_from W i (c ∷ cs) = cond (W i) (c ∷ only_from W (suc i) cs) (only_from W (suc i) cs)

-- the table that the commands of W "give when run alone in delivery order, from the opening store or the image"
unfoldable pub table_of : Setup → (ℕ → Bool) → Store
unfolding lay_out serial_entries only_from
table_of o W = lay_out o.capacity (serial_entries o.capacity o.entries (only_from W 1 o.commands))

-- ---- the image

-- the place of the last kind 6 among those commands of a list whose place is in W, a given one where there is none; the first place is i
unfoldable pub last_from : (ℕ → Bool) → ℕ → List Command → ℕ → ℕ
unfolding is_checkpoint
last_from W i [] last = last
last_from W i (c ∷ cs) last = last_from W (suc i) cs (cond (W i && is_checkpoint c.kind) i last)

-- the place of the last kind 6 in W, 0 where there is none
unfoldable pub last_checkpoint : Setup → (ℕ → Bool) → ℕ
unfolding last_from
last_checkpoint o W = last_from W 1 o.commands 0

-- what the commands delivered before place c leave
unfoldable pub entries_before : Setup → ℕ → List Entry
unfolding serial_entries
entries_before o c = serial_entries o.capacity o.entries (take (c - 1) o.commands)

-- the image of the kind 6 at place c: "what the commands delivered before [it] leave, with its place, and zeros before any"
unfoldable pub image_at : Setup → ℕ → List ℕ
unfolding empty_image image_of lay_out entries_before
image_at o c = cond (eqb c 0) (empty_image o.capacity) (image_of o.capacity c (lay_out o.capacity (entries_before o c)))

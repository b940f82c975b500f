-- Which commands are dependent: documents 01, "Command list and store", and 02, A.2, A.3 and A.5. Assumes nothing.
use Rattle.std.specs.Prelude.{Bool, true, false, not, ◌&&◌, ◌||◌, eqb}
use Rattle.command.specs.declared.Kind.{Kind}
use Rattle.command.specs.declared.Kind.TheVariants.{Insert, Delete, Read, Update, Workers, Checkpoint}
use Rattle.command.specs.declared.Command.{Command}

unfoldable pub is_insert_or_delete : Kind → Bool
is_insert_or_delete Insert = true
is_insert_or_delete Delete = true
is_insert_or_delete Read = false
is_insert_or_delete Update = false
is_insert_or_delete Workers = false
is_insert_or_delete Checkpoint = false

unfoldable pub is_read : Kind → Bool
is_read Insert = false
is_read Delete = false
is_read Read = true
is_read Update = false
is_read Workers = false
is_read Checkpoint = false

unfoldable pub is_checkpoint : Kind → Bool
is_checkpoint Insert = false
is_checkpoint Delete = false
is_checkpoint Read = false
is_checkpoint Update = false
is_checkpoint Workers = false
is_checkpoint Checkpoint = true

-- whether a command of the kind is for an item; kind 5 is for none: "its identifier is thirteen characters 0" (02, A.2), nor is kind 6, "with
-- thirteen characters 0" (02, A.3)
unfoldable pub has_item : Kind → Bool
has_item Insert = true
has_item Delete = true
has_item Read = true
has_item Update = true
has_item Workers = false
has_item Checkpoint = false

-- "inserts and deletes depend on one another [..] and on any command for their own key; reads and updates of other keys are independent of
-- them" (02, A.5); "two updates of one key; an update and a read of one key. All other pairs are independent."
-- Of two commands of one key, these are all pairs but two reads. Kinds 5 and 6 are each "dependent on every command" (02, A.2 and A.3).
unfoldable pub are_dependent : Command → Command → Bool
unfolding has_item is_insert_or_delete is_read
are_dependent a b =
    not (has_item a.kind && has_item b.kind) || (is_insert_or_delete a.kind && is_insert_or_delete b.kind) || (eqb a.key b.key && not (is_read a.kind && is_read b.kind))

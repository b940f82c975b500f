-- The worker count that a list of commands sets: document 02, A.2. Assumes nothing.
use Rattle.std.specs.Prelude.{ℕ, max, List, [], ◌∷◌}
use Rattle.command.specs.declared.Kind.{Kind}
use Rattle.command.specs.declared.Kind.TheVariants.{Insert, Delete, Read, Update, Workers, Checkpoint}
use Rattle.command.specs.declared.Command.{Command}

-- "Kind 5 sets the worker count: [..] its chute field the new count": the count after a command of the kind with this chute field
unfoldable pub count_with : Kind → ℕ → ℕ → ℕ
count_with Insert chute count = count
count_with Delete chute count = count
count_with Read chute count = count
count_with Update chute count = count
count_with Workers chute count = chute
count_with Checkpoint chute count = count

unfoldable pub count_after : Command → ℕ → ℕ
unfolding count_with
count_after c count = count_with c.kind c.chute count

-- "the largest count of the opening and the list": of a count and those that the commands set
unfoldable pub largest_count : ℕ → List Command → ℕ
unfolding count_after
largest_count count [] = count
largest_count count (c ∷ cs) = largest_count (max count (count_after c count)) cs

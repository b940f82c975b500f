-- The largest round that a command depends on, by ways that are quick to find: by kind alone, and among the commands of one key. Assumes nothing.
use Rattle.std.specs.Prelude.{ℕ, max, Bool, true, not, cond, ◌&&◌, List, eqb}
use Rattle.command.specs.declared.Command.{Command}
use Rattle.command.specs.Dependent.{has_item, is_insert_or_delete, is_read}
use Rattle.rounds.specs.Rounds.{largest_where}

-- of all commands
abbrev pub top_of : List Command → List ℕ → ℕ
top_of es rs = largest_where (λ (e : Command). true) es rs

-- of those that are for no item
abbrev pub fence_of : List Command → List ℕ → ℕ
fence_of es rs = largest_where (λ (e : Command). not (has_item e.kind)) es rs

-- of inserts and deletes
abbrev pub writers_of : List Command → List ℕ → ℕ
writers_of es rs = largest_where (λ (e : Command). is_insert_or_delete e.kind) es rs

-- of those of one key that pass a test
abbrev pub key_of : (Command → Bool) → ℕ → List Command → List ℕ → ℕ
key_of test key es rs = largest_where (λ (e : Command). eqb e.key key && test e) es rs

abbrev pub is_any : Command → Bool
is_any e = true

abbrev pub is_no_read : Command → Bool
is_no_read e = not (is_read e.kind)

-- of those of a command's key: for a read those that are no reads, else all
abbrev pub same_of : Command → List Command → List ℕ → ℕ
same_of c es rs = cond (is_read c.kind) (key_of is_no_read c.key es rs) (key_of is_any c.key es rs)

-- all ways together
abbrev pub by_ways : Command → List Command → List ℕ → ℕ
by_ways c es rs = cond (has_item c.kind) (max (fence_of es rs) (max (cond (is_insert_or_delete c.kind) (writers_of es rs) 0) (same_of c es rs))) (top_of es rs)

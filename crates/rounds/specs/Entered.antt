-- What the arrays and numbers of the search for rounds hold of the commands that have theirs. Assumes nothing.
use Rattle.std.specs.Prelude.{ℕ, max, ◌≡◌, not, cond, List, length, take, map}
use Rattle.command.specs.declared.Kind.{Kind}
use Rattle.command.specs.declared.Command.{Command}
use Rattle.command.specs.Dependent.{has_item, is_insert_or_delete}
use Rattle.rounds.specs.declared.Largest.{Largest}
use Rattle.rounds.specs.declared.Numbered.{Numbered}
use Rattle.rounds.specs.Rounds.{rounds_of}
use Rattle.rounds.specs.Ways.{top_of, fence_of, writers_of, key_of, is_any, is_no_read}
use Rattle.key_links.specs.Links.{last_of, at_link}

-- the largest round that a command of a kind depends on, from the largest so far and that of its key
abbrev pub depends_up_to : Kind → Largest → ℕ → ℕ
depends_up_to kind l same = cond (has_item kind) (max l.fence (max (cond (is_insert_or_delete kind) l.writers 0) same)) l.top

-- the largest after a command of the kind
abbrev pub largest_after : Kind → ℕ → Largest → Largest
largest_after kind r l = record {
  top = max l.top r;
  fence = max l.fence (cond (not (has_item kind)) r 0);
  writers = max l.writers (cond (is_insert_or_delete kind) r 0);
}

pub record Entered (es : List Command) (keys alls changes rounds : List ℕ) (largest : Largest) : Type 0 where
  -- the rounds stand in the first places
  pub placed : take (length es) rounds ≡ rounds_of es
  -- the largest of all, of those for no item, and of inserts and deletes
  pub top : largest.top ≡ top_of es (rounds_of es)
  pub fence : largest.fence ≡ fence_of es (rounds_of es)
  pub writers : largest.writers ≡ writers_of es (rounds_of es)
  -- and at the last command of a key those of the key: of all, and of those that are no reads
  pub all : (key : ℕ) → at_link alls (last_of keys key (length es)) ≡ key_of is_any key es (rounds_of es)
  pub changed : (key : ℕ) → at_link changes (last_of keys key (length es)) ≡ key_of is_no_read key es (rounds_of es)

-- the largest rounds by place: of all commands of the key, and of those that are no reads
abbrev pub alls : Numbered → List ℕ
alls n = map (λ k. k.all) n.of_keys

abbrev pub changes : Numbered → List ℕ
changes n = map (λ k. k.changing) n.of_keys

-- what is known of commands whose rounds stand in the first places of a list
abbrev pub Holds : List Command → List ℕ → Numbered → Type 0
Holds es rounds n = (length n.links ≡ length es) × Entered es n.links (alls n) (changes n) rounds n.largest

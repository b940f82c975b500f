-- The serial run of document 01, "The serial run and demand 3": what every answer and the last table are measured by. It is fed the
-- capacity ("room"), the entries that it starts from and the commands, and nothing of a schedule or a state. Assumes nothing.
use Rattle.std.specs.Prelude.{ℕ, ◌≤◌, ◌<◌, Bool, false, cond, ◌||◌, List, [], ◌∷◌, length, eqb, leb, ltb}
use Rattle.s10.specs.Text.{largest_key}
use Rattle.command.specs.declared.Kind.{Kind}
use Rattle.command.specs.declared.Kind.TheVariants.{Insert, Delete, Read, Update, Workers, Checkpoint}
use Rattle.command.specs.declared.Command.{Command}

-- "Its state is a list of entries, key and chute, keys ascending, empty at first"; and of a run opened from an image, "the serial run
-- starts, from that store" (02, A.3)
pub record Entry : Type 0 where
  pub key : ℕ
  pub chute : ℕ

-- every entry has the property
abbrev pub All : (Entry → Type 0) → List Entry → Type 0
All P [] = Unit {0}
All P (e ∷ es) = P e × All P es

-- "keys ascending": each key is smaller than every later one
abbrev pub Ascending : List Entry → Type 0
Ascending [] = Unit {0}
Ascending (e ∷ es) = All (λ (x : Entry). e.key < x.key) es × Ascending es

-- entries that a store of the capacity can hold
pub record Stored (capacity : ℕ) (es : List Entry) : Type 0 where
  pub ascending : Ascending es
  pub fits : length es ≤ capacity
  pub keys : All (λ (e : Entry). e.key ≤ largest_key) es
  pub chutes : All (λ (e : Entry). (1 ≤ e.chute) × (e.chute ≤ 512)) es

unfoldable pub present : ℕ → List Entry → Bool
present key [] = false
present key (e ∷ es) = eqb e.key key || present key es

-- the chute of a key, 0 where it is absent
unfoldable pub chute_at : ℕ → List Entry → ℕ
chute_at key [] = 0
chute_at key (e ∷ es) = cond (eqb e.key key) e.chute (chute_at key es)

-- "the entry is put in where its key belongs"
unfoldable pub put_in : Entry → List Entry → List Entry
put_in new [] = new ∷ []
put_in new (e ∷ es) = cond (ltb new.key e.key) (new ∷ e ∷ es) (e ∷ put_in new es)

-- "its entry is taken out"
unfoldable pub take_out : ℕ → List Entry → List Entry
take_out key [] = []
take_out key (e ∷ es) = cond (eqb e.key key) es (e ∷ take_out key es)

-- "its entry gets the command's chute"
unfoldable pub set_chute : ℕ → ℕ → List Entry → List Entry
set_chute key chute [] = []
set_chute key chute (e ∷ es) = cond (eqb e.key key) (record { key = key; chute = chute } ∷ es) (e ∷ set_chute key chute es)

-- an answer, and the entries after it
pub record Served : Type 0 where
  pub answer : ℕ
  pub entries : List Entry

abbrev pub served : ℕ → List Entry → Served
served answer entries = record { answer = answer; entries = entries }

-- one command of the kind, with its key and chute
unfoldable pub serve_kind : Kind → ℕ → ℕ → ℕ → List Entry → Served
unfolding present chute_at put_in take_out set_chute
-- "An insert of a present item sets its chute and answers 1004" (02, A.7); "else as many entries as the room, 1003; else the entry is put in
-- where its key belongs, 1000."
serve_kind Insert capacity key chute es =
    cond (present key es) (served 1004 (set_chute key chute es)) (cond (leb capacity (length es)) (served 1003 es) (served 1000 (put_in (record { key = key; chute = chute }) es)))
-- "Delete: key absent, 1002; else its entry is taken out, 1000."
serve_kind Delete capacity key chute es = cond (present key es) (served 1000 (take_out key es)) (served 1002 es)
-- "Read: absent, 1002; else its chute."
serve_kind Read capacity key chute es = cond (present key es) (served (chute_at key es) es) (served 1002 es)
-- "Update: absent, 1002; else its entry gets the command's chute, 1000."
serve_kind Update capacity key chute es = cond (present key es) (served 1000 (set_chute key chute es)) (served 1002 es)
-- "the serial run, where kind 5 answers 1000" (02, A.2)
serve_kind Workers capacity key chute es = served 1000 es
-- kind 6 "answers 1000" (02, A.3)
serve_kind Checkpoint capacity key chute es = served 1000 es

unfoldable pub serve : ℕ → Command → List Entry → Served
unfolding serve_kind
serve capacity c es = serve_kind c.kind capacity c.key c.chute es

-- the entries after the commands, from some entries
unfoldable pub entries_after : ℕ → List Command → List Entry → List Entry
unfolding serve
entries_after capacity [] es = es
entries_after capacity (c ∷ cs) es = entries_after capacity cs (serve capacity c es).entries

-- "There is one answer a command."
unfoldable pub answers_after : ℕ → List Command → List Entry → List ℕ
unfolding serve
answers_after capacity [] es = []
answers_after capacity (c ∷ cs) es = (serve capacity c es).answer ∷ answers_after capacity cs (serve capacity c es).entries

-- the serial run's answers, and its entries "after the last command"
unfoldable pub serial_answers : ℕ → List Entry → List Command → List ℕ
unfolding answers_after
serial_answers capacity first cs = answers_after capacity cs first

unfoldable pub serial_entries : ℕ → List Entry → List Command → List Entry
unfolding entries_after
serial_entries capacity first cs = entries_after capacity cs first

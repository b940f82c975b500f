-- The state as bytes ("The run crosses to it as bytes, in a layout written down in docs/"): every field at a fixed offset, docs/STATE-LAYOUT.md.
-- `state_bytes` lays a model state out; `state_in` reads one. Assumes nothing.
use Rattle.std.specs.Prelude.{ℕ, suc, ◌+◌, ◌*◌, Bool, false, cond, not, ◌&&◌, ◌||◌, List, [], ◌∷◌, ◌++◌, length, get_or, eqb, leb, ltb}
use Rattle.std.specs.Borrow.{Bor, MutBor}
use denote.Triple.Both.{Both}
use Rattle.node_set.specs.Members.{member, word_of}
use Rattle.model.specs.declared.Thread.{Thread}
use Rattle.model.specs.declared.Thread.TheVariants.{Idle, Loading, Searching, Holding, LookedUp, Written, Walking, Clearing}
use Rattle.model.specs.Setup.{Setup}
use Rattle.model.specs.Image.{image_length}
use Rattle.model.specs.Step.{State, node}
use Rattle.command.specs.Read.{commands_in}
use Rattle.byte_fields.specs.Bytes.{bytes_of, number_at, tabulate, fields, all_below}
use Rattle.byte_fields.specs.Bytes as Bytes

-- ---- what the caller keeps between calls

-- state bytes, answers, keys, chutes and image
pub record Lists : Type 0 where
  pub state : List ℕ
  pub answers : List ℕ
  pub keys : List ℕ
  pub chutes : List ℕ
  pub image : List ℕ

abbrev pub all_lists : List ℕ → List ℕ → List ℕ → List ℕ → List ℕ → Lists
all_lists state keys chutes answers image = record { state = state; answers = answers; keys = keys; chutes = chutes; image = image }

-- what a report is lent: no image
abbrev pub lists : List ℕ → List ℕ → List ℕ → List ℕ → Lists
lists state keys chutes answers = all_lists state keys chutes answers []

-- a list that a call is lent to read, and one that it may change too; all of them as they are at the call's entry and at its exit
abbrev pub Lent : Type 0
Lent = Both (Bor (List ℕ)) (Bor (List ℕ))

abbrev pub LentToChange : Type 0
LentToChange = Both (MutBor (List ℕ)) (MutBor (List ℕ))

abbrev pub at_entry : Lent → Lent → Lent → Lent → Lists
at_entry state keys chutes answers = lists state.entry.now keys.entry.now chutes.entry.now answers.entry.now

abbrev pub all_at_entry : LentToChange → LentToChange → LentToChange → LentToChange → LentToChange → Lists
all_at_entry state keys chutes answers image = all_lists state.entry.now keys.entry.now chutes.entry.now answers.entry.now image.entry.now

abbrev pub all_at_exit : LentToChange → LentToChange → LentToChange → LentToChange → LentToChange → Lists
all_at_exit state keys chutes answers image = all_lists state.exit.now keys.exit.now chutes.exit.now answers.exit.now image.exit.now

unfoldable pub state_length : ℕ
state_length = 4718

-- ---- a state as bytes

abbrev pub flag_byte : Bool → List ℕ
flag_byte flag = Bytes.flag_byte flag

-- the three words of a set
unfoldable pub set_bytes : (ℕ → Bool) → List ℕ
unfolding bytes_of word_of
set_bytes set = bytes_of 8 (word_of 64 set) ++ bytes_of 8 (word_of 64 (λ b. set (64 + b))) ++ bytes_of 8 (word_of 64 (λ b. set (128 + b)))

-- a thread: its state's number, where it stands, its own node, what it found
unfoldable pub thread_bytes : Thread → List ℕ
unfolding bytes_of
thread_bytes Idle = 0 ∷ 0 ∷ 0 ∷ bytes_of 2 0
thread_bytes (Loading at own) = 1 ∷ at.0 ∷ own.0 ∷ bytes_of 2 0
thread_bytes (Searching at) = 2 ∷ at.0 ∷ 0 ∷ bytes_of 2 0
thread_bytes (Holding own) = 3 ∷ 0 ∷ own.0 ∷ bytes_of 2 0
thread_bytes (LookedUp own found) = 4 ∷ 0 ∷ own.0 ∷ bytes_of 2 found
thread_bytes (Written own) = 5 ∷ 0 ∷ own.0 ∷ bytes_of 2 0
thread_bytes (Walking at own) = 6 ∷ at.0 ∷ own.0 ∷ bytes_of 2 0
thread_bytes (Clearing at own) = 7 ∷ at.0 ∷ own.0 ∷ bytes_of 2 0

-- the number of the lock-coupled chain, which the first byte names
unfoldable pub lock_coupled : ℕ
lock_coupled = 1

-- chain, settings and counters: offsets 0 to 13
unfoldable pub head_bytes : Setup → State → List ℕ
unfolding bytes_of
head_bytes o s =
    bytes_of 1 lock_coupled ++ bytes_of 1 o.size ++ bytes_of 1 o.workers ++ bytes_of 1 o.largest ++ bytes_of 2 o.capacity ++ bytes_of 2 (length o.commands)
    ++ bytes_of 2 s.graph.loaded ++ bytes_of 2 s.service.store.used ++ bytes_of 1 s.graph.free ++ bytes_of 1 s.service.limit

-- then next indexes at 14, sequence numbers at 165, node states at 467, locks at 618, sets at 769, threads at 4393
unfoldable pub state_bytes : Setup → State → List ℕ
unfolding head_bytes fields set_bytes thread_bytes
state_bytes o s =
    head_bytes o s ++ fields 151 (λ n. bytes_of 1 (s.graph.next n)) ++ fields 151 (λ n. bytes_of 2 (s.graph.seq n))
    ++ fields 151 (λ n. flag_byte (s.graph.executing n)) ++ fields 151 (λ n. flag_byte (s.graph.locked n))
    ++ fields 151 (λ n. set_bytes (s.graph.waits n)) ++ fields 65 (λ t. thread_bytes (s.threads t))

-- the caller's lists of a state
unfoldable pub lists_of : Setup → State → Lists
unfolding state_bytes tabulate
lists_of o s = record {
  state = state_bytes o s;
  answers = tabulate (length o.commands) (λ i. s.service.answers (suc i));
  keys = s.service.store.keys;
  chutes = s.service.store.chutes;
  image = s.service.image;
}

-- ---- bytes as a state

unfoldable pub thread_of : ℕ → ℕ → ℕ → ℕ → Thread
thread_of tag at own found =
    cond (eqb tag 1) (Loading (node at) (node own)) (cond (eqb tag 2) (Searching (node at)) (cond (eqb tag 3) (Holding (node own))
    (cond (eqb tag 4) (LookedUp (node own) found) (cond (eqb tag 5) (Written (node own)) (cond (eqb tag 6) (Walking (node at) (node own))
    (cond (eqb tag 7) (Clearing (node at) (node own)) Idle))))))

unfoldable pub thread_at : List ℕ → ℕ → Thread
unfolding thread_of number_at
thread_at b t =
    thread_of (get_or b (4393 + 5 * t) 0) (get_or b (4394 + 5 * t) 0) (get_or b (4395 + 5 * t) 0) (number_at 2 (4396 + 5 * t) b)

-- the three words of node n's set
unfoldable pub set_at : List ℕ → ℕ → List ℕ
unfolding number_at
set_at b n = number_at 8 (769 + 24 * n) b ∷ number_at 8 (777 + 24 * n) b ∷ number_at 8 (785 + 24 * n) b ∷ []

-- the settings of state bytes, with the commands handed over beside them; the opening's entries are not kept, and no step looks at them
unfoldable pub setup_in : List ℕ → List ℕ → Setup
unfolding number_at commands_in
setup_in b commands = record { size = number_at 1 1 b; workers = number_at 1 2 b; largest = number_at 1 3 b; capacity = number_at 2 4 b; entries = []; commands = commands_in commands }

unfoldable pub count_in : List ℕ → ℕ
unfolding number_at
count_in b = number_at 2 6 b

unfoldable pub state_in : Lists → State
unfolding number_at set_at thread_at member
state_in l = record {
  graph = record {
    next = λ n. cond (ltb n 151) (get_or l.state (14 + n) 0) 0;
    seq = λ n. cond (ltb n 151) (number_at 2 (165 + 2 * n) l.state) 0;
    executing = λ n. cond (ltb n 151) (eqb (get_or l.state (467 + n) 0) 1) false;
    locked = λ n. cond (ltb n 151) (eqb (get_or l.state (618 + n) 0) 1) false;
    waits = λ n y. cond (ltb n 151) (member (set_at l.state n) y) false;
    free = number_at 1 12 l.state;
    loaded = number_at 2 8 l.state;
  };
  threads = λ t. cond (ltb t 65) (thread_at l.state t) Idle;
  service = record {
    store = record { keys = l.keys; chutes = l.chutes; used = number_at 2 10 l.state };
    answers = λ c. get_or (0 ∷ l.answers) c 0;
    limit = number_at 1 13 l.state;
    image = l.image;
  };
}

-- ---- refusal 6

-- whether the lent lists are as long as the layout, the commands and the capacity ask
unfoldable pub lengths_fit : ℕ → ℕ → Lists → Bool
lengths_fit capacity count l =
    eqb (length l.state) state_length && eqb (length l.answers) count && eqb (length l.keys) capacity && eqb (length l.chutes) capacity

-- refusal 6: "a list or run handed back whose length is not the opening's", by the state's own settings
unfoldable pub handed_back_fit : Lists → List ℕ → Bool
handed_back_fit l commands =
    lengths_fit (setup_in l.state commands).capacity (count_in l.state) l && eqb (length commands) (16 * count_in l.state)

-- "An image of wrong length is 6" (02, A.3), of a call that can write it
unfoldable pub image_fits : ℕ → Lists → Bool
image_fits capacity l = eqb (length l.image) (image_length capacity)

-- ---- refusal 12: "a handed-back run whose own settings or command count break 1 to 5, whose record index or set passes the graph size,
-- whose place passes the list, whose state is none of those named, or whose used store passes the room or doesn't ascend"

unfoldable pub settings_fit : ℕ → ℕ → ℕ → ℕ → ℕ → Bool
settings_fit size workers largest capacity count =
    leb 1 size && leb size 150 && leb 1 workers && leb workers 64 && leb 1 largest && leb largest 64 && leb 1 capacity && leb capacity 4096 && leb count 4096

-- the chain is the lock-coupled one; the worker count in force is from 1 to the largest
unfoldable pub head_fits : ℕ → ℕ → ℕ → Bool
unfolding lock_coupled
head_fits chain limit largest = eqb chain lock_coupled && leb 1 limit && leb limit largest

-- whether a thread's state is one of those named: thread 0 is idle or loading, a worker is anything but loading; its nodes are at most the
-- graph size, and what its state has none of is 0
unfoldable pub thread_fits : ℕ → ℕ → ℕ → ℕ → ℕ → ℕ → Bool
thread_fits size t tag at own found =
    leb tag 7 && leb at size && leb own size && cond (eqb t 0) (leb tag 1) (not (eqb tag 1))
    && (eqb tag 1 || eqb tag 2 || eqb tag 6 || eqb tag 7 || eqb at 0)
    && (eqb tag 1 || eqb tag 3 || eqb tag 4 || eqb tag 5 || eqb tag 6 || eqb tag 7 || eqb own 0)
    && (eqb tag 4 || eqb found 0)

unfoldable pub thread_fits_at : List ℕ → ℕ → ℕ → Bool
unfolding thread_fits number_at
thread_fits_at b size t =
    thread_fits size t (get_or b (4393 + 5 * t) 0) (get_or b (4394 + 5 * t) 0) (get_or b (4395 + 5 * t) 0) (number_at 2 (4396 + 5 * t) b)

-- the members of a set are at most the graph size
unfoldable pub set_fits : List ℕ → ℕ → Bool
unfolding all_below member
set_fits set size = all_below 192 (λ y. not (member set y) || leb y size)

-- node n: its next index, place, state, lock and set
unfoldable pub node_fits_at : List ℕ → ℕ → ℕ → ℕ → Bool
unfolding number_at set_fits set_at
node_fits_at b size count n =
    leb (get_or b (14 + n) 0) size && leb (number_at 2 (165 + 2 * n) b) count && leb (get_or b (467 + n) 0) 1 && leb (get_or b (618 + n) 0) 1
    && set_fits (set_at b n) size

-- the keys of the first `used` places ascend
unfoldable pub ascends : ℕ → List ℕ → Bool
unfolding all_below
ascends used keys = all_below used (λ i. leb used (i + 1) || ltb (get_or keys i 0) (get_or keys (i + 1) 0))

unfoldable pub state_fits : Lists → Bool
unfolding head_fits settings_fit node_fits_at thread_fits_at ascends all_below number_at count_in
state_fits l =
    let b : List ℕ = l.state in
    let size : ℕ = number_at 1 1 b in
    head_fits (number_at 1 0 b) (number_at 1 13 b) (number_at 1 3 b) && settings_fit size (number_at 1 2 b) (number_at 1 3 b) (number_at 2 4 b) (count_in b) && leb (number_at 2 8 b) (count_in b) && leb (number_at 1 12 b) size
    && all_below 151 (node_fits_at b size (count_in b)) && all_below 65 (thread_fits_at b size)
    && leb (number_at 2 10 b) (number_at 2 4 b) && ascends (number_at 2 10 b) l.keys

-- What an accepted opening has been tested for, and the lists that it leaves. Assumes nothing.
use Prim.Native.Nat.{ℕ, zero, suc, ◌*◌, ◌/◌, ◌%◌, ◌≤◌}
use native.Mathlib.Omega.{arith}
use mathlib.Core.Path.{◌≡◌, refl}
use mathlib.Core.Bool.{Bool, true, false, cond, ◌&&◌, and-eq-true_iff}
use mathlib.Core.List.{List}
use mathlib.Core.Option.{some}
use lib.ListN.{length}
use lib.Dec.{eqb, leb}
use borrow.Author.Tests.{leb-true, eqb-true}
use Rattle.s10.specs.Refusal.{plain}
use Rattle.command.specs.declared.Command.{Command}
use Rattle.command.specs.Read.{accepted, read_command, parts_of, readings, ListOutcome, all_accepted, list_refused, first_refusal, commands_in}
use Rattle.command.proofs.Laws.{accepted_chute_fits, accepted_key_is_at_most_largest, read_so}
use Rattle.model.specs.Serial.{Stored}
use Rattle.model.specs.Setup.{Setup, command_at}
use Rattle.model.specs.Step.{opened}
use Rattle.model.specs.Statement.{Accepted}
use Rattle.model.proofs.ImageLaws.{accepted_is_stored}
use Rattle.graph.proofs.Commands.{commands_length}
use Rattle.state_bytes.specs.Layout.{Lists, lists_of, lengths_fit, image_fits}
use Rattle.state_bytes.specs.Outcome as Call
use Rattle.opening.specs.Calls.{Source, nothing, image_from, source_long, source_chained, source_fits, first_entries, opened_with, open_on, setup_of}

-- ---- commands

-- place by place, where no reading is refused each command was read so
command_read : (bytes : List ℕ) → first_refusal 1 (readings bytes) ≡ all_accepted → (c : ℕ) (command : Command) → command_at (commands_in bytes) c ≡ some command
    → (part : List ℕ) × (read_command part ≡ accepted command)
unfolding commands_in readings command_at
command_read bytes e zero command at = let z : ◌≡◌ {A = ℕ} 0 1 = cc in absurd (omega arith)
command_read bytes e (suc i) command at = read_so (parts_of bytes) 1 i command e at

-- ---- the opening

-- a chain of tests is accepted where each passes
pub passed : (t : Bool) (n : ℕ) {x : Call.CallOutcome} {l : Lists} → cond t x (Call.refused (plain n)) ≡ Call.accepted l → (t ≡ true) × (x ≡ Call.accepted l)
passed true n e = (refl, e)
passed false n e = let z : ◌≡◌ {A = ℕ} 0 1 = cc in absurd (omega arith)

-- the lists left are those of the opening state
opened_lists : (r : ListOutcome) (o : Setup) (l : Lists) → opened_with r o ≡ Call.accepted l → (r ≡ all_accepted) × (l ≡ lists_of o (opened o))
unfolding opened_with
opened_lists all_accepted o l e = (refl, cc)
opened_lists (list_refused r) o l e = let z : ◌≡◌ {A = ℕ} 0 1 = cc in absurd (omega arith)

-- two tests bound a number
range : (n high : ℕ) → (leb 1 n && leb n high) ≡ true → (1 ≤ n) × (n ≤ high)
range n high e =
    let each = (and-eq-true_iff (leb 1 n) (leb n high)).0 e in
    (leb-true 1 n each.0, leb-true n high each.1)

-- an accepted opening's setup, its commands' length, that none of them is refused, and the lists left
pub record IsOpened (o : Setup) (commands : List ℕ) (l : Lists) : Type 0 where
  pub setup : Accepted o
  pub long : length commands ≡ 16 * length o.commands
  pub read : first_refusal 1 (readings commands) ≡ all_accepted
  pub lists : l ≡ lists_of o (opened o)

-- the first entries are some that the store can hold
first_stored : (capacity : ℕ) (source : Source) → source_chained capacity source ≡ true → source_fits capacity source ≡ true → Stored capacity (first_entries capacity source)
unfolding source_chained source_fits first_entries
first_stored capacity nothing chained fits = record { ascending = tt; fits = omega arith; keys = tt; chutes = tt }
first_stored capacity (image_from image) chained fits = accepted_is_stored capacity image chained fits

-- what each test of an accepted opening found
pub record Passes (size workers capacity : ℕ) (commands : List ℕ) (source : Source) (lent l : Lists) : Type 0 where
  pub size_fits : (1 ≤ size) × (size ≤ 150)
  pub workers_fit : (1 ≤ workers) × (workers ≤ 64)
  pub capacity_fits : (1 ≤ capacity) × (capacity ≤ 4096)
  pub whole : length commands % 16 ≡ 0
  pub count_fits : length commands / 16 ≤ 4096
  pub long : (lengths_fit capacity (length commands / 16) lent && image_fits capacity lent && source_long capacity source) ≡ true
  pub chained : source_chained capacity source ≡ true
  pub fits : source_fits capacity source ≡ true
  pub opens : opened_with (first_refusal 1 (readings commands)) (setup_of size workers capacity commands source) ≡ Call.accepted l

pub passes : (size workers capacity : ℕ) (commands : List ℕ) (source : Source) (lent l : Lists) → open_on size workers capacity commands source lent ≡ Call.accepted l
    → Passes size workers capacity commands source lent l
unfolding open_on
passes size workers capacity commands source lent l e =
    let e1 = passed (leb 1 size && leb size 150) 1 e in
    let e2 = passed (leb 1 workers && leb workers 64) 2 e1.1 in
    let e3 = passed (leb 1 capacity && leb capacity 4096) 3 e2.1 in
    let e4 = passed (eqb (length commands % 16) 0) 4 e3.1 in
    let e5 = passed (leb (length commands / 16) 4096) 5 e4.1 in
    let e6 = passed (lengths_fit capacity (length commands / 16) lent && image_fits capacity lent && source_long capacity source) 6 e5.1 in
    let e15 = passed (source_chained capacity source) 15 e6.1 in
    let e16 = passed (source_fits capacity source) 16 e15.1 in
    record {
      size_fits = range size 150 e1.0;
      workers_fit = range workers 64 e2.0;
      capacity_fits = range capacity 4096 e3.0;
      whole = eqb-true (length commands % 16) 0 e4.0;
      count_fits = leb-true (length commands / 16) 4096 e5.0;
      long = e6.0;
      chained = e15.0;
      fits = e16.0;
      opens = e16.1;
    }

pub accepted_opening : (size workers capacity : ℕ) (commands : List ℕ) (source : Source) (lent l : Lists) → open_on size workers capacity commands source lent ≡ Call.accepted l
    → IsOpened (setup_of size workers capacity commands source) commands l
accepted_opening size workers capacity commands source lent l e =
    let p = passes size workers capacity commands source lent l e in
    let left = opened_lists (first_refusal 1 (readings commands)) _ l p.opens in
    let count = commands_length commands (length commands / 16) (omega (arith, p.whole)) in
    record {
      setup = record {
        size = p.size_fits;
        workers = p.workers_fit;
        largest = refl;
        capacity = p.capacity_fits;
        count = omega (arith, p.count_fits);
        entries = first_stored capacity source p.chained p.fits;
        chutes = λ c command at. let r = command_read commands left.0 c command at in accepted_chute_fits r.0 command r.1;
        keys = λ c command at. let r = command_read commands left.0 c command at in accepted_key_is_at_most_largest r.0 command r.1;
      };
      long = omega (arith, p.whole);
      read = left.0;
      lists = left.1;
    }

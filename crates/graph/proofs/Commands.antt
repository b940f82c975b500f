-- The commands of a list by their sequence numbers, and the commands kept for the nodes after a change of one node. Assumes nothing.
use Prim.Native.Nat.{ℕ, zero, suc, ◌+◌, ◌-◌, ◌*◌, ◌/◌, ◌≤◌, ◌<◌}
use mathlib.Core.Path.{◌≡◌, refl, sym, ◌∙◌}
use mathlib.Core.List.{List, [], ◌∷◌, map}
use mathlib.Core.Option.{none, some}
use Rattle.std.specs.Prelude.{Option, None}
use mathlib.Core.Logic.{⊎_elim}
use native.Mathlib.Omega.{arith}
use lib.ListN.{length, take, drop, set, get_elem?, length-map}
use lib.Seq.{drop-drop, get_or-set_same, get_or-set_other}
use Rattle.command.specs.declared.Command.{Command}
use Rattle.command.specs.Read.{parts, parts_of, command_in, commands_in}
use Rattle.command.proofs.Laws.{length_parts_of}
use Rattle.model.specs.Upd.{upd}
use Rattle.model.specs.Setup.{command_at}
use Rattle.model.proofs.Upd.{upd_at, upd_other}
use Rattle.command.proofs.Tests.{eqb_cases}
use Rattle.graph.specs.declared.Graph.{Graph}
use Rattle.graph.specs.Arrays.{numbers, SameCommands}
use Rattle.graph.specs.Items.{item_of, Kept}
use Rattle.graph.specs.Worker.{Placed}
use Rattle.graph.proofs.Bridge.{value}

-- the command of part i is that of the bytes from 16 * i on
part_command : (n i : ℕ) (bytes : List ℕ) → i < n → get_elem? (map command_in (parts n bytes)) i ≡ some (command_in (take 16 (drop (16 * i) bytes)))
unfolding parts
part_command zero i bytes h = absurd (omega arith)
part_command (suc n) zero bytes h = refl
part_command (suc n) (suc i) bytes h =
    let from : 16 + 16 * i ≡ 16 * suc i = omega arith in
    part_command n i (drop 16 bytes) (omega arith) ∙ rw (drop-drop, from)

module _ (bytes : List ℕ) (count : ℕ) (whole : length bytes ≡ 16 * count) where
  -- a list of whole commands has as many parts
  parts_count : (length bytes + 15) / 16 ≡ count
  parts_count = omega arith

  pub commands_length : length (commands_in bytes) ≡ count
  unfolding commands_in
  commands_length = rw (length-map, length_parts_of) parts_count

-- the command of a place is that of the sixteen bytes that end there
pub command_is : (bytes : List ℕ) (place : ℕ) → 1 ≤ place → 16 * place ≤ length bytes
    → command_at (commands_in bytes) place ≡ some (command_in (take 16 (drop (16 * place - 16) bytes)))
unfolding command_at commands_in parts_of
command_is bytes zero from to = absurd (omega arith)
command_is bytes (suc i) from to =
    let start : 16 * suc i - 16 ≡ 16 * i = omega arith in
    rw start (part_command ((length bytes + 15) / 16) i bytes (omega arith))

-- a place that has a command is one of the list's
pub command_placed : (cs : List Command) (place : ℕ) (c : Command) → command_at cs place ≡ some c → (1 ≤ place) × (place ≤ length cs)
unfolding command_at
command_placed cs zero c e = let z : ◌≡◌ {A = ℕ} 0 1 = cc in absurd (omega arith)
command_placed cs (suc i) c e = (omega arith, within cs i e)
  where
    within : (l : List Command) (i : ℕ) → get_elem? l i ≡ some c → suc i ≤ length l
    within [] i e = let z : ◌≡◌ {A = ℕ} 0 1 = cc in absurd (omega arith)
    within (x ∷ l) zero e = omega arith
    within (x ∷ l) (suc i) e = let h = within l i e in omega arith

-- kept commands have sequence numbers of answers
pub kept_placed : (cs : List Command) (graph : Graph) (answers : List ℕ) → length cs ≡ length answers → Kept cs graph → Placed graph answers
kept_placed cs graph answers l kept n c h e =
    let placed = command_placed cs (numbers graph.seq n) c (sym (kept n h) ∙ e) in (placed.0, rw l at placed.1)

-- place 0 has no command
pub none_at_zero : (cs : List Command) → command_at cs 0 ≡ none
unfolding command_at
none_at_zero cs = refl

module _ (cs : List Command) (graph graph' : Graph) (node : ℕ) (within : node < length graph.items) where
  -- a node that gets a place and the command of that place leaves each node's command the one of its sequence number
  pub kept_stored : (place : ℕ) (item : Option Command) → command_at cs place ≡ item_of item
      → numbers graph'.seq ≡ upd (numbers graph.seq) node place → graph'.items ≡ set graph.items node item → Kept cs graph → Kept cs graph'
  kept_stored place item is stored items kept n h =
      rw (items, value stored n) (⊎_elim
      (λ w. rw (w.0, get_or-set_same graph.items node item None within, upd_at (numbers graph.seq) node place node refl) (sym is))
      (λ w. rw (get_or-set_other graph.items node n item None w.0, upd_other (numbers graph.seq) node place n w.0) (kept n h))
      (eqb_cases n node))

  -- and so does one that gets none, with place 0
  pub kept_forgotten : numbers graph'.seq ≡ upd (numbers graph.seq) node 0 → graph'.items ≡ set graph.items node None → Kept cs graph → Kept cs graph'
  kept_forgotten = kept_stored 0 None (none_at_zero cs)

-- where neither sequence numbers nor commands change, the commands kept stay right
pub kept_unchanged : (cs : List Command) (graph graph' : Graph) → SameCommands graph graph' → Kept cs graph → Kept cs graph'
kept_unchanged cs graph graph' same kept = rw (same.0, same.1) kept

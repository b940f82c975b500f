-- A list of commands read one after the other: what is known of the first i. Assumes nothing.
use Prim.Native.Nat.{ℕ, suc, ◌+◌, ◌-◌, ◌*◌, ◌≤◌, ◌<◌}
use mathlib.Core.Path.{◌≡◌, refl, sym, ap, ◌∙◌}
use mathlib.Core.List.{List, [], ◌∷◌, ◌++◌, map, append_assoc, append-nil}
use native.Mathlib.Omega.{arith}
use lib.ListN.{length, take, drop, length-drop, length-append, drop_of_length-le}
use lib.Seq.{drop-drop}
use Rattle.s10.specs.Refusal.{Refusal, at_place}
use Rattle.command.specs.declared.Command.{Command}
use Rattle.command.specs.Read.{CommandOutcome, read_command, accepted, refused, readings, first_refusal, all_accepted, list_refused, command_in, commands_in, parts_of, parts}
use Rattle.command.proofs.Laws.{accepted_as_untested}
use Rattle.command.proofs.Parts.{parts_cons}

-- the first i commands of a list are accepted, and are es
pub record ReadSoFar (list : List ℕ) (i : ℕ) (es : List Command) : Type 0 where
  pub inside : 16 * i ≤ length list
  pub refusal : first_refusal (suc i) (readings (drop (16 * i) list)) ≡ first_refusal 1 (readings list)
  pub count : length es ≡ i
  pub before : es ++ commands_in (drop (16 * i) list) ≡ commands_in list

pub read_begins : (list : List ℕ) → ReadSoFar list 0 []
read_begins list = record { inside = omega arith; refusal = refl; count = refl; before = refl }

-- the part of a command, and those behind it
part_at : (list : List ℕ) (i : ℕ) → 16 * i < length list → parts_of (drop (16 * i) list) ≡ take 16 (drop (16 * i) list) ∷ parts_of (drop (16 * suc i) list)
part_at list i h =
    let some : 0 < length (drop (16 * i) list) = rw length-drop (omega arith) in
    let end : 16 * suc i ≡ 16 * i + 16 = omega arith in
    rw (end, ← drop-drop 16 (16 * i) list) (parts_cons (drop (16 * i) list) some)

-- the part that is read next
next_part : (list : List ℕ) (i : ℕ) → 16 * i < length list → readings (drop (16 * i) list) ≡ read_command (take 16 (drop (16 * i) list)) ∷ readings (drop (16 * suc i) list)
unfolding readings
next_part list i h = ap (map read_command) (part_at list i h)

next_command : (list : List ℕ) (i : ℕ) → 16 * i < length list → commands_in (drop (16 * i) list) ≡ command_in (take 16 (drop (16 * i) list)) ∷ commands_in (drop (16 * suc i) list)
unfolding commands_in
next_command list i h = ap (map command_in) (part_at list i h)

-- as the code names it
pub read_part : (i : ℕ) (list : List ℕ) (o : CommandOutcome) → read_command (take (i * 16 + 16 - i * 16) (drop (i * 16) list)) ≡ o → read_command (take 16 (drop (16 * i) list)) ≡ o
read_part i list o e =
    let long : i * 16 + 16 - i * 16 ≡ 16 = omega arith in
    let from : i * 16 ≡ 16 * i = omega arith in
    rw (long, from) at e

module _ {list : List ℕ} {i : ℕ} {es : List Command} (n : ReadSoFar list i es) (whole : 16 * i + 16 ≤ length list) where
  -- one more
  pub read_goes : (c : Command) → read_command (take 16 (drop (16 * i) list)) ≡ accepted c → ReadSoFar list (suc i) (es ++ (c ∷ []))
  unfolding first_refusal
  read_goes c read = record {
    inside = omega arith;
    refusal = let place : suc i + 1 ≡ suc (suc i) = omega arith in rw (← place) (rw (next_part list i (omega arith), read) at n.refusal);
    count = length-append es (c ∷ []) ∙ omega (arith, n.count);
    before = append_assoc es (c ∷ []) (commands_in (drop (16 * suc i) list))
        ∙ rw (← accepted_as_untested (take 16 (drop (16 * i) list)) c read) (ap (λ (cs : List Command). es ++ cs) (sym (next_command list i (omega arith))) ∙ n.before);
  }

  -- a refusal is the list's
  pub read_stops : (r : Refusal) → read_command (take 16 (drop (16 * i) list)) ≡ refused r → list_refused (at_place (suc i) r) ≡ first_refusal 1 (readings list)
  unfolding first_refusal
  read_stops r read = rw (next_part list i (omega arith), read) at n.refusal

-- at the end all are read
pub read_ends : {list : List ℕ} {i : ℕ} {es : List Command} → ReadSoFar list i es → length list ≤ 16 * i → (all_accepted ≡ first_refusal 1 (readings list)) × (es ≡ commands_in list)
unfolding first_refusal readings commands_in parts_of parts
read_ends {list} {i} {es} n h =
    let none = drop_of_length-le list {i = 16 * i} h in
    (rw none at n.refusal, sym (append-nil es) ∙ rw none at n.before)

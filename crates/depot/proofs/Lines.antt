-- Laws of lines one after the other: none at first, one more for each command, and all where no byte is left; a command's answer is the first of
-- those from its place on. Assumes nothing.
use Prim.Native.Nat.{ℕ, suc, ◌+◌, ◌*◌, ◌/◌, ◌≤◌, ◌<◌, min}
use native.Mathlib.Nat.{add-zero}
use native.Mathlib.Numerals.{add-one}
use native.Mathlib.Omega.{arith}
use mathlib.Core.Path.{◌≡◌, refl, sym, ap, ◌∙◌}
use mathlib.Core.List.{List, ◌++◌}
use lib.ListN.{length, take, drop, get_or, length-drop}
use lib.Seq.{take_at, drop_at, drop-drop, get_or-drop}
use Rattle.byte_fields.specs.Bytes.{fields}
use Rattle.byte_fields.proofs.Paste.{fields_more}
use Rattle.panel.specs.Reports.{answers_from}
use Rattle.depot.specs.Program.{command_line, command_lines}
use Rattle.depot.specs.Wrote.{Wrote}
use Rattle.depot.proofs.Wrote.{wrote_then}

-- the line of the command at an index
abbrev pub line_of : List ℕ → List ℕ → ℕ → List ℕ
line_of commands answers i = command_line (suc i) (take 16 (drop (16 * i) commands)) (get_or answers i 0)

-- the lines of the first n commands stand at the start, and the bytes of the others are left
pub record Lined (commands answers left : List ℕ) (n at : ℕ) (before after : List ℕ) : Type 0 where
  pub is : left ≡ drop (16 * n) commands
  pub within : n ≤ length answers
  pub bound : at ≤ 36 * n
  pub wrote : Wrote (fields n (line_of commands answers)) 0 before after at

pub none_lined : (commands answers out : List ℕ) → Lined commands answers commands 0 0 out out
unfolding fields
none_lined commands answers out = record { is = refl; within = omega arith; bound = omega arith; wrote = record { end = refl; list = refl } }

module _ {commands answers left before after : List ℕ} {n at : ℕ} (whole : length commands ≡ 16 * length answers) (lined : Lined commands answers left n at before after) where
  -- how many bytes are left
  left_long : length left + 16 * n ≡ 16 * length answers
  left_long = omega (arith, ap length lined.is ∙ length-drop (16 * n) commands, whole, lined.within)

  -- what is left begins with a whole command, which has an answer
  pub next_whole : (part : List ℕ) → length part ≡ min 16 (length left) → 0 < length left → (length part ≡ 16) × (n < length answers)
  next_whole part long some = (omega (arith, left_long, long, some), omega (arith, left_long, some))

  -- one line more
  pub one_lined : (part rest middle : List ℕ) (next : ℕ) → left ≡ part ++ rest → length part ≡ 16 → n < length answers → at ≤ length before
      → Wrote (command_line (suc n) part (get_or answers n 0)) at after middle next → next ≤ at + 36 → Lined commands answers rest (suc n) next before middle
  one_lined part rest middle next split long some fits line short =
      let own : take 16 (drop (16 * n) commands) ≡ part = ap (take 16) (sym lined.is ∙ split) ∙ take_at part rest 16 long in
      let behind : drop (16 * n + 16) commands ≡ rest = sym (drop-drop 16 (16 * n) commands) ∙ ap (drop 16) (sym lined.is ∙ split) ∙ drop_at part rest 16 long in
      let more : 16 * suc n ≡ 16 * n + 16 = omega arith in
      let as_own = rw (sym own) at line in
      record {
        is = rw more (sym behind);
        within = omega (arith, some);
        bound = omega (arith, lined.bound, short);
        wrote = rw fields_more (wrote_then fits lined.wrote as_own);
      }

  -- no byte is left
  pub all_lined : length left ≡ 0 → Wrote (command_lines commands answers) 0 before after at × (at ≤ 36 * length answers)
  unfolding command_lines
  all_lined none =
      let count : length commands / 16 ≡ n = omega (arith, left_long, none, whole) in
      (rw count lined.wrote, omega (arith, lined.bound, lined.within))

-- the answers from the place of command i on: there are some, and the first is its own
module _ (i : ℕ) (answers rest : List ℕ) (from : rest ≡ answers_from (i + 1) answers) where
  pub some_from : i < length answers → 0 < length rest
  unfolding answers_from
  some_from h = rw (from, add-one i, length-drop i answers) (omega arith)

  pub first_from : get_or rest 0 0 ≡ get_or answers i 0
  unfolding answers_from
  first_from = rw (from, add-one i, get_or-drop, add-zero)

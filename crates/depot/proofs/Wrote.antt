-- Laws of text written into a lent list: no text changes nothing, and two texts one behind the other are one text. Assumes nothing.
use Prim.Native.Nat.{ℕ, ◌+◌, ◌≤◌}
use native.Mathlib.Omega.{arith}
use mathlib.Core.Path.{◌≡◌, ap, sym, ◌∙◌}
use mathlib.Core.List.{List, [], ◌++◌, append_assoc, append-nil}
use lib.ListN.{length, take, drop, length-append, take-append-drop}
use lib.Seq.{length-take-le, take_at, drop_at, drop-drop}
use Rattle.io.specs.Counts.{IsPrefixLen}
use Rattle.depot.specs.Wrote.{Wrote}

-- a list as it was has no text more
pub wrote_nothing : (at : ℕ) (list : List ℕ) → Wrote [] at list list at
wrote_nothing at list =
    let none : at + 0 ≡ at = omega arith in
    record { end = omega arith; list = sym (simp (append-nil, none) (take-append-drop at list)) }

module _ {first second before middle after : List ℕ} {at next answer : ℕ} where
  -- the second text begins where the first ends, so it stands right behind it
  pub wrote_then : next ≤ length before → Wrote first at before middle next → Wrote second next middle after answer → Wrote (first ++ second) at before after answer
  wrote_then fits one two =
      let head = take at before ++ first in
      let tail = drop (at + length first) before in
      let long : length head ≡ next = length-append (take at before) first ∙ omega (arith, length-take-le at before (omega arith), one.end) in
      let kept : take next middle ≡ head = ap (take next) one.list ∙ take_at head tail next long in
      let behind : drop next middle ≡ tail = ap (drop next) one.list ∙ drop_at head tail next long in
      let rest : drop (next + length second) middle ≡ drop (at + length first + length second) before =
      sym (drop-drop (length second) next middle) ∙ ap (drop (length second)) behind ∙ drop-drop (length second) (at + length first) before in
      let whole : at + length (first ++ second) ≡ at + length first + length second = omega (arith, length-append first second) in
      record {
        end = omega (arith, one.end, two.end);
        list = two.list ∙ rw (kept, rest, whole, append_assoc (take at before) first second);
      }

module _ {text before after : List ℕ} {answer : ℕ} (wrote : Wrote text 0 before after answer) where
  -- a text that is written from the start on stands before the answer
  pub wrote_taken : take answer after ≡ text
  wrote_taken = ap (take answer) wrote.list ∙ take_at text (drop (0 + length text) before) answer (omega (arith, wrote.end))

  -- and the list is no shorter
  pub wrote_counts : IsPrefixLen answer after
  wrote_counts =
      let long = ap length wrote.list ∙ length-append text (drop (0 + length text) before) in
      (omega (arith, wrote.end), omega (arith, wrote.end, ap length wrote_taken))

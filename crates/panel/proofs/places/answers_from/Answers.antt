-- `panel::places::answers_from` meets its contract: the part that it lends is the list from the place on, and empty for 0 and past the end;
-- it is the end of the list that was lent. Assumes nothing.
use Prim.Native.Nat.{ℕ, zero, suc, ◌+◌, ◌*◌, ◌-◌, ◌≤◌, ◌<◌}
use native.Mathlib.Omega.{arith}
use mathlib.Core.Path.{◌≡◌, refl, sym, ◌∙◌}
use mathlib.Core.List.{List, []}
use lib.ListN.{length, take, drop, length-drop, drop_of_length-le}
use lib.Seq.{take_all}
use Rattle.panel.specs.Reports.{answers_from}
use Rattle.panel.proofs.places.answers_from.Goals as goal

-- a part of no element is empty
none_taken : (n : ℕ) (xs : List ℕ) → take (n - n) xs ≡ []
none_taken n xs =
    let e : n - n ≡ 0 = omega arith in
    rw e

-- there are no answers from 0 on, and none past the end
from_none : (place : ℕ) (xs : List ℕ) → place ≡ 0 → answers_from place xs ≡ []
unfolding answers_from
from_none place xs e = rw e

from_past : (place : ℕ) (xs : List ℕ) → length xs < place → answers_from place xs ≡ []
unfolding answers_from
from_past zero xs h = absurd (omega arith)
from_past (suc i) xs h = drop_of_length-le xs {i = i} (omega arith)

-- any other place has the rest of the list from it on
rest_from : (place : ℕ) (xs : List ℕ) → (place ≡ 0 → ⊥) → take (length xs - (place - 1)) (drop (place - 1) xs) ≡ answers_from place xs
unfolding answers_from
rest_from zero xs h = absurd (h refl)
rest_from (suc i) xs h =
    let e : suc i - 1 ≡ i = omega arith in
    rw e (take_all (length xs - i) (drop i xs) (simp length-drop (omega arith)))

-- the part from element i on begins i elements of two bytes behind the list, as many as it has fewer
begins_at : (i offset : ℕ) (xs : List ℕ) → i ≤ length xs → i * 2 + offset ≡ offset + 2 * (length xs - length (take (length xs - i) (drop i xs)))
begins_at i offset xs h =
    let whole : length (drop i xs) ≤ length xs - i = simp length-drop (omega arith) in
    rw (take_all (length xs - i) (drop i xs) whole, length-drop i xs) (omega arith)

pub returns-then-place-eq0 : goal.returns-then-place-eq0
returns-then-place-eq0 c =
    let xs = c.args.answers.now in
    record { answers = none_taken (length xs) (drop (length xs) xs) ∙ sym (from_none c.args.from.0 xs c.if-place-eq0.true); own = (refl, begins_at (length xs) c.args.answers.ref_ptr.1 xs (omega arith)) }

pub returns-then-place-n : goal.returns-then-place-n
returns-then-place-n c =
    let xs = c.args.answers.now in
    record { answers = none_taken (length xs) (drop (length xs) xs) ∙ sym (from_past c.args.from.0 xs c.if-place-n.true); own = (refl, begins_at (length xs) c.args.answers.ref_ptr.1 xs (omega arith)) }

pub returns : goal.returns
returns c =
    let xs = c.args.answers.now in
    record { answers = rest_from c.args.from.0 xs c.if-place-eq0.false; own = (refl, begins_at (c.args.from.0 - 1) c.args.answers.ref_ptr.1 xs (omega arith)) }

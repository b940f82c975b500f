-- `state_bytes::fits::keys_ascend` meets its contract. Assumes nothing.
use borrow.Author.Tests.{lt-leb, le-leb, le-ltb}
use Prim.Native.Nat.{ℕ, ◌+◌, ◌-◌, ◌<◌}
use native.Mathlib.Omega.{arith}
use mathlib.Core.Bool.{Bool, true, false, ◌||◌, or-true}
use mathlib.Core.List.{List}
use mathlib.Core.Path.{◌≡◌, sym, ap, ◌∙◌}
use lib.Dec.{leb, ltb}
use lib.ListN.{length, get_or, get_or-eq_default, drop}
use lib.Seq.{get_or-take}
use Rattle.std.proofs.Common.{rules, tests, inl, inr}
use Rattle.std.proofs.lemmas.List.Sorted.{answers_always}
use Rattle.std.specs.List.{slice_range, IsAllAdjacentAnswer}
use Rattle.byte_fields.proofs.Bytes.{below_or_past, each_all_below}
use Rattle.state_bytes.specs.Layout.{ascends}
use Rattle.state_bytes.proofs.Below.{one_fails}
use Rattle.state_bytes.proofs.fits.keys_ascend.Goals as goal

-- the test of a place: it is the last, or its key is below the next
abbrev ascending : ℕ → List ℕ → ℕ → Bool
ascending used keys i = leb used (i + 1) || ltb (get_or keys i 0) (get_or keys (i + 1) 0)

-- it passes at each place
all_ascend : (used : ℕ) (keys : List ℕ) → ((i : ℕ) → i + 1 < used → ltb (get_or keys i 0) (get_or keys (i + 1) 0) ≡ true) → true ≡ ascends used keys
unfolding ascends
all_ascend used keys each =
    sym
    (each_all_below used (ascending used keys) (λ n below.
    below_or_past (n + 1) used
    (λ l. ap (λ (t : Bool). leb used (n + 1) || t) (each n l) ∙ or-true (leb used (n + 1)))
    (λ l. simp (le-leb used (n + 1) l))))

-- or fails at one
falls_at : (used : ℕ) (keys : List ℕ) (i : ℕ) → i + 1 < used → ltb (get_or keys i 0) (get_or keys (i + 1) 0) ≡ false → false ≡ ascends used keys
unfolding ascends
falls_at used keys i h low = one_fails used (ascending used keys) i (omega arith) (simp (lt-leb used (i + 1) h, low))

-- the keys taken are the first ones
taken_is : (used : ℕ) (keys : List ℕ) (i : ℕ) → i < used → get_or (slice_range keys 0 used) i 0 ≡ get_or keys i 0
taken_is used keys i h = get_or-take (used - 0) (drop 0 keys) i 0 (omega arith)

-- so they ascend where each of those taken is below the next
taken_decide : (used : ℕ) (keys taken : List ℕ) (r : Bool) → taken ≡ slice_range keys 0 used → length taken ≡ used
    → IsAllAdjacentAnswer (λ x y b. b ≡ ltb x y) taken r → r ≡ ascends used keys
taken_decide used keys taken true is long each = all_ascend used keys (λ i h.
    let e : true ≡ ltb (get_or taken i 0) (get_or taken (i + 1) 0) = each i 0 (omega arith) in
    sym (rw (is, taken_is used keys i (omega arith), taken_is used keys (i + 1) h) at e))
taken_decide used keys taken false is long some =
    let i = some.0 in
    let h : i + 1 < used = omega (arith, some.1) in
    let e : false ≡ ltb (get_or taken i 0) (get_or taken (i + 1) 0) = some.2 0 in
    falls_at used keys i h (sym (rw (is, taken_is used keys i (omega arith), taken_is used keys (i + 1) h) at e))

-- where there are fewer keys, the last two places have the key 0 behind them
fewer_decide : (used : ℕ) (keys : List ℕ) → length keys < used → leb used 1 ≡ ascends used keys
fewer_decide used keys few =
    below_or_past 1 used
    (λ h. lt-leb used 1 h
    ∙ falls_at used keys (used - 2) (omega arith)
    (rw (get_or-eq_default keys 0 {n = used - 2 + 1} (omega arith)) (le-ltb (get_or keys (used - 2) 0) 0 (omega arith))))
    (λ h. le-leb used 1 h ∙ all_ascend used keys (λ i l. absurd (omega arith)))

pub returns-in-Some : goal.returns-in-Some
returns-in-Some c =
    let taken = c.in-Some.ensures.lookup.0 in
    taken_decide c.args.used c.args.keys.now _ _ taken.2 (omega (arith, taken.3)) (c.is_sorted_by.ensures.cases ltb (answers_always _ _ _ (λ f a r g k. search (rules, tests))))

pub returns-in-None : goal.returns-in-None
returns-in-None c =
    let few : length c.args.keys.now < c.args.used = elim c.in-None.ensures.lookup.0 [ inl e ↦ absurd (omega arith) | inr e ↦ e ] in
    fewer_decide c.args.used c.args.keys.now few

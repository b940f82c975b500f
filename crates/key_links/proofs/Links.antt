-- Laws of `specs/Links.antt`. Assumes nothing.
use Prim.Native.Nat.{ℕ, zero, suc, ◌-◌, ◌≤◌, ◌<◌}
use mathlib.Core.Path.{◌≡◌, refl, sym, ap, ◌∙◌}
use mathlib.Core.Bool.{Bool, true, false, cond}
use mathlib.Core.List.{List, [], ◌∷◌, ◌++◌}
use native.Mathlib.Omega.{arith}
use borrow.Author.Tests.{eqb-true, eqb-false, eq-eqb, ne_eqb}
use lib.ListN.{length, get_or, set, take, drop, replicate, get_or-append}
use lib.Seq.{get_or-set_same, get_or-set_other, get_or-append_seam}
use lib.Dec.{eqb}
use Rattle.std.proofs.lemmas.List.{length-take-le, take-append-drop}
use Rattle.std.specs.Prelude.{Some, None}
use Rattle.key_links.specs.Links.{bucket_of, last_in, last_of, place_at, at_link, Linked, Indexed}

-- a link leads back
pub last_below : (keys : List ℕ) (b k : ℕ) → last_in keys b k ≤ k
unfolding last_in
last_below keys b zero = omega arith
last_below keys b (suc k) = by (eqb (bucket_of (get_or keys k 0)) b) (last_below keys b k)
  where
    by : (t : Bool) → last_in keys b k ≤ k → cond t (suc k) (last_in keys b k) ≤ suc k
    by true low = omega arith
    by false low = omega arith

-- to a key of the bucket
pub last_in_lem : (keys : List ℕ) (b k j : ℕ) → last_in keys b k ≡ suc j → bucket_of (get_or keys j 0) ≡ b
unfolding last_in
last_in_lem keys b zero j e = absurd (omega arith)
last_in_lem keys b (suc k) j e = by (eqb (bucket_of (get_or keys k 0)) b) refl e (last_in_lem keys b k j)
  where
    by : (t : Bool) → eqb (bucket_of (get_or keys k 0)) b ≡ t → cond t (suc k) (last_in keys b k) ≡ suc j → (last_in keys b k ≡ suc j → bucket_of (get_or keys j 0) ≡ b) →
        bucket_of (get_or keys j 0) ≡ b
    by true is e rest = let same : k ≡ j = omega arith in rw (← same) (eqb-true _ _ is)
    by false is e rest = rest e

-- the last of a key is one of those
pub last_of_below : (keys : List ℕ) (key k : ℕ) → last_of keys key k ≤ k
unfolding last_of
last_of_below keys key zero = omega arith
last_of_below keys key (suc k) = by (eqb (get_or keys k 0) key) (last_of_below keys key k)
  where
    by : (t : Bool) → last_of keys key k ≤ k → cond t (suc k) (last_of keys key k) ≤ suc k
    by true low = omega arith
    by false low = omega arith

-- those that a link skips have another key
pub skipped : (keys : List ℕ) (key k : ℕ) → last_of keys key (last_in keys (bucket_of key) k) ≡ last_of keys key k
unfolding last_in last_of
skipped keys key zero = refl
skipped keys key (suc k) = by (eqb (bucket_of (get_or keys k 0)) (bucket_of key)) refl (skipped keys key k)
  where
    by : (t : Bool) → eqb (bucket_of (get_or keys k 0)) (bucket_of key) ≡ t → last_of keys key (last_in keys (bucket_of key) k) ≡ last_of keys key k →
        last_of keys key (cond t (suc k) (last_in keys (bucket_of key) k)) ≡ last_of keys key (suc k)
    by true is rest = refl
    by false is rest = rest ∙ rw (ne_eqb (get_or keys k 0) key (λ e. eqb-false _ _ is (ap bucket_of e)))

-- What a walk along the links of a key's bucket knows at a link.
abbrev pub Walked : List ℕ → ℕ → ℕ → ℕ → Type 0
Walked keys key k link =
    (link ≤ k) × ((j : ℕ) → link ≡ suc j → bucket_of (get_or keys j 0) ≡ bucket_of key) × (last_of keys key link ≡ last_of keys key k)

-- it begins at the last of the bucket
pub walk_begins : (keys : List ℕ) (key k last : ℕ) → last ≡ last_in keys (bucket_of key) k → Walked keys key k last
walk_begins keys key k last e =
    (rw e (last_below keys (bucket_of key) k), λ j is. last_in_lem keys (bucket_of key) k j (sym e ∙ is), rw e (skipped keys key k))

-- passes those of another key
pub walk_goes : (keys previous : List ℕ) (key k link : ℕ) → Linked keys previous k → Walked keys key k link → (link ≡ 0 → ⊥) → (get_or keys (link - 1) 0 ≡ key → ⊥) →
    (get_or previous (link - 1) 0 < link) × Walked keys key k (get_or previous (link - 1) 0)
unfolding last_of
walk_goes keys previous key k zero linked w some other = absurd (some refl)
walk_goes keys previous key k (suc j) linked w some other =
    let before : suc j - 1 ≡ j = omega arith in
    let low : j < k = w.0 in
    let at : get_or previous j 0 ≡ last_in keys (bucket_of key) j = linked j low ∙ ap (λ (b : ℕ). last_in keys b j) (w.1 j refl) in
    let below = last_below keys (bucket_of key) j in
    let here : last_of keys key j ≡ last_of keys key k = rw (ne_eqb (get_or keys j 0) key (rw before at other)) at w.2 in
    rw before (rw at (omega arith), (rw at (omega arith), λ i is. last_in_lem keys (bucket_of key) j i (sym at ∙ is), rw at (skipped keys key j ∙ here)))

-- and ends at the key's last, or behind all
pub walk_ends : (keys : List ℕ) (key k link : ℕ) → Walked keys key k link → (link ≡ 0 → ⊥) → get_or keys (link - 1) 0 ≡ key → link ≡ last_of keys key k
unfolding last_of
walk_ends keys key k zero w some same = absurd (some refl)
walk_ends keys key k (suc j) w some same =
    let before : suc j - 1 ≡ j = omega arith in
    rw (eq-eqb (get_or keys j 0) key (rw before at same)) at w.2

pub walk_fails : (keys : List ℕ) (key k link : ℕ) → Walked keys key k link → link ≡ 0 → 0 ≡ last_of keys key k
unfolding last_of
walk_fails keys key k zero w none = w.2
walk_fails keys key k (suc j) w none = absurd (omega arith)

-- ---- one command more

-- what stands at a place and later does not count before it
last_same : (keys : List ℕ) (k key b j : ℕ) → j ≤ k → last_in (set keys k key) b j ≡ last_in keys b j
unfolding last_in
last_same keys k key b zero low = refl
last_same keys k key b (suc j) low =
    let there = get_or-set_other keys k j key 0 (λ e. omega arith) in
    rw (there, last_same keys k key b j (omega arith))

pub last_of_same : (keys : List ℕ) (k key key' j : ℕ) → j ≤ k → last_of (set keys k key) key' j ≡ last_of keys key' j
unfolding last_of
last_of_same keys k key key' zero low = refl
last_of_same keys k key key' (suc j) low =
    let there = get_or-set_other keys k j key 0 (λ e. omega arith) in
    rw (there, last_of_same keys k key key' j (omega arith))

at_same : (values : List ℕ) (k v m : ℕ) → m ≤ k → at_link (set values k v) m ≡ at_link values m
unfolding at_link
at_same values k v zero low = refl
at_same values k v (suc j) low = get_or-set_other values k j v 0 (λ e. omega arith)

-- nor does what is put behind
last_of_before : (keys more : List ℕ) (key j : ℕ) → j ≤ length keys → last_of (keys ++ more) key j ≡ last_of keys key j
unfolding last_of
last_of_before keys more key zero low = refl
last_of_before keys more key (suc j) low = rw (get_or-append keys more 0 j (omega arith), last_of_before keys more key j (omega arith))

-- so the first k tell the last among them
pub last_of_taken : (keys : List ℕ) (key k : ℕ) → k ≤ length keys → last_of (take k keys) key (length (take k keys)) ≡ last_of keys key k
last_of_taken keys key k low =
    let long = length-take-le k keys low in
    rw long (sym (last_of_before (take k keys) (drop k keys) key k (omega (arith, long))) ∙ ap (λ (ks : List ℕ). last_of ks key k) (take-append-drop k keys))

-- the one behind counts for its key alone
pub at_more : (keys values : List ℕ) (key v key' : ℕ) → length keys < length values →
    at_link (set values (length keys) v) (last_of (keys ++ (key ∷ [])) key' (suc (length keys))) ≡ cond (eqb key key') v (at_link values (last_of keys key' (length keys)))
unfolding last_of at_link
at_more keys values key v key' low =
    rw (get_or-append_seam keys key [] 0, last_of_before keys (key ∷ []) key' (length keys) (omega arith)) (by (eqb key key'))
  where
    by : (t : Bool) → at_link (set values (length keys) v) (cond t (suc (length keys)) (last_of keys key' (length keys))) ≡ cond t v (at_link values (last_of keys key' (length keys)))
    by true = get_or-set_same values (length keys) v 0 low
    by false = at_same values (length keys) v (last_of keys key' (length keys)) (last_of_below keys key' (length keys))

-- a command goes to the front of its bucket
pub indexed_more : (keys previous heads : List ℕ) (k key : ℕ) → Indexed keys previous heads k → k < length keys → k < length previous → length heads ≡ 4096 →
    bucket_of key < 4096 → Indexed (set keys k key) (set previous k (get_or heads (bucket_of key) 0)) (set heads (bucket_of key) (suc k)) (suc k)
unfolding last_in
indexed_more keys previous heads k key (linked, last) kk kp hh bucket = (links, fronts)
  where
    here : get_or (set keys k key) k 0 ≡ key
    here = get_or-set_same keys k key 0 kk

    links : (j : ℕ) → j < suc k → get_or (set previous k (get_or heads (bucket_of key) 0)) j 0 ≡ last_in (set keys k key) (bucket_of (get_or (set keys k key) j 0)) j
    links j h = by (eqb j k) refl
      where
        by : (t : Bool) → eqb j k ≡ t → get_or (set previous k (get_or heads (bucket_of key) 0)) j 0 ≡ last_in (set keys k key) (bucket_of (get_or (set keys k key) j 0)) j
        by true is =
            let e = eqb-true j k is in
            rw (e, get_or-set_same previous k (get_or heads (bucket_of key) 0) 0 kp, here, last_same keys k key (bucket_of key) k (omega arith)) (last (bucket_of key) bucket)
        by false is =
            let other = eqb-false j k is in
            let there = get_or-set_other keys k j key 0 other in
            rw (get_or-set_other previous k j (get_or heads (bucket_of key) 0) 0 other, there, last_same keys k key (bucket_of (get_or keys j 0)) j (omega arith)) (linked j (omega arith))

    fronts : (b : ℕ) → b < 4096 → get_or (set heads (bucket_of key) (suc k)) b 0 ≡ cond (eqb (bucket_of (get_or (set keys k key) k 0)) b) (suc k) (last_in (set keys k key) b k)
    fronts b h = rw here (by (eqb (bucket_of key) b) refl)
      where
        by : (t : Bool) → eqb (bucket_of key) b ≡ t → get_or (set heads (bucket_of key) (suc k)) b 0 ≡ cond t (suc k) (last_in (set keys k key) b k)
        by true is = rw (← eqb-true (bucket_of key) b is) (get_or-set_same heads (bucket_of key) (suc k) 0 (omega arith))
        by false is =
            let other = eqb-false (bucket_of key) b is in
            rw (get_or-set_other heads (bucket_of key) b (suc k) 0 (λ e. other (sym e)), last_same keys k key b k (omega arith)) (last b h)

-- ---- tables that hold nothing

pub zeros : (n b : ℕ) → ◌≡◌ {A = ℕ} (get_or (replicate n 0) b 0) 0
zeros zero b = refl
zeros (suc n) zero = refl
zeros (suc n) (suc b) = zeros n b

-- no key is linked, and every bucket is empty
pub indexed_none : (keys previous heads : List ℕ) → ((b : ℕ) → get_or heads b 0 ≡ 0) → Indexed keys previous heads 0
unfolding last_in
indexed_none keys previous heads none = (λ j h. absurd (omega arith), λ b h. none b)

-- ---- a place and its link

pub link_of_place : (link place : ℕ) → Some place ≡ place_at link → link ≡ suc place
link_of_place zero place e = absurd (let z : ◌≡◌ {A = ℕ} 0 1 = cc in omega arith)
link_of_place (suc j) place e = let same : place ≡ j = cc in ap suc (sym same)

pub link_of_none : (link : ℕ) → None ≡ place_at link → link ≡ 0
link_of_none zero e = refl
link_of_none (suc j) e = absurd (let z : ◌≡◌ {A = ℕ} 0 1 = cc in omega arith)

pub place_of_none : (link : ℕ) → link ≡ 0 → None ≡ place_at link
place_of_none zero e = refl
place_of_none (suc j) e = absurd (omega arith)

pub place_of_link : (link : ℕ) → (link ≡ 0 → ⊥) → Some (link - 1) ≡ place_at link
place_of_link zero some = absurd (some refl)
place_of_link (suc j) some = let before : suc j - 1 ≡ j = omega arith in rw before refl

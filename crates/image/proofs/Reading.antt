-- Laws of following a chain that is accepted, and of laying out what is read along it. Assumes nothing.
use Prim.Native.Nat.{ℕ, zero, suc, ◌+◌, ◌*◌, ◌-◌, ◌≤◌, ◌<◌}
use native.Mathlib.Nat.{add-zero}
use native.Mathlib.Numerals.{add-one}
use native.Mathlib.Omega.{arith}
use mathlib.Core.Path.{◌≡◌, refl, sym, ap, ◌∙◌}
use mathlib.Core.Bool.{Bool, true, false, cond, ◌&&◌, and-eq-true_iff}
use mathlib.Core.List.{List, [], ◌∷◌, ◌++◌, map, map-map}
use borrow.Author.Tests.{leb-true}
use lib.ListN.{length, get_or, set, take, drop, drop_of_length-le, replicate, length-take, length-drop, length-map, length-set}
use borrow.Rule.Slice.PartMut.{put_mid}
use lib.Seq.{drop-drop, get_or-drop}
use Rattle.std.proofs.lemmas.List.{take_all, take_more, take_more_set, map-append, append-nil}
use lib.Dec.{eqb, leb}
use Rattle.model.specs.Store.{lay_out}
use Rattle.model.specs.Image.{image_length, next_in, chute_in, key_in, chain_from, chain_in, all, strictly_ascend, chain_fits, head_fits, slot_fits, slots_fit, entries_in}
use Rattle.model.proofs.ImageChain.{chain_zero}
use Rattle.model.proofs.ImageLaws.{chain_ends}
use Rattle.store.specs.Lists.{store_of}
use Rattle.image.proofs.Chain.{chain_met}

-- ---- a chain that is accepted

-- a chain of n indexes at most has no more
no_more : (image : List ℕ) (n i : ℕ) → length (chain_from image (suc n) i) ≤ n → chain_from image (suc n) i ≡ chain_from image n i
unfolding chain_from
no_more image zero i h = by (eqb i 0) h
  where
    by : (b : Bool) → length (cond b [] (i ∷ [])) ≤ 0 → cond b [] (i ∷ []) ≡ []
    by true l = refl
    by false l = absurd (omega arith)
no_more image (suc n) i h = by (eqb i 0) h (no_more image n (next_in image i))
  where
    by : (b : Bool) → length (cond b [] (i ∷ chain_from image (suc n) (next_in image i))) ≤ suc n
        → (length (chain_from image (suc n) (next_in image i)) ≤ n → chain_from image (suc n) (next_in image i) ≡ chain_from image n (next_in image i))
        → cond b [] (i ∷ chain_from image (suc n) (next_in image i)) ≡ cond b [] (i ∷ chain_from image n (next_in image i))
    by true l rest = refl
    by false l rest = ap (λ (is : List ℕ). i ∷ is) (rest (omega arith))

-- one that is accepted is met whole within the room
chain_whole : (capacity : ℕ) (image : List ℕ) → chain_fits capacity image ≡ true → chain_in capacity image ≡ chain_from image capacity (next_in image 0)
unfolding chain_in
chain_whole capacity image fits = rw (add-one capacity) (no_more image capacity (next_in image 0) (rw (add-one capacity) at (chain_ends capacity image fits).0))

-- and stays within it
chain_within : (capacity : ℕ) (image : List ℕ) → chain_fits capacity image ≡ true → all (λ k. leb k capacity) (chain_in capacity image) ≡ true
unfolding chain_fits
chain_within capacity image fits =
    ((and-eq-true_iff (all (λ k. leb k capacity) (chain_in capacity image)) (strictly_ascend (map (key_in image) (chain_in capacity image)))).0 fits).0

-- The chain was followed for n indexes, and i is the next.
pub record Along (capacity : ℕ) (image : List ℕ) (i n : ℕ) : Type 0 where
  pub left : ℕ
  pub count : n + left ≡ capacity
  pub met : n ≤ length (chain_in capacity image)
  pub rest : drop n (chain_in capacity image) ≡ chain_from image left i
  pub within : all (λ k. leb k capacity) (chain_from image left i) ≡ true

-- The next index of a chain, and what is left behind it.
record OneMet (capacity : ℕ) (image : List ℕ) (i n : ℕ) : Type 0 where
  left : ℕ
  count : n + suc left ≡ capacity
  rest : drop n (chain_in capacity image) ≡ i ∷ chain_from image left (next_in image i)
  within : all (λ k. leb k capacity) (i ∷ chain_from image left (next_in image i)) ≡ true

-- before the first turn none is met
pub along_begins : (capacity : ℕ) (image : List ℕ) {i : ℕ} → chain_fits capacity image ≡ true → i ≡ next_in image 0 → Along capacity image i 0
along_begins capacity image fits e =
    let whole = chain_whole capacity image fits in
    record {
      left = capacity;
      count = omega arith;
      met = omega arith;
      rest = whole ∙ ap (chain_from image capacity) (sym e);
      within = rw (e, ← whole) (chain_within capacity image fits);
    }

module _ {capacity : ℕ} {image : List ℕ} {i n : ℕ} (a : Along capacity image i n) where
  -- where none is left, the chain is followed whole
  none_left : chain_from image a.left i ≡ [] → length (chain_in capacity image) ≡ n
  none_left none = omega (arith, a.met, sym (length-drop n (chain_in capacity image)) ∙ ap length (a.rest ∙ none))

  -- index 0, or the room's end, ends it
  pub along_ends : i ≡ 0 → length (chain_in capacity image) ≡ n
  along_ends z = none_left (rw z (chain_zero image a.left))

  pub along_full : capacity ≤ n → length (chain_in capacity image) ≡ n
  unfolding chain_from
  along_full h =
      let z : a.left ≡ 0 = omega (arith, a.count) in
      none_left (rw z)

  module _ (h : n < capacity) (ne : i ≡ 0 → ⊥) where
    -- else i is met, and those behind it are left
    one_met : OneMet capacity image i n
    one_met = go a.left a.count a.rest a.within
      where
        go : (left : ℕ) → n + left ≡ capacity → drop n (chain_in capacity image) ≡ chain_from image left i → all (λ k. leb k capacity) (chain_from image left i) ≡ true
            → OneMet capacity image i n
        go zero count rest within = absurd (omega arith)
        go (suc m) count rest within = record { left = m; count = count; rest = rest ∙ chain_met image m i ne; within = rw (chain_met image m i ne) at within }

    behind_met : drop (n + 1) (chain_in capacity image) ≡ chain_from image one_met.left (next_in image i)
    behind_met = rw (← drop-drop 1 n (chain_in capacity image), one_met.rest)

    both_within : (leb i capacity ≡ true) × (all (λ k. leb k capacity) (chain_from image one_met.left (next_in image i)) ≡ true)
    unfolding all
    both_within = (and-eq-true_iff (leb i capacity) (all (λ k. leb k capacity) (chain_from image one_met.left (next_in image i)))).0 one_met.within

    -- it stays within the room
    along_within : i ≤ capacity
    along_within = leb-true i capacity both_within.0

    -- so its record stands in the image
    pub along_in_image : length image ≡ image_length capacity → 16 * i + 16 ≤ length image
    unfolding image_length
    along_in_image long = omega (arith, along_within)

    -- and is index n of the chain
    pub along_more : n < length (chain_in capacity image)
    along_more = omega (arith, sym (length-drop n (chain_in capacity image)) ∙ ap length one_met.rest)

    pub along_at : get_or (chain_in capacity image) n 0 ≡ i
    along_at = ap (λ (k : ℕ). get_or (chain_in capacity image) k 0) (sym (add-zero n)) ∙ (sym (get_or-drop n (chain_in capacity image) 0 0) ∙ ap (λ (is : List ℕ). get_or is 0 0) one_met.rest)

    -- then the next one is behind it
    pub along_goes_on : {next : ℕ} → next ≡ next_in image i → Along capacity image next (n + 1)
    along_goes_on e = record {
      left = one_met.left;
      count = omega (arith, one_met.count);
      met = omega (arith, along_more);
      rest = rw e behind_met;
      within = rw e both_within.1;
    }

    -- a test of those that are left is one of i and of those behind it
    pub along_tests : (test : ℕ → Bool) → all test (drop n (chain_in capacity image)) ≡ (test i && all test (drop (n + 1) (chain_in capacity image)))
    unfolding all
    along_tests test = ap (all test) one_met.rest ∙ ap (λ (is : List ℕ). test i && all test is) (sym behind_met)

-- ---- the test of the records

module _ (capacity : ℕ) (image : List ℕ) where
  -- record 0 fails, or those on the chain decide
  pub head_fails : head_fits image ≡ false → false ≡ slots_fit capacity image
  unfolding slots_fit
  head_fails e = rw e

  pub head_passes : head_fits image ≡ true → slots_fit capacity image ≡ all (slot_fits image) (drop 0 (chain_in capacity image))
  unfolding slots_fit
  head_passes e = rw e

module _ {capacity : ℕ} {image : List ℕ} {i n : ℕ} (a : Along capacity image i n) (same : slots_fit capacity image ≡ all (slot_fits image) (drop n (chain_in capacity image))) where
  -- where none is left, all passed
  pub slots_pass : length (chain_in capacity image) ≡ n → true ≡ slots_fit capacity image
  unfolding all
  slots_pass e = sym (same ∙ rw (drop_of_length-le (chain_in capacity image) {i = n} (omega arith)))

  module _ (h : n < capacity) (ne : i ≡ 0 → ⊥) where
    -- a record that fails fails them all, and one that passes leaves the test to those behind it
    pub slot_fails : slot_fits image i ≡ false → false ≡ slots_fit capacity image
    slot_fails e = sym (same ∙ (along_tests a h ne (slot_fits image) ∙ rw e))

    pub slot_passes : slot_fits image i ≡ true → slots_fit capacity image ≡ all (slot_fits image) (drop (n + 1) (chain_in capacity image))
    slot_passes e = same ∙ (along_tests a h ne (slot_fits image) ∙ rw e)

-- ---- laying out

-- what is read along a chain is the store's, with zeros behind it
store_of_lem : (capacity : ℕ) (image : List ℕ) → let chain = chain_in capacity image in
    store_of (map (key_in image) chain ++ replicate (capacity - length chain) 0) (map (chute_in image) chain ++ replicate (capacity - length chain) 0) (length chain)
    ≡ lay_out capacity (entries_in capacity image)
unfolding lay_out entries_in
store_of_lem capacity image = simp (map-map, length-map)

-- The first k places of a list hold what is read along the first k indexes of a chain.
pub record Read (f : ℕ → ℕ) (capacity : ℕ) (chain list : List ℕ) (k : ℕ) : Type 0 where
  pub long : length list ≡ capacity
  pub first : take k list ≡ map f (take k chain)

module _ {f : ℕ → ℕ} {capacity : ℕ} {chain list : List ℕ} where
  read_none : length list ≡ capacity → Read f capacity chain list 0
  read_none long = record { long = long; first = refl }

  read_more : {k : ℕ} (i v : ℕ) → Read f capacity chain list k → k < capacity → k < length chain → get_or chain k 0 ≡ i → v ≡ f i → Read f capacity chain (set list k v) (k + 1)
  read_more {k} i v r h more at e =
      let short : k < length list = omega (arith, r.long) in
      record {
        long = length-set list k v ∙ r.long;
        first = rw (take_more_set list k v short, take_more chain k 0 more, map-append, r.first, at, e);
      }

  read_all : {k : ℕ} → Read f capacity chain list k → length chain ≡ k → take k list ++ replicate (capacity - k) 0 ≡ map f chain ++ replicate (capacity - length chain) 0
  read_all {k} r e = rw (r.first, take_all k chain (omega arith), e)

-- The first k places of both lists hold what the store of an image holds there.
pub record Laid (capacity : ℕ) (image keys chutes : List ℕ) (k : ℕ) : Type 0 where
  pub keys_read : Read (key_in image) capacity (chain_in capacity image) keys k
  pub chutes_read : Read (chute_in image) capacity (chain_in capacity image) chutes k

-- before the first turn none is laid out
pub laid_none : {capacity : ℕ} (image : List ℕ) {keys chutes : List ℕ} → length keys ≡ capacity → length chutes ≡ capacity → Laid capacity image keys chutes 0
laid_none image k c = record { keys_read = read_none k; chutes_read = read_none c }

module _ {capacity : ℕ} {image keys chutes : List ℕ} {k : ℕ} (l : Laid capacity image keys chutes k) where
  -- a turn along the chain lays an entry out
  pub laid_entry : {i key chute : ℕ} → Along capacity image i k → k < capacity → (i ≡ 0 → ⊥) → key ≡ key_in image i → chute ≡ chute_in image i
      → Laid capacity image (set keys k key) (set chutes k chute) (k + 1)
  laid_entry {i} {key} {chute} a h ne ek ec =
      let more = along_more a h ne in
      let at = along_at a h ne in
      record { keys_read = read_more i key l.keys_read h more at ek; chutes_read = read_more i chute l.chutes_read h more at ec }

  -- after the last turn zeros behind them make both lists the store's
  pub laid_zeros : {ks cs : List ℕ} → length (chain_in capacity image) ≡ k → ks ≡ take k keys ++ replicate (capacity - k) 0 → cs ≡ take k chutes ++ replicate (capacity - k) 0
      → store_of ks cs k ≡ lay_out capacity (entries_in capacity image)
  laid_zeros e ek ec = rw (ek, ec, read_all l.keys_read e, read_all l.chutes_read e, ← e) (store_of_lem capacity image)

  -- and so they are where no place is left behind them
  pub laid_full : length (chain_in capacity image) ≡ k → k ≡ capacity → store_of keys chutes capacity ≡ lay_out capacity (entries_in capacity image)
  laid_full e full =
      let whole : (list : List ℕ) → length list ≡ capacity → list ≡ take k list ++ replicate (capacity - k) 0
      = λ list long. let none : capacity - k ≡ 0 = omega arith in rw (none, append-nil, take_all k list (omega arith)) in
      ap (store_of keys chutes) (sym full) ∙ laid_zeros e (whole keys l.keys_read.long) (whole chutes l.chutes_read.long)

-- zeros that fill a list from place k on stand behind the first k
pub filled_behind : {capacity : ℕ} (k : ℕ) (list : List ℕ) {zeros : List ℕ} → length list ≡ capacity → zeros ≡ replicate (length (take (length list - k) (drop k list))) 0
    → put_mid k (length list - k) list zeros ≡ take k list ++ replicate (capacity - k) 0
filled_behind {capacity} k list long e =
    let none : drop (length list - k) (drop k list) ≡ [] = drop_of_length-le (drop k list) (simp length-drop (omega arith)) in
    let many : length (take (length list - k) (drop k list)) ≡ capacity - k = simp (length-take, length-drop) (omega arith) in
    rw (e, none, append-nil, many)

-- The laws of images (specs/ImageLaws): what was written is read back, zeros are an empty store, and what an accepted image holds a store can
-- hold. Assumes nothing.
use Prim.Native.Nat.{ℕ, zero, suc, ◌+◌, ◌^◌, ◌≤◌, ◌<◌}
use Rattle.std.proofs.Common.{arith, sym, ◌∙◌}
use Rattle.std.specs.Prelude.{◌≡◌, Bool, true, ◌&&◌, List, [], ◌∷◌, map, length, get_or, eqb, ltb}
use Rattle.std.proofs.Math.Path.{refl, ap}
use Rattle.std.proofs.Math.Bool.{and-eq-true_iff}
use Rattle.std.proofs.lemmas.Simd.{map-map}
use Rattle.std.proofs.lemmas.List.{length-map}
use Rattle.std.proofs.Math.ListN.{get_or-append, get_or-map}
use Rattle.std.proofs.Math.Dec.{leb}
use borrow.Author.Tests.{ltb-true, leb-true, le-leb, lt-ltb}
use Rattle.s10.specs.Text.{largest_key}
use Rattle.byte_fields.specs.Bytes.{tabulate}
use Rattle.byte_fields.proofs.Bytes.{tabulate_is}
use Rattle.model.specs.Serial.{Entry, All, Ascending, Stored}
use Rattle.model.specs.Store.{lay_out}
use Rattle.model.specs.Image.{next_index, slot_of, image_of, image_length, empty_image, next_in, chute_in, key_in, rest_in, chain_from, chain_in, all, strictly_ascend, chain_fits, head_fits, slot_fits, slots_fit, entries_in, seq_in}
use Rattle.model.specs.ImageLaws.{ReadsAs, WrittenReadsBack, ZerosReadAsEmpty, AcceptedIsStored, ChainEnds}
use Rattle.command.proofs.Tests.{cond_cases}
use Rattle.model.proofs.Store.{laid, entry, key_of, chute_of, in_use_lay_out}
use Rattle.model.proofs.Few.{Each, each_map}
use Rattle.model.proofs.Image.{slot_length, image_length_lem, empty_length}
use Rattle.model.proofs.Slots.{SlotHolds, slot_laid, zeros_hold}
use Rattle.model.proofs.ImageChain.{each_all, all_each, each_tabulate, Ascends, ascending_test, chain_zero, chain_in_order, keys_ascend_lem, chain_short, chain_ended}

-- what stands past the last entry
abbrev pub no_entry : Entry
no_entry = entry 0 0

-- what every entry has, the one of each place has
pub all_get : (P : Entry → Type 0) (es : List Entry) → All P es → (i : ℕ) → i < length es → P (get_or es i no_entry)
all_get P [] h i l = absurd (omega arith)
all_get P (e ∷ es) h zero l = h.0
all_get P (e ∷ es) h (suc i) l = all_get P es h.1 i (omega arith)

-- a place in use of one list of a store holds the entry's number
pub laid_at : (f : Entry → ℕ) → f no_entry ≡ 0 → (capacity : ℕ) (es : List Entry) (i : ℕ) → i < length es → get_or (laid f capacity es) i 0 ≡ f (get_or es i no_entry)
laid_at f z capacity es i l =
    get_or-append (map f es) _ 0 i (rw (length-map es f) l) ∙ (ap (get_or (map f es) i) (sym z) ∙ get_or-map f es i no_entry)

-- what is mapped of a tabulated list is tabulated
map_tabulate : {A : Type 0} (g : ℕ → A) (n : ℕ) (f : ℕ → ℕ) → map g (tabulate n f) ≡ tabulate n (λ i. g (f i))
unfolding tabulate
map_tabulate g zero f = refl
map_tabulate {A} g (suc n) f = ap (λ (l : List A). g (f 0) ∷ l) (map_tabulate g n (λ i. f (suc i)))

-- ---- the tests, by what records hold

-- a next index of records filled in order fits its field
pub next_fits : (used i : ℕ) → used ≤ 4096 → next_index used i < 256 ^ 2
unfolding next_index
next_fits used i h = cond_cases (λ (n : ℕ). n < 256 ^ 2) (ltb i used) (λ t. omega (arith, ltb-true i used t)) (λ _. omega arith)

-- a record 0 of a place up to 4,096 is accepted
pub head_fits_lem : (image : List ℕ) (next place : ℕ) → SlotHolds image 0 next 0 place → place ≤ 4096 → head_fits image ≡ true
unfolding head_fits
head_fits_lem image next place h l = rw (h.chute_is, h.key_is, h.rest_is, le-leb place 4096 l)

-- a record of an entry whose key and chute fit is accepted
pub slot_fits_lem : (image : List ℕ) (i next chute key : ℕ) → SlotHolds image i next chute key → key ≤ largest_key → (1 ≤ chute) × (chute ≤ 512) → slot_fits image i ≡ true
unfolding slot_fits
slot_fits_lem image i next chute key h k c = rw (h.key_is, h.chute_is, h.rest_is, le-leb key largest_key k, le-leb 1 chute c.0, le-leb chute 512 c.1)

-- ---- what was written is read back

module _ (capacity place : ℕ) (es : List Entry) (small : capacity ≤ 4096) (low : place ≤ 4096) (stored : Stored capacity es) where
  abbrev image : List ℕ
  image = image_of capacity place (lay_out capacity es)

  -- record 0
  pub head_written : SlotHolds image 0 (next_index (length es) 0) 0 place
  unfolding image_of slot_of
  head_written =
      slot_laid (capacity + 1) (slot_of place (lay_out capacity es)) (slot_length place (lay_out capacity es)) 0 (next_index (length es) 0) 0 place (omega arith)
      (rw (in_use_lay_out capacity es stored.fits)) (next_fits (length es) 0 (omega (arith, stored.fits))) (omega arith) (omega arith)

  -- a record of an entry
  pub slot_written : (i : ℕ) → i < length es → SlotHolds image (suc i) (next_index (length es) (suc i)) (get_or es i no_entry).chute (get_or es i no_entry).key
  unfolding image_of slot_of lay_out largest_key
  slot_written i l =
      let fits = stored.fits in
      let key = all_get (λ (e : Entry). e.key ≤ largest_key) es stored.keys i l in
      let chute = (all_get (λ (e : Entry). (1 ≤ e.chute) × (e.chute ≤ 512)) es stored.chutes i l).1 in
      slot_laid (capacity + 1) (slot_of place (lay_out capacity es)) (slot_length place (lay_out capacity es)) (suc i) _ _ _ (omega arith)
      (rw (in_use_lay_out capacity es fits, lt-ltb i (length es) l, laid_at chute_of refl capacity es i l, laid_at key_of refl capacity es i l))
      (next_fits (length es) (suc i) (omega arith)) (omega arith) (omega arith)

  -- every record that is used has the next index of records filled in order
  pub next_written : (i : ℕ) → i ≤ length es → next_in image i ≡ next_index (length es) i
  next_written zero l = head_written.next_is
  next_written (suc i) l = (slot_written i (omega arith)).next_is

  -- so the chain has them all
  pub chain_written : chain_in capacity image ≡ tabulate (length es) suc
  unfolding chain_in
  chain_written =
      ap (chain_from image (capacity + 1)) head_written.next_is
      ∙ chain_in_order image (length es) next_written (length es) (capacity + 1) 0 suc (omega arith) (omega (arith, stored.fits)) (λ j. omega arith)

  -- and along it stand the entries
  pub entries_written : entries_in capacity image ≡ es
  unfolding entries_in
  entries_written =
      rw chain_written
      (map_tabulate (λ (i : ℕ). entry (key_in image i) (chute_in image i)) (length es) suc
      ∙ tabulate_is (length es) (λ i. entry (key_in image (suc i)) (chute_in image (suc i))) es no_entry refl
      (λ i l. let h = slot_written i l in λ k. record { key = h.key_is k; chute = h.chute_is k }))

  -- whose keys ascend
  keys_written : strictly_ascend (map (key_in image) (chain_in capacity image)) ≡ true
  unfolding entries_in
  keys_written =
      ap strictly_ascend (sym (map-map key_of (λ (i : ℕ). entry (key_in image i) (chute_in image i)) (chain_in capacity image)) ∙ ap (map key_of) entries_written)
      ∙ ascending_test es stored.ascending

  -- so the image is accepted
  chain_fits_lem : chain_fits capacity image ≡ true
  unfolding chain_fits
  chain_fits_lem =
      (and-eq-true_iff (all (λ i. leb i capacity) (chain_in capacity image)) (strictly_ascend (map (key_in image) (chain_in capacity image)))).1 (
        rw chain_written (each_all (λ i. leb i capacity) (tabulate (length es) suc) (each_tabulate (λ i. leb i capacity ≡ true) (length es) suc (λ i l. le-leb (suc i) capacity (omega (arith, stored.fits))))),
        keys_written,
      )

  slots_fit_lem : slots_fit capacity image ≡ true
  unfolding slots_fit
  slots_fit_lem =
      (and-eq-true_iff (head_fits image) (all (slot_fits image) (chain_in capacity image))).1 (
        head_fits_lem image (next_index (length es) 0) place head_written low,
        rw chain_written (each_all (slot_fits image) (tabulate (length es) suc) (each_tabulate (λ i. slot_fits image i ≡ true) (length es) suc
            (λ i l. slot_fits_lem image (suc i) _ _ _ (slot_written i l) (all_get (λ (e : Entry). e.key ≤ largest_key) es stored.keys i l)
            (all_get (λ (e : Entry). (1 ≤ e.chute) × (e.chute ≤ 512)) es stored.chutes i l)))),
      )

  written_reads : ReadsAs capacity image place es
  unfolding seq_in
  written_reads = record {
    long = image_length_lem capacity place (lay_out capacity es);
    chain = chain_fits_lem;
    slots = slots_fit_lem;
    entries = entries_written;
    seq = head_written.key_is;
  }

-- reading what was written gives the entries
pub written_reads_back : WrittenReadsBack
written_reads_back = written_reads

-- ---- zeros

-- zeros read as an empty store
pub zeros_read_as_empty : ZerosReadAsEmpty
unfolding empty_image chain_fits slots_fit entries_in chain_in seq_in all strictly_ascend
zeros_read_as_empty capacity =
    let h = zeros_hold (image_length capacity) 0 in
    let none : chain_from (empty_image capacity) (capacity + 1) (next_in (empty_image capacity) 0) ≡ [] = ap (chain_from (empty_image capacity) (capacity + 1)) h.next_is ∙ chain_zero (empty_image capacity) (capacity + 1) in
    record {
      long = empty_length capacity;
      chain = rw none;
      slots = rw none ((and-eq-true_iff (head_fits (empty_image capacity)) true).1 (head_fits_lem (empty_image capacity) 0 0 h (omega arith), refl));
      entries = rw none;
      seq = h.key_is;
    }

-- ---- an accepted image

-- what holds along the chain holds of the entries
entries_all : (P : Entry → Type 0) (g : ℕ → Entry) (is : List ℕ) → Each (λ i. P (g i)) is → All P (map g is)
entries_all P g [] h = tt
entries_all P g (i ∷ is) h = (h.0, entries_all P g is h.1)

entries_ascend : (g : ℕ → Entry) (is : List ℕ) → Ascends (λ i. (g i).key) is → Ascending (map g is)
entries_ascend g [] h = tt
entries_ascend g (i ∷ is) h = (entries_all (λ (x : Entry). (g i).key < x.key) g is h.0, entries_ascend g is h.1)

-- a record that is accepted holds an entry that a store can hold
slot_holds_entry : (image : List ℕ) (i : ℕ) → slot_fits image i ≡ true → (key_in image i ≤ largest_key) × ((1 ≤ chute_in image i) × (chute_in image i ≤ 512))
unfolding slot_fits
slot_holds_entry image i e =
    let a : Bool = leb (key_in image i) largest_key in
    let b : Bool = leb 1 (chute_in image i) in
    let c : Bool = leb (chute_in image i) 512 in
    let three = ((and-eq-true_iff (a && b && c) (eqb (rest_in image i) 0)).0 e).0 in
    let two = (and-eq-true_iff (a && b) c).0 three in
    let one = (and-eq-true_iff a b).0 two.0 in
    (leb-true (key_in image i) largest_key one.0, (leb-true 1 (chute_in image i) one.1, leb-true (chute_in image i) 512 two.1))

-- what an accepted image holds, a store can hold
pub accepted_is_stored : AcceptedIsStored
unfolding entries_in slots_fit
accepted_is_stored capacity image chain slots =
    let g : ℕ → Entry = λ i. entry (key_in image i) (chute_in image i) in
    let each = each_map (slot_holds_entry image) (chain_in capacity image)
    (all_each (slot_fits image) (chain_in capacity image) ((and-eq-true_iff (head_fits image) (all (slot_fits image) (chain_in capacity image))).0 slots).1) in
    record {
      ascending = entries_ascend g (chain_in capacity image) (keys_ascend_lem capacity image chain);
      fits = rw (length-map (chain_in capacity image) g) (chain_short capacity image chain);
      keys = entries_all (λ (e : Entry). e.key ≤ largest_key) g (chain_in capacity image) (each_map (λ i h. h.0) (chain_in capacity image) each);
      chutes = entries_all (λ (e : Entry). (1 ≤ e.chute) × (e.chute ≤ 512)) g (chain_in capacity image) (each_map (λ i h. h.1) (chain_in capacity image) each);
    }

-- an accepted chain ends within the room
pub chain_ends : ChainEnds
chain_ends capacity image fits = (chain_short capacity image fits, chain_ended capacity image fits)

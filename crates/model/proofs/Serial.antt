-- The serial run keeps its entries in order, within the capacity and with chutes from 1 up, so that a chute of 0 is an absent key.
-- Assumes nothing.
use Rattle.std.specs.Prelude.{ℕ, suc, ◌+◌, ◌≤◌, ◌<◌, ◌≡◌, refl, Bool, true, false, ◌↔◌, ◌⊎◌, List, [], ◌∷◌, length, eqb, leb, ltb}
use Rattle.std.proofs.Common.{arith, inl, inr, ⊎_elim, ltb-true, ltb-false, leb-true, leb-false, eqb-true}
use Rattle.std.proofs.lemmas.Bool.{false≢true, eqb-false}
use Rattle.std.proofs.Math.Bool.{and-eq-true_iff}
use mathlib.Mathlib.Data.Bool.Basic.{or-eq-false-eq-eq-false-and-eq-false}
use Rattle.command.specs.declared.Kind.{Kind}
use Rattle.command.specs.declared.Kind.TheVariants.{Insert, Delete, Read, Update, Workers, Checkpoint}
use Rattle.command.specs.declared.Command.{Command}
use Rattle.command.specs.Read.{chute_fits}
use Rattle.model.specs.Serial.{Entry, All, Ascending, present, chute_at, put_in, take_out, set_chute, Served, serve_kind, serve}
use Rattle.command.proofs.Tests.{cond_cases}

-- every chute is from 1 up
abbrev pub AllPositive : List Entry → Type 0
AllPositive es = All (λ (x : Entry). 1 ≤ x.chute) es

-- A property that follows from another for each entry follows for all.
pub all_map : {P Q : Entry → Type 0} → ((e : Entry) → P e → Q e) → (es : List Entry) → All P es → All Q es
all_map f [] h = tt
all_map f (e ∷ es) h = (f e h.0, all_map f es h.1)

-- Putting an entry in adds that entry and no other.
pub all_put_in : (P : Entry → Type 0) (new : Entry) (es : List Entry) → P new → All P es → All P (put_in new es)
unfolding put_in
all_put_in P new [] n h = (n, tt)
all_put_in P new (e ∷ es) n h =
    cond_cases (All P) (ltb new.key e.key) (λ _. (n, h)) (λ _. (h.0, all_put_in P new es n h.1))

-- Taking an entry out adds none.
pub all_take_out : (P : Entry → Type 0) (key : ℕ) (es : List Entry) → All P es → All P (take_out key es)
unfolding take_out
all_take_out P key [] h = tt
all_take_out P key (e ∷ es) h = cond_cases (All P) (eqb e.key key) (λ _. h.1) (λ _. (h.0, all_take_out P key es h.1))

-- Another chute replaces one entry, by one of the same key.
pub all_set_chute : (P : Entry → Type 0) (key chute : ℕ) (es : List Entry)
    → ((e : Entry) → e.key ≡ key → P e → P (record { key = key; chute = chute })) → All P es → All P (set_chute key chute es)
unfolding set_chute
all_set_chute P key chute [] f h = tt
all_set_chute P key chute (e ∷ es) f h =
    cond_cases (All P) (eqb e.key key) (λ t. (f e (eqb-true _ _ t) h.0, h.1)) (λ _. (h.0, all_set_chute P key chute es f h.1))

-- A key that is absent is neither the first entry's nor a later one's.
pub present_false : (key : ℕ) (e : Entry) (es : List Entry) → present key (e ∷ es) ≡ false → (eqb e.key key ≡ false) × (present key es ≡ false)
unfolding present
present_false key e es h = (or-eq-false-eq-eq-false-and-eq-false (eqb e.key key) (present key es)).0 h

-- An absent key is put in before the first larger one, so the order stays.
pub ascending_put_in : (new : Entry) (es : List Entry) → Ascending es → present new.key es ≡ false → Ascending (put_in new es)
unfolding put_in
ascending_put_in new [] h a = (tt, tt)
ascending_put_in new (e ∷ es) h a =
    let p = present_false new.key e es a in
    let rest = ascending_put_in new es h.1 p.1 in
    let other = eqb-false e.key new.key p.0 in
    cond_cases Ascending (ltb new.key e.key)
    (λ t. let l = ltb-true new.key e.key t in ((l, all_map (λ x m. omega arith) es h.0), h))
    (λ t. let l = ltb-false new.key e.key t in (all_put_in _ new es (omega (arith, other)) h.0, rest))

-- The entries that stay are in the order that they were in.
pub ascending_take_out : (key : ℕ) (es : List Entry) → Ascending es → Ascending (take_out key es)
unfolding take_out
ascending_take_out key [] h = tt
ascending_take_out key (e ∷ es) h =
    cond_cases Ascending (eqb e.key key) (λ _. h.1) (λ _. (all_take_out _ key es h.0, ascending_take_out key es h.1))

-- No key changes, so the order stays.
pub ascending_set_chute : (key chute : ℕ) (es : List Entry) → Ascending es → Ascending (set_chute key chute es)
unfolding set_chute
ascending_set_chute key chute [] h = tt
ascending_set_chute key chute (e ∷ es) h =
    cond_cases Ascending (eqb e.key key) (λ t. (rw (eqb-true e.key key t) at h.0, h.1))
    (λ _. (all_set_chute _ key chute es (λ x q l. rw (← q) l) h.0, ascending_set_chute key chute es h.1))

-- One entry is put in, before or after the first.
pub length_put_in : (new : Entry) (es : List Entry) → length (put_in new es) ≡ length es + 1
unfolding put_in
length_put_in new [] = refl
length_put_in new (e ∷ es) =
    let rest = length_put_in new es in
    cond_cases (λ (l : List Entry). length l ≡ suc (length es) + 1) (ltb new.key e.key) (λ _. omega arith) (λ _. omega arith)

-- The first entry of the key is gone, and it is there.
pub length_take_out : (key : ℕ) (es : List Entry) → present key es ≡ true → length (take_out key es) + 1 ≡ length es
unfolding present take_out
length_take_out key [] h = absurd (false≢true h)
length_take_out key (e ∷ es) h =
    cond_cases (λ (l : List Entry). length l + 1 ≡ suc (length es)) (eqb e.key key) (λ _. omega arith)
    (λ t. let rest = length_take_out key es (rw t at h) in omega arith)

-- An entry is replaced by one.
pub length_set_chute : (key chute : ℕ) (es : List Entry) → length (set_chute key chute es) ≡ length es
unfolding set_chute
length_set_chute key chute [] = refl
length_set_chute key chute (e ∷ es) =
    let rest = length_set_chute key chute es in
    cond_cases (λ (l : List Entry). length l ≡ suc (length es)) (eqb e.key key) (λ _. refl) (λ _. omega arith)

-- What holds of the entries holds after a command, if putting in, taking out and another chute keep it where the command does them.
pub serve_keeps : (P : List Entry → Type 0) (capacity : ℕ) (c : Command) (es : List Entry) → P es
    → (c.kind ≡ Insert → present c.key es ≡ false → length es < capacity → P (put_in (record { key = c.key; chute = c.chute }) es))
    → (present c.key es ≡ true → P (take_out c.key es))
    → ((c.kind ≡ Insert) ⊎ (c.kind ≡ Update) → P (set_chute c.key c.chute es))
    → P (serve capacity c es).entries
unfolding serve
serve_keeps P capacity c es same put out other = by c.kind refl
  where
    here : Served → Type 0
    here s = P s.entries

    by : (kind : Kind) → c.kind ≡ kind → here (serve_kind kind capacity c.key c.chute es)
    by Insert q = cond_cases here (present c.key es) (λ _. other (inl q))
        (λ a. cond_cases here (leb capacity (length es)) (λ _. same) (λ l. put q a (leb-false _ _ l)))
    by Delete q = cond_cases here (present c.key es) out (λ _. same)
    by Read q = cond_cases here (present c.key es) (λ _. same) (λ _. same)
    by Update q = cond_cases here (present c.key es) (λ _. other (inr q)) (λ _. same)
    by Workers q = same
    by Checkpoint q = same

-- Each of the three changes keeps the order.
pub serve_ascending : (capacity : ℕ) (c : Command) (es : List Entry) → Ascending es → Ascending (serve capacity c es).entries
serve_ascending capacity c es h =
    serve_keeps Ascending capacity c es h (λ _ a _. ascending_put_in _ es h a) (λ _. ascending_take_out _ es h) (λ _. ascending_set_chute _ _ es h)

-- Only putting in adds an entry, and it is done where a place is left.
pub serve_fits : (capacity : ℕ) (c : Command) (es : List Entry) → length es ≤ capacity → length (serve capacity c es).entries ≤ capacity
serve_fits capacity c es h =
    serve_keeps (λ (l : List Entry). length l ≤ capacity) capacity c es h
    (λ _ _ l. omega (arith, length_put_in (record { key = c.key; chute = c.chute }) es))
    (λ p. omega (arith, length_take_out c.key es p))
    (λ _. omega (arith, length_set_chute c.key c.chute es))

-- a command of the kind brings no chute of 0 into the entries
abbrev pub BringsPositive : Kind → ℕ → Type 0
BringsPositive Insert chute = 1 ≤ chute
BringsPositive Delete chute = Unit {0}
BringsPositive Read chute = Unit {0}
BringsPositive Update chute = 1 ≤ chute
BringsPositive Workers chute = Unit {0}
BringsPositive Checkpoint chute = Unit {0}

-- "Insert and update carry chute 1 to 512": a chute that fits its kind is one.
pub fitting_brings_positive : (kind : Kind) (chute : ℕ) → chute_fits kind chute ≡ true → BringsPositive kind chute
unfolding chute_fits
fitting_brings_positive Insert chute h = leb-true 1 chute ((and-eq-true_iff (leb 1 chute) (leb chute 512)).0 h).0
fitting_brings_positive Delete chute h = tt
fitting_brings_positive Read chute h = tt
fitting_brings_positive Update chute h = leb-true 1 chute ((and-eq-true_iff (leb 1 chute) (leb chute 512)).0 h).0
fitting_brings_positive Workers chute h = tt
fitting_brings_positive Checkpoint chute h = tt

-- The only chute that comes in is the command's.
pub serve_positive : (capacity : ℕ) (c : Command) (es : List Entry) → BringsPositive c.kind c.chute → AllPositive es → AllPositive (serve capacity c es).entries
serve_positive capacity c es b h =
    serve_keeps AllPositive capacity c es h (λ q _ _. all_put_in _ _ es (rw q at b) h) (λ _. all_take_out _ _ es h)
    (λ q. all_set_chute _ _ _ es (λ _ _ _. ⊎_elim (λ i. rw i at b) (λ u. rw u at b) q) h)

-- The chute of an absent key is 0.
pub chute_at_absent : (key : ℕ) (es : List Entry) → present key es ≡ false → chute_at key es ≡ 0
unfolding chute_at
chute_at_absent key [] h = refl
chute_at_absent key (e ∷ es) h = let p = present_false key e es h in rw p.0 (chute_at_absent key es p.1)

-- The chute of a key that is there is some entry's, so it is from 1 up where all are.
pub chute_at_present : (key : ℕ) (es : List Entry) → AllPositive es → present key es ≡ true → 1 ≤ chute_at key es
unfolding present chute_at
chute_at_present key [] h p = absurd (false≢true p)
chute_at_present key (e ∷ es) h p =
    cond_cases (λ (n : ℕ). 1 ≤ n) (eqb e.key key) (λ _. h.0) (λ t. chute_at_present key es h.1 (rw t at p))

-- So a chute of 0 says that the key is absent, and nothing else does.
pub chute_at_zero : (key : ℕ) (es : List Entry) → AllPositive es → (chute_at key es ≡ 0) ↔ (present key es ≡ false)
chute_at_zero key es h = (absent (present key es) refl, chute_at_absent key es)
  where
    absent : (b : Bool) → present key es ≡ b → chute_at key es ≡ 0 → b ≡ false
    absent true p z = absurd (omega (arith, chute_at_present key es h p))
    absent false p z = refl

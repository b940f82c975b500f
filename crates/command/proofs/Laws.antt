-- The laws of `specs/Laws.antt`. Assumes nothing.
use Prim.Native.Nat.{ℕ, zero, suc, ◌+◌, ◌/◌, ◌≤◌, ◌<◌}
use mathlib.Core.Path.{◌≡◌, refl, sym, ap, subst, ◌∙◌}
use mathlib.Core.Bool.{Bool, true, false, cond, not, ◌&&◌, ◌||◌, or-true, and-false, and_comm, and-eq-true_iff, false≢true}
use mathlib.Core.List.{List, [], ◌∷◌, map}
use mathlib.Core.Option.{Option, none, some}
use mathlib.Core.Logic.{⊎_elim}
use native.Mathlib.Omega.{arith}
use borrow.Author.Tests.{leb-true, eqb-true, eqb-false, eq-eqb, ne_eqb}
use lib.Dec.{eqb, leb}
use lib.ListN.{length, get_or, get_elem?, take, drop, length-map, length-drop}
use Rattle.s10.specs.Refusal.{Refusal, plain, at_character, at_place}
use Rattle.s10.specs.Text.{largest_key, untested_key}
use Rattle.s10.specs.Outcome.{read_text}
use Rattle.s10.specs.Outcome as Identifier
use Rattle.s10.proofs.Laws.{accepted_is_at_most_largest, accepted_as_untested as identifier_as_untested}
use Rattle.command.specs.declared.Kind.{Kind}
use Rattle.command.specs.declared.Kind.TheVariants.{Insert, Delete, Read, Update, Workers, Checkpoint}
use Rattle.command.specs.declared.Command.{Command}
use Rattle.command.specs.Read.{CommandOutcome, accepted, refused, kind_of, chute_fits, chute_refusal, chute_of, first_not_zero, read_zeros, read_identifier, with_kind, with_chute, read_command, parts, parts_of, readings, all_accepted, list_refused, first_refusal, command_in}
use Rattle.command.specs.Dependent.{has_item, is_insert_or_delete, is_read, is_checkpoint, are_dependent}
use Rattle.command.specs.Laws.{DependenceIsSymmetric, DependentPairs, KindOfItsNumber, AcceptedChuteFits, AcceptedChuteIsAtMostLast, AcceptedKeyIsAtMostLargest, AcceptedAsUntested, CharacterIsTheIdentifiers, AllAccepted, NoRefusalIsAllAccepted, RefusedBeginsInside}

-- equality goes both ways
eqb_comm : (m n : ℕ) → eqb m n ≡ eqb n m
eqb_comm m n = cases (eqb m n) refl
  where
    cases : (b : Bool) → eqb m n ≡ b → b ≡ eqb n m
    cases true e = sym (eq-eqb n m (sym (eqb-true m n e)))
    cases false e = sym (ne_eqb n m (λ h. eqb-false m n e (sym h)))

-- each part of the definition is symmetric
pub dependence_is_symmetric : DependenceIsSymmetric
unfolding are_dependent
dependence_is_symmetric a b =
    rw (and_comm (has_item a.kind) (has_item b.kind), and_comm (is_insert_or_delete a.kind) (is_insert_or_delete b.kind), eqb_comm a.key b.key, and_comm (is_read a.kind) (is_read b.kind))

-- an insert or a delete is no read
pub no_read : (kind : Kind) → is_insert_or_delete kind ≡ true → is_read kind ≡ false
unfolding is_insert_or_delete is_read
no_read Insert w = refl
no_read Delete w = refl
no_read Read w = absurd (false≢true w)
no_read Update w = refl
no_read Workers w = refl
no_read Checkpoint w = refl

-- a read is for an item
pub read_has_item : (kind : Kind) → is_read kind ≡ true → has_item kind ≡ true
unfolding is_read has_item
read_has_item Insert r = refl
read_has_item Delete r = refl
read_has_item Read r = refl
read_has_item Update r = refl
read_has_item Workers r = absurd (false≢true r)
read_has_item Checkpoint r = absurd (false≢true r)

-- what is for an item is independent of a read or an update of another key
other_key : (a b : Command) → has_item a.kind ≡ true → (a.key ≡ b.key → ⊥) → has_item b.kind ≡ true → is_insert_or_delete b.kind ≡ false → are_dependent a b ≡ false
unfolding are_dependent
other_key a b i d j w = rw (i, j, w, and-false (is_insert_or_delete a.kind), ne_eqb _ _ d)

-- what is no read depends on every command of its key
one_key : (a b : Command) → a.key ≡ b.key → is_read a.kind ≡ false → are_dependent a b ≡ true
unfolding are_dependent
one_key a b k r =
    rw (eq-eqb _ _ k, r) (or-true (not (has_item a.kind && has_item b.kind) || (is_insert_or_delete a.kind && is_insert_or_delete b.kind)))

-- each sentence, by the kinds and the keys
pub dependent_pairs : DependentPairs
unfolding are_dependent has_item is_insert_or_delete is_read
dependent_pairs = record {
  writers = λ a b w v. rw (w, v, or-true (not (has_item a.kind && has_item b.kind)));
  own_key = λ a b w k. one_key a b k (no_read a.kind w);
  other_keys = λ a b i k d. ⊎_elim (λ e. other_key a b i d (ap has_item e) (ap is_insert_or_delete e)) (λ e. other_key a b i d (ap has_item e) (ap is_insert_or_delete e)) k;
  updates = λ a b u v k. one_key a b k (ap is_read u);
  reads = λ a b r s. simp (r, s, and-false);
  workers = λ a b w. simp w;
  checkpoints = λ a b w. simp w;
}

-- a checkpoint's kind is one
pub checkpoint_is : (kind : Kind) → is_checkpoint kind ≡ true → kind ≡ Checkpoint
unfolding is_checkpoint
checkpoint_is Insert h = absurd (false≢true h)
checkpoint_is Delete h = absurd (false≢true h)
checkpoint_is Read h = absurd (false≢true h)
checkpoint_is Update h = absurd (false≢true h)
checkpoint_is Workers h = absurd (false≢true h)
checkpoint_is Checkpoint h = refl

-- and it depends on every command, as every command does on it
pub checkpoint_depends : (a b : Command) → is_checkpoint a.kind ≡ true → (are_dependent a b ≡ true) × (are_dependent b a ≡ true)
checkpoint_depends a b h =
    let one = dependent_pairs.checkpoints a b (checkpoint_is a.kind h) in
    (one, dependence_is_symmetric b a ∙ one)

-- the tests of a number find each kind at its own
pub kind_of_its_number : KindOfItsNumber
unfolding kind_of
kind_of_its_number Insert = refl
kind_of_its_number Delete = refl
kind_of_its_number Read = refl
kind_of_its_number Update = refl
kind_of_its_number Workers = refl
kind_of_its_number Checkpoint = refl

-- what an accepted command has passed
record Accepted (part : List ℕ) (command : Command) : Type 0 where
  fits : chute_fits command.kind command.chute ≡ true
  read : read_identifier command.kind (take 13 (drop 1 part)) ≡ Identifier.accepted command.key

-- an outcome is accepted only past every test
accepted_passed : (part : List ℕ) (command : Command) → read_command part ≡ accepted command → Accepted part command
unfolding read_command with_kind with_chute
accepted_passed part command e = cases (kind_of (get_or part 0 0)) e
  where
    text : List ℕ
    text = take 13 (drop 1 part)

    bytes : List ℕ
    bytes = drop 14 part

    chosen : (kind : Kind) (key : ℕ) (b : Bool) → read_identifier kind text ≡ Identifier.accepted key → eqb (length bytes) 2 && chute_fits kind (chute_of bytes) ≡ b →
        cond b (accepted (record { kind = kind; key = key; chute = chute_of bytes })) (refused (chute_refusal kind)) ≡ accepted command → Accepted part command
    chosen kind key true r f e =
        let read : Command = record { kind = kind; key = key; chute = chute_of bytes } in
        let same : read ≡ command = cc in
        subst (λ (c : Command). Accepted part c) same (record { fits = ((and-eq-true_iff (eqb (length bytes) 2) _).0 f).1; read = r })
    chosen kind key false r f e = let z : ◌≡◌ {A = ℕ} 0 1 = cc in absurd (omega arith)

    named : (kind : Kind) (o : Identifier.TextOutcome) → read_identifier kind text ≡ o → with_chute kind o bytes ≡ accepted command → Accepted part command
    named kind (Identifier.accepted key) r e = chosen kind key _ r refl e
    named kind (Identifier.refused n) r e = let z : ◌≡◌ {A = ℕ} 0 1 = cc in absurd (omega arith)

    cases : (k : Option Kind) → with_kind k text bytes ≡ accepted command → Accepted part command
    cases (some kind) e = named kind (read_identifier kind text) refl e
    cases none e = let z : ◌≡◌ {A = ℕ} 0 1 = cc in absurd (omega arith)

-- the last test passed
pub accepted_chute_fits : AcceptedChuteFits
accepted_chute_fits part command e = (accepted_passed part command e).fits

-- each kind's rule stays within the bound
pub chute_that_fits : (kind : Kind) (chute : ℕ) → chute_fits kind chute ≡ true → chute ≤ 512
unfolding chute_fits
chute_that_fits Insert chute e = leb-true chute 512 ((and-eq-true_iff (leb 1 chute) (leb chute 512)).0 e).1
chute_that_fits Delete chute e = omega (arith, eqb-true chute 0 e)
chute_that_fits Read chute e = omega (arith, eqb-true chute 0 e)
chute_that_fits Update chute e = leb-true chute 512 ((and-eq-true_iff (leb 1 chute) (leb chute 512)).0 e).1
chute_that_fits Workers chute e = omega (arith, leb-true chute 64 ((and-eq-true_iff (leb 1 chute) (leb chute 64)).0 e).1)
chute_that_fits Checkpoint chute e = omega (arith, eqb-true chute 0 e)

-- a chute that fits is none or one of the 512
pub accepted_chute_is_at_most_last : AcceptedChuteIsAtMostLast
accepted_chute_is_at_most_last part command e = chute_that_fits command.kind command.chute (accepted_chute_fits part command e)

-- thirteen zeros have key 0, and an item's key is one of the identifier reader
key_read_lem : (kind : Kind) (text : List ℕ) (key : ℕ) → read_identifier kind text ≡ Identifier.accepted key → key ≤ largest_key
unfolding read_identifier read_zeros
key_read_lem kind text key = by (has_item kind)
  where
    whole : (b : Bool) (r : Refusal) → cond b (Identifier.accepted 0) (Identifier.refused r) ≡ Identifier.accepted key → key ≤ largest_key
    whole true r e = let z : 0 ≡ key = cc in rw (← z) (omega arith)
    whole false r e = let z : ◌≡◌ {A = ℕ} 0 1 = cc in absurd (omega arith)

    long : (b : Bool) (o : Identifier.TextOutcome) → (o ≡ Identifier.accepted key → key ≤ largest_key) → cond b o (Identifier.refused (plain 8)) ≡ Identifier.accepted key → key ≤ largest_key
    long true o h e = h e
    long false o h e = let z : ◌≡◌ {A = ℕ} 0 1 = cc in absurd (omega arith)

    by : (b : Bool) → cond b (read_text text) (read_zeros text) ≡ Identifier.accepted key → key ≤ largest_key
    by true e = accepted_is_at_most_largest text key e
    by false e = long (eqb (length text) 13) (cond (eqb (first_not_zero 0 text) 13) (Identifier.accepted 0) (Identifier.refused (at_character (first_not_zero 0 text + 1) (plain 8)))) (whole (eqb (first_not_zero 0 text) 13) (at_character (first_not_zero 0 text + 1) (plain 8))) e

pub accepted_key_is_at_most_largest : AcceptedKeyIsAtMostLargest
accepted_key_is_at_most_largest part command e = key_read_lem command.kind _ command.key (accepted_passed part command e).read

-- the key of an accepted identifier is the one that it has untested, 0 where the kind names no item
key_untested : (kind : Kind) (text : List ℕ) (key : ℕ) → read_identifier kind text ≡ Identifier.accepted key → cond (has_item kind) (untested_key text) 0 ≡ key
unfolding read_identifier read_zeros
key_untested kind text key = by (has_item kind)
  where
    whole : (b : Bool) (r : Refusal) → cond b (Identifier.accepted 0) (Identifier.refused r) ≡ Identifier.accepted key → 0 ≡ key
    whole true r e = cc
    whole false r e = let z : ◌≡◌ {A = ℕ} 0 1 = cc in absurd (omega arith)

    long : (b : Bool) (o : Identifier.TextOutcome) → (o ≡ Identifier.accepted key → 0 ≡ key) → cond b o (Identifier.refused (plain 8)) ≡ Identifier.accepted key → 0 ≡ key
    long true o h e = h e
    long false o h e = let z : ◌≡◌ {A = ℕ} 0 1 = cc in absurd (omega arith)

    by : (b : Bool) → cond b (read_text text) (read_zeros text) ≡ Identifier.accepted key → cond b (untested_key text) 0 ≡ key
    by true e = identifier_as_untested text key e
    by false e = long (eqb (length text) 13) (cond (eqb (first_not_zero 0 text) 13) (Identifier.accepted 0) (Identifier.refused (at_character (first_not_zero 0 text + 1) (plain 8)))) (whole (eqb (first_not_zero 0 text) 13) (at_character (first_not_zero 0 text + 1) (plain 8))) e

-- kind, key and chute are those that the tests were made of
pub accepted_as_untested : AcceptedAsUntested
unfolding read_command with_kind with_chute command_in
accepted_as_untested part command e = cases (kind_of (get_or part 0 0)) refl e
  where
    text : List ℕ
    text = take 13 (drop 1 part)

    bytes : List ℕ
    bytes = drop 14 part

    chosen : (kind : Kind) (key : ℕ) (b : Bool) → kind_of (get_or part 0 0) ≡ some kind → read_identifier kind text ≡ Identifier.accepted key
        → eqb (length bytes) 2 && chute_fits kind (chute_of bytes) ≡ b
        → cond b (accepted (record { kind = kind; key = key; chute = chute_of bytes })) (refused (chute_refusal kind)) ≡ accepted command → command_in part ≡ command
    chosen kind key true k r f e =
        let two = eqb-true (length bytes) 2 ((and-eq-true_iff (eqb (length bytes) 2) _).0 f).0 in
        let long : length part ≡ 16 = omega (arith, rw length-drop at two) in
        let read : Command = record { kind = kind; key = key; chute = chute_of bytes } in
        let same : read ≡ command = cc in
        rw (k, eq-eqb (length part) 16 long, key_untested kind text key r) same
    chosen kind key false k r f e = let z : ◌≡◌ {A = ℕ} 0 1 = cc in absurd (omega arith)

    named : (kind : Kind) (o : Identifier.TextOutcome) → kind_of (get_or part 0 0) ≡ some kind → read_identifier kind text ≡ o → with_chute kind o bytes ≡ accepted command
        → command_in part ≡ command
    named kind (Identifier.accepted key) k r e = chosen kind key _ k r refl e
    named kind (Identifier.refused n) k r e = let z : ◌≡◌ {A = ℕ} 0 1 = cc in absurd (omega arith)

    cases : (k : Option Kind) → kind_of (get_or part 0 0) ≡ k → with_kind k text bytes ≡ accepted command → command_in part ≡ command
    cases (some kind) k e = named kind (read_identifier kind text) k refl e
    cases none k e = let z : ◌≡◌ {A = ℕ} 0 1 = cc in absurd (omega arith)

-- where no part is refused, each command of the list was read so
pub read_so : (ps : List (List ℕ)) (place i : ℕ) (command : Command) → first_refusal place (map read_command ps) ≡ all_accepted
    → get_elem? (map command_in ps) i ≡ some command → (part : List ℕ) × (read_command part ≡ accepted command)
unfolding first_refusal
read_so [] place i command e at = let z : ◌≡◌ {A = ℕ} 0 1 = cc in absurd (omega arith)
read_so (part ∷ ps) place i command e at = go (read_command part) refl (λ j. read_so ps (place + 1) j command) i e at
  where
    go : (r : CommandOutcome) → read_command part ≡ r
        → ((j : ℕ) → first_refusal (place + 1) (map read_command ps) ≡ all_accepted → get_elem? (map command_in ps) j ≡ some command → (part : List ℕ) × (read_command part ≡ accepted command))
        → (i : ℕ) → first_refusal place (r ∷ map read_command ps) ≡ all_accepted → get_elem? (command_in part ∷ map command_in ps) i ≡ some command
        → (part : List ℕ) × (read_command part ≡ accepted command)
    go (accepted c) r rest zero e at =
        let same : command_in part ≡ command = cc in
        (part, r ∙ ap accepted (sym (accepted_as_untested part c r) ∙ same))
    go (accepted c) r rest (suc i) e at = rest i e at
    go (refused n) r rest i e at = let z : ◌≡◌ {A = ℕ} 0 1 = cc in absurd (omega arith)

-- the kind's and the chute's name none
pub character_is_the_identifiers : CharacterIsTheIdentifiers
unfolding read_command with_kind with_chute
character_is_the_identifiers part r e named = cases (kind_of (get_or part 0 0)) refl e
  where
    text : List ℕ
    text = take 13 (drop 1 part)

    plain_not : (n : ℕ) → plain n ≡ r → ⊥
    plain_not n e = named (sym (ap (λ (x : Refusal). x.character) e))

    chute_not : (kind : Kind) → chute_refusal kind ≡ r → ⊥
    chute_not Insert e = plain_not 10 e
    chute_not Delete e = plain_not 10 e
    chute_not Read e = plain_not 10 e
    chute_not Update e = plain_not 10 e
    chute_not Workers e = plain_not 14 e
    chute_not Checkpoint e = plain_not 10 e

    chosen : (b : Bool) (command : Command) (kind : Kind) → cond b (accepted command) (refused (chute_refusal kind)) ≡ refused r → ⊥
    chosen true command kind e = let z : ◌≡◌ {A = ℕ} 0 1 = cc in omega arith
    chosen false command kind e = chute_not kind cc

    read : (kind : Kind) (o : Identifier.TextOutcome) → with_chute kind o (drop 14 part) ≡ refused r → o ≡ Identifier.refused r
    read kind (Identifier.accepted key) e = absurd (chosen (eqb (length (drop 14 part)) 2 && chute_fits kind (chute_of (drop 14 part))) (record { kind = kind; key = key; chute = chute_of (drop 14 part) }) kind e)
    read kind (Identifier.refused s) e = let same : s ≡ r = cc in ap Identifier.refused same

    cases : (k : Option Kind) → kind_of (get_or part 0 0) ≡ k → with_kind k text (drop 14 part) ≡ refused r
        → (kind : Kind) × (kind_of (get_or part 0 0) ≡ some kind) × (read_identifier kind text ≡ Identifier.refused r)
    cases (some kind) is e = (kind, is, read kind (read_identifier kind text) e)
    cases none is e = absurd (plain_not 7 cc)

-- the search ends at the first that is not
pub no_refusal_is_all_accepted : NoRefusalIsAllAccepted
unfolding first_refusal
no_refusal_is_all_accepted = (each, none)
  where
    each : (place : ℕ) (rs : List CommandOutcome) → first_refusal place rs ≡ all_accepted → AllAccepted rs
    each place [] e = tt
    each place (accepted command ∷ rest) e = each (place + 1) rest e
    each place (refused n ∷ rest) e = let z : ◌≡◌ {A = ℕ} 0 1 = cc in omega arith

    none : (place : ℕ) (rs : List CommandOutcome) → AllAccepted rs → first_refusal place rs ≡ all_accepted
    none place [] a = refl
    none place (accepted command ∷ rest) a = none (place + 1) rest a
    none place (refused n ∷ rest) a = absurd a

-- there are as many readings as parts
pub length_parts : (n : ℕ) (bytes : List ℕ) → length (parts n bytes) ≡ n
unfolding parts
length_parts zero bytes = refl
length_parts (suc n) bytes = ap suc (length_parts n (drop 16 bytes))

-- as many as start inside the list
pub length_parts_of : (list : List ℕ) → length (parts_of list) ≡ (length list + 15) / 16
unfolding parts_of
length_parts_of list = length_parts ((length list + 15) / 16) list

-- and as many parts as start inside the list
pub length_readings : (list : List ℕ) → length (readings list) ≡ (length list + 15) / 16
unfolding readings parts_of
length_readings list = rw (length-map, length_parts)

-- a refusal's place is that of some reading
refused_place : (place : ℕ) (rs : List CommandOutcome) (r : Refusal) → first_refusal place rs ≡ list_refused r → r.place < place + length rs
unfolding first_refusal
refused_place place [] r e = let z : ◌≡◌ {A = ℕ} 0 1 = cc in absurd (omega arith)
refused_place place (accepted command ∷ rest) r e = omega (arith, refused_place (place + 1) rest r e)
refused_place place (refused s ∷ rest) r e = let same : at_place place s ≡ r = cc in rw (← same) (omega arith)

-- the last part begins before the list ends
pub refused_begins_inside : RefusedBeginsInside
refused_begins_inside list r e = omega (arith, refused_place 1 (readings list) r e, length_readings list)

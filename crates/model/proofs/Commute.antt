-- The commuting law of part T for the service and the dependence of documents 01 and 02: of two independent commands both are reads, or
-- their keys differ and one of them is no insert and no delete. It holds for every list of entries, ascending or not, and every capacity.
-- Assumes nothing.
use Rattle.std.specs.Prelude.{ℕ, ◌≡◌, refl, ◌⊎◌, Bool, true, false, cond, not, ◌&&◌, ◌||◌, List, [], ◌∷◌, length, eqb, leb, ltb}
use Rattle.std.proofs.Common.{sym, ◌∙◌, ap, inl, inr, ⊎_elim, true≢false, eqb-true, ne_eqb}
use Rattle.std.proofs.lemmas.Bool.{false≢true, not-false}
use Rattle.std.proofs.Math.Bool.{and-eq-true_iff}
use Rattle.command.specs.declared.Kind.{Kind}
use Rattle.command.specs.declared.Kind.TheVariants.{Insert, Delete, Read, Update, Workers, Checkpoint}
use Rattle.command.specs.declared.Command.{Command}
use Rattle.command.specs.Dependent.{are_dependent, has_item, is_insert_or_delete, is_read}
use Rattle.command.specs.Count.{count_after}
use Rattle.command.proofs.Laws.{dependence_is_symmetric}
use Rattle.command.proofs.Count.{item_keeps_count}
use Rattle.model.specs.Serial.{Entry, present, chute_at, put_in, take_out, set_chute, Served, served, serve_kind, serve}
use Rattle.command.proofs.Tests.{true_false, neither, not_both, passes_or_fails, eqb_cases, cond_cases}
use Rattle.model.proofs.Serial.{length_set_chute, serve_keeps}
use Rattle.model.proofs.Trace.{Commuting}

-- the service in the terms of part T: what a command does to the entries, and what it answers
abbrev pub effect_of : ℕ → Command → List Entry → List Entry
effect_of capacity c es = (serve capacity c es).entries

abbrev pub reply_of : ℕ → Command → List Entry → ℕ
reply_of capacity c es = (serve capacity c es).answer

-- ---- which commands are independent

-- independent commands pass every test of the definition
independent : (a b : Command) → are_dependent a b ≡ false
    → (has_item a.kind && has_item b.kind ≡ true) × (is_insert_or_delete a.kind && is_insert_or_delete b.kind ≡ false)
    × (eqb a.key b.key && not (is_read a.kind && is_read b.kind) ≡ false)
unfolding are_dependent
independent a b e =
    let k = neither (not (has_item a.kind && has_item b.kind) || (is_insert_or_delete a.kind && is_insert_or_delete b.kind)) _ e in
    let j = neither (not (has_item a.kind && has_item b.kind)) _ k.0 in
    (not-false _ j.0, j.1, k.1)

-- one of the two is no insert and no delete
one_is_neither : (a b : Command) → are_dependent a b ≡ false → (is_insert_or_delete a.kind ≡ false) ⊎ (is_insert_or_delete b.kind ≡ false)
one_is_neither a b e = not_both (is_insert_or_delete a.kind) (is_insert_or_delete b.kind) (independent a b e).1

-- and their keys differ, or both are reads
other_key : (a b : Command) → are_dependent a b ≡ false → (a.key ≡ b.key → ⊥) ⊎ ((is_read a.kind ≡ true) × (is_read b.kind ≡ true))
other_key a b e = ⊎_elim (λ p. inr (reads p.1)) (λ p. inl p.0) (eqb_cases a.key b.key)
  where
    both : Bool
    both = is_read a.kind && is_read b.kind

    reads : eqb a.key b.key ≡ true → (is_read a.kind ≡ true) × (is_read b.kind ≡ true)
    reads k = let f = (independent a b e).2 in (and-eq-true_iff (is_read a.kind) (is_read b.kind)).0 (not-false both (rw k at f))

-- ---- a command and another key

-- what a lookup of a key finds in two lists of entries is the same
abbrev Same : ℕ → List Entry → List Entry → Type 0
Same key es fs = (present key es ≡ present key fs) × (chute_at key es ≡ chute_at key fs)

-- one entry more in front of both
same_cons : (key : ℕ) (e : Entry) (es fs : List Entry) → Same key es fs → Same key (e ∷ es) (e ∷ fs)
unfolding present chute_at
same_cons key e es fs h = (rw h.0, rw h.1)

-- an entry of another key in front of one
same_other : (key : ℕ) (e : Entry) (es : List Entry) → (e.key ≡ key → ⊥) → Same key (e ∷ es) es
unfolding present chute_at
same_other key e es h = (rw (ne_eqb e.key key h), rw (ne_eqb e.key key h))

same_put_in : (key : ℕ) (new : Entry) (es : List Entry) → (new.key ≡ key → ⊥) → Same key (put_in new es) es
unfolding put_in
same_put_in key new [] h = same_other key new [] h
same_put_in key new (e ∷ es) h =
    cond_cases (λ (l : List Entry). Same key l (e ∷ es)) (ltb new.key e.key)
    (λ _. same_other key new (e ∷ es) h) (λ _. same_cons key e (put_in new es) es (same_put_in key new es h))

same_take_out : (key other : ℕ) (es : List Entry) → (other ≡ key → ⊥) → Same key (take_out other es) es
unfolding take_out
same_take_out key other [] h = (refl, refl)
same_take_out key other (e ∷ es) h =
    cond_cases (λ (l : List Entry). Same key l (e ∷ es)) (eqb e.key other)
    (λ t. let s = same_other key e es (λ q. h (sym (eqb-true _ _ t) ∙ q)) in (sym s.0, sym s.1))
    (λ _. same_cons key e (take_out other es) es (same_take_out key other es h))

same_set_chute : (key other chute : ℕ) (es : List Entry) → (other ≡ key → ⊥) → Same key (set_chute other chute es) es
unfolding set_chute
same_set_chute key other chute [] h = (refl, refl)
same_set_chute key other chute (e ∷ es) h =
    cond_cases (λ (l : List Entry). Same key l (e ∷ es)) (eqb e.key other)
    (λ t.
    let s = same_other key e es (λ q. h (sym (eqb-true _ _ t) ∙ q)) in
    let n = same_other key (record { key = other; chute = chute }) es h in
    (n.0 ∙ sym s.0, n.1 ∙ sym s.1))
    (λ _. same_cons key e (set_chute other chute es) es (same_set_chute key other chute es h))

-- no command changes what a lookup of another key finds
serve_same : (capacity key : ℕ) (c : Command) (es : List Entry) → (c.key ≡ key → ⊥) → Same key (effect_of capacity c es) es
serve_same capacity key c es h =
    serve_keeps (λ (l : List Entry). Same key l es) capacity c es (refl, refl) (λ _ _ _. same_put_in key _ es h) (λ _. same_take_out key c.key es h)
    (λ _. same_set_chute key c.key c.chute es h)

-- ---- reads and updates

-- a read changes nothing
read_of : (k : Kind) (capacity key chute : ℕ) → is_read k ≡ true → (es : List Entry) → (serve_kind k capacity key chute es).entries ≡ es
unfolding is_read serve_kind
read_of Insert capacity key chute r es = absurd (false≢true r)
read_of Delete capacity key chute r es = absurd (false≢true r)
read_of Read capacity key chute r es = cond_cases (λ (s : Served). s.entries ≡ es) (present key es) (λ _. refl) (λ _. refl)
read_of Update capacity key chute r es = absurd (false≢true r)
read_of Workers capacity key chute r es = absurd (false≢true r)
read_of Checkpoint capacity key chute r es = absurd (false≢true r)

-- an absent key gets no chute
set_absent : (key chute : ℕ) (es : List Entry) → present key es ≡ false → set_chute key chute es ≡ es
unfolding present set_chute
set_absent key chute [] h = refl
set_absent key chute (e ∷ es) h =
    ⊎_elim (λ p. absurd (true≢false (rw p.1 at h))) (λ p. simp (p.1, set_absent key chute es (rw p.1 at h))) (eqb_cases e.key key)

-- an update sets a chute
update_of : (capacity key chute : ℕ) (es : List Entry) → (serve_kind Update capacity key chute es).entries ≡ set_chute key chute es
unfolding serve_kind
update_of capacity key chute es =
    cond_cases (λ (s : Served). s.entries ≡ set_chute key chute es) (present key es) (λ _. refl) (λ a. sym (set_absent key chute es a))

-- a command that is no insert and no delete does one of the two
change_of : (k : Kind) (capacity key chute : ℕ) → is_insert_or_delete k ≡ false
    → ((es : List Entry) → (serve_kind k capacity key chute es).entries ≡ es) ⊎ ((es : List Entry) → (serve_kind k capacity key chute es).entries ≡ set_chute key chute es)
unfolding is_insert_or_delete is_read serve_kind
change_of Insert capacity key chute f = absurd (true≢false f)
change_of Delete capacity key chute f = absurd (true≢false f)
change_of Read capacity key chute f = inl (read_of Read capacity key chute refl)
change_of Update capacity key chute f = inr (update_of capacity key chute)
change_of Workers capacity key chute f = inl (λ es. refl)
change_of Checkpoint capacity key chute f = inl (λ es. refl)

-- and keeps the number of entries
length_kept : (capacity : ℕ) (c : Command) (es : List Entry) → is_insert_or_delete c.kind ≡ false → length (effect_of capacity c es) ≡ length es
unfolding serve
length_kept capacity c es f =
    ⊎_elim (λ p. ap length (p es)) (λ p. ap length (p es) ∙ length_set_chute c.key c.chute es) (change_of c.kind capacity c.key c.chute f)

-- ---- another key's chute, set before or after a command

-- another chute is set
set_set_commute : (x u y v : ℕ) (es : List Entry) → (x ≡ y → ⊥) → set_chute x u (set_chute y v es) ≡ set_chute y v (set_chute x u es)
unfolding set_chute
set_set_commute x u y v [] h = refl
set_set_commute x u y v (e ∷ es) h =
    ⊎_elim (λ p. simp (p.1, ne_eqb e.key y (λ q. h (sym p.0 ∙ q)), ne_eqb x y h))
    (λ p.
    ⊎_elim (λ q. simp (p.1, q.1, ne_eqb y x (λ r. h (sym r)))) (λ q. simp (p.1, q.1, set_set_commute x u y v es h)) (eqb_cases e.key y))
    (eqb_cases e.key x)

-- an entry is put in
put_set_commute : (new : Entry) (y v : ℕ) (es : List Entry) → (new.key ≡ y → ⊥) → put_in new (set_chute y v es) ≡ set_chute y v (put_in new es)
unfolding put_in set_chute
put_set_commute new y v [] h = rw (ne_eqb new.key y h)
put_set_commute new y v (e ∷ es) h =
    let apart = ne_eqb new.key y h in
    let rest = put_set_commute new y v es h in
    ⊎_elim
    (λ p.
    let same = ap (ltb new.key) (sym p.0) in
    ⊎_elim (λ q. simp (p.1, q, same ∙ q, apart)) (λ q. simp (p.1, q, same ∙ q)) (passes_or_fails (ltb new.key e.key)))
    (λ p. ⊎_elim (λ q. simp (p.1, q, apart)) (λ q. simp (p.1, q, rest)) (passes_or_fails (ltb new.key e.key)))
    (eqb_cases e.key y)

-- one is taken out
take_set_commute : (x y v : ℕ) (es : List Entry) → (x ≡ y → ⊥) → take_out x (set_chute y v es) ≡ set_chute y v (take_out x es)
unfolding take_out set_chute
take_set_commute x y v [] h = refl
take_set_commute x y v (e ∷ es) h =
    ⊎_elim (λ p. simp (p.1, ne_eqb e.key x (λ q. h (sym q ∙ p.0)), ne_eqb y x (λ q. h (sym q))))
    (λ p. ⊎_elim (λ q. simp (p.1, q.1)) (λ q. simp (p.1, q.1, take_set_commute x y v es h)) (eqb_cases e.key x))
    (eqb_cases e.key y)

-- any command
set_passes : (k : Kind) (capacity key chute y v : ℕ) (es : List Entry) → (key ≡ y → ⊥)
    → (serve_kind k capacity key chute (set_chute y v es)).entries ≡ set_chute y v (serve_kind k capacity key chute es).entries
unfolding is_read serve_kind
set_passes Insert capacity key chute y v es h =
    rw ((same_set_chute key y v es (λ q. h (sym q))).0, length_set_chute y v es) (one (present key es) (leb capacity (length es)))
  where
    new : Entry
    new = record { key = key; chute = chute }

    one : (p f : Bool)
        → (cond p (served 1004 (set_chute key chute (set_chute y v es))) (cond f (served 1003 (set_chute y v es)) (served 1000 (put_in new (set_chute y v es))))).entries
        ≡ set_chute y v (cond p (served 1004 (set_chute key chute es)) (cond f (served 1003 es) (served 1000 (put_in new es)))).entries
    one true f = set_set_commute key chute y v es h
    one false true = refl
    one false false = put_set_commute new y v es h
set_passes Delete capacity key chute y v es h = rw (same_set_chute key y v es (λ q. h (sym q))).0 (one (present key es))
  where
    one : (p : Bool) → (cond p (served 1000 (take_out key (set_chute y v es))) (served 1002 (set_chute y v es))).entries
        ≡ set_chute y v (cond p (served 1000 (take_out key es)) (served 1002 es)).entries
    one true = take_set_commute key y v es h
    one false = refl
set_passes Read capacity key chute y v es h =
    read_of Read capacity key chute refl (set_chute y v es) ∙ ap (set_chute y v) (sym (read_of Read capacity key chute refl es))
set_passes Update capacity key chute y v es h =
    update_of capacity key chute (set_chute y v es) ∙ (set_set_commute key chute y v es h ∙ ap (set_chute y v) (sym (update_of capacity key chute es)))
set_passes Workers capacity key chute y v es h = refl
set_passes Checkpoint capacity key chute y v es h = refl

-- ---- the law

-- a lookup finds the same before and after an independent command
look_same : (capacity : ℕ) (a b : Command) (es : List Entry) → are_dependent a b ≡ false → Same a.key (effect_of capacity b es) es
unfolding serve
look_same capacity a b es e =
    ⊎_elim (λ h. serve_same capacity a.key b es (λ q. h (sym q)))
    (λ r. let k = read_of b.kind capacity b.key b.chute r.1 es in (ap (present a.key) k, ap (chute_at a.key) k))
    (other_key a b e)

pub look_keeps : (capacity : ℕ) (a b : Command) (es : List Entry) → are_dependent a b ≡ false
    → chute_at a.key (effect_of capacity b es) ≡ chute_at a.key es
look_keeps capacity a b es e = (look_same capacity a b es e).1

-- a command passes one of another key that is no insert and no delete
passes : (capacity : ℕ) (a b : Command) (es : List Entry) → (a.key ≡ b.key → ⊥) → is_insert_or_delete b.kind ≡ false
    → effect_of capacity a (effect_of capacity b es) ≡ effect_of capacity b (effect_of capacity a es)
unfolding serve
passes capacity a b es h f =
    ⊎_elim (λ p. ap (effect_of capacity a) (p es) ∙ sym (p _))
    (λ p. ap (effect_of capacity a) (p es) ∙ (set_passes a.kind capacity a.key a.chute b.key b.chute es h ∙ sym (p _)))
    (change_of b.kind capacity b.key b.chute f)

-- so independent commands may change places
pub effects_commute : (capacity : ℕ) (a b : Command) (es : List Entry) → are_dependent a b ≡ false
    → effect_of capacity a (effect_of capacity b es) ≡ effect_of capacity b (effect_of capacity a es)
unfolding serve
effects_commute capacity a b es e =
    ⊎_elim
    (λ h. ⊎_elim (λ f. sym (passes capacity b a es (λ q. h (sym q)) f)) (λ f. passes capacity a b es h f) (one_is_neither a b e))
    (λ r. let k = read_of b.kind capacity b.key b.chute r.1 in ap (effect_of capacity a) (k es) ∙ sym (k _))
    (other_key a b e)

-- what a test picks has one answer where both have
answer_cond : (t : Bool) (x y x' y' : Served) → x.answer ≡ x'.answer → y.answer ≡ y'.answer → (cond t x y).answer ≡ (cond t x' y').answer
answer_cond true x y x' y' p q = p
answer_cond false x y x' y' p q = q

-- an answer is made of what a lookup finds and, for an insert, of the number of entries
answer_of_lem : (k : Kind) (capacity key chute : ℕ) (es fs : List Entry) → Same key es fs → (is_insert_or_delete k ≡ true → length es ≡ length fs)
    → (serve_kind k capacity key chute es).answer ≡ (serve_kind k capacity key chute fs).answer
unfolding is_insert_or_delete serve_kind
answer_of_lem Insert capacity key chute es fs s n =
    rw (s.0, n refl) (answer_cond (present key fs) _ _ _ _ refl (answer_cond (leb capacity (length fs)) _ _ _ _ refl refl))
answer_of_lem Delete capacity key chute es fs s n = rw s.0 (answer_cond (present key fs) _ _ _ _ refl refl)
answer_of_lem Read capacity key chute es fs s n = rw s.0 (answer_cond (present key fs) _ _ _ _ s.1 refl)
answer_of_lem Update capacity key chute es fs s n = rw s.0 (answer_cond (present key fs) _ _ _ _ refl refl)
answer_of_lem Workers capacity key chute es fs s n = refl
answer_of_lem Checkpoint capacity key chute es fs s n = refl

-- and independent commands leave one another's answers
pub replies_kept : (capacity : ℕ) (a b : Command) (es : List Entry) → are_dependent a b ≡ false
    → reply_of capacity a (effect_of capacity b es) ≡ reply_of capacity a es
unfolding serve
replies_kept capacity a b es e =
    answer_of_lem a.kind capacity a.key a.chute _ es (look_same capacity a b es e)
    (λ i. ⊎_elim (λ f. absurd (true_false _ i f)) (λ f. length_kept capacity b es f) (one_is_neither a b e))

pub service_commutes : (capacity : ℕ) → Commuting (effect_of capacity) (reply_of capacity) are_dependent
service_commutes capacity = record {
  symmetric = dependence_is_symmetric;
  effects = effects_commute capacity;
  replies = replies_kept capacity;
}

-- ---- the worker count

-- of two independent commands each is for an item, and keeps the count
keeps_count : (a b : Command) → are_dependent a b ≡ false → ((n : ℕ) → count_after a n ≡ n) × ((n : ℕ) → count_after b n ≡ n)
keeps_count a b e =
    let both = (and-eq-true_iff (has_item a.kind) (has_item b.kind)).0 (independent a b e).0 in
    (λ n. item_keeps_count a n both.0, λ n. item_keeps_count b n both.1)

-- so the counts after commands obey the law too, the reply to a command being the count that it finds
pub counts_commute : Commuting count_after (λ (c : Command) (n : ℕ). n) are_dependent
counts_commute = record {
  symmetric = dependence_is_symmetric;
  effects = λ a b n e. let k = keeps_count a b e in k.0 (count_after b n) ∙ (k.1 n ∙ sym (ap (count_after b) (k.0 n) ∙ k.1 n));
  replies = λ a b n e. (keeps_count a b e).1 n;
}

-- One command more has its round: `specs/Entered.antt`. Assumes nothing.
use Prim.Native.Nat.{ℕ, suc, ◌+◌, ◌≤◌, ◌<◌, max, suc-le-suc}
use mathlib.Core.Path.{◌≡◌, refl, sym, ap, ◌∙◌}
use mathlib.Core.Bool.{Bool, true, false, not, cond, ◌&&◌}
use mathlib.Core.List.{List, [], ◌∷◌, ◌++◌, append_assoc, append-nil}
use native.Mathlib.Omega.{arith}
use borrow.Author.Tests.{eqb-true}
use lib.ListN.{length, get_or, set, length-append, length-map}
use Rattle.std.proofs.lemmas.List.{map-set}
use lib.Seq.{take-suc-set}
use lib.Dec.{eqb}
use Rattle.command.specs.declared.Command.{Command}
use Rattle.command.specs.Dependent.{has_item, is_insert_or_delete, is_read}
use Rattle.rounds.specs.declared.Largest.{Largest}
use Rattle.rounds.specs.Rounds.{largest_where, largest_round, rounds_after, rounds_of, largest_of}
use Rattle.rounds.specs.Promise.{Keeps}
use Rattle.rounds.specs.Ways.{key_of, is_any, is_no_read}
use Rattle.key_links.specs.Links.{last_of, at_link}
use Rattle.rounds.specs.declared.Numbered.{Numbered}
use Rattle.rounds.specs.Entered.{Entered, Holds, alls, changes, depends_up_to, largest_after}
use Rattle.rounds.proofs.Promise.{rounds_are_needed}
use Rattle.key_links.proofs.Links.{at_more}
use Rattle.rounds.proofs.Ways.{ways}

-- a test of one command more
where_snoc : (test : Command → Bool) (es : List Command) (rs : List ℕ) (c : Command) (r : ℕ) → length rs ≡ length es →
    largest_where test (es ++ (c ∷ [])) (rs ++ (r ∷ [])) ≡ max (largest_where test es rs) (cond (test c) r 0)
unfolding largest_where
where_snoc test [] [] c r long = by (test c)
  where
    by : (b : Bool) → max (cond b r 0) 0 ≡ max 0 (cond b r 0)
    by b = omega arith
where_snoc test [] (x ∷ rs) c r long = absurd (omega arith)
where_snoc test (e ∷ es) [] c r long = absurd (omega arith)
where_snoc test (e ∷ es) (x ∷ rs) c r long = rw (where_snoc test es rs c r (omega arith)) (omega arith)

-- the rounds of one command more
rounds_after_snoc : (es : List Command) (rs : List ℕ) (cs : List Command) (c : Command) →
    rounds_after es rs (cs ++ (c ∷ [])) ≡ rounds_after es rs cs ++ (suc (largest_round c (es ++ cs) (rounds_after es rs cs)) ∷ [])
unfolding rounds_after
rounds_after_snoc es rs [] c = rw (append-nil es)
rounds_after_snoc es rs (x ∷ cs) c = rw (← append_assoc es (x ∷ []) cs) (rounds_after_snoc (es ++ (x ∷ [])) (rs ++ (suc (largest_round x es rs) ∷ [])) cs c)

rounds_snoc : (es : List Command) (c : Command) → rounds_of (es ++ (c ∷ [])) ≡ rounds_of es ++ (suc (largest_round c es (rounds_of es)) ∷ [])
unfolding rounds_of
rounds_snoc es c = rounds_after_snoc [] [] es c

module _ (es : List Command) (keys alls changes rounds : List ℕ) (l : Largest) (c : Command) (e : Entered es keys alls changes rounds l) where
  abbrev pub link : ℕ
  link = last_of keys c.key (length es)

  -- the round that the ways give is the command's
  pub round_by_ways : depends_up_to c.kind l (cond (is_read c.kind) (at_link changes link) (at_link alls link)) ≡ largest_round c es (rounds_of es)
  round_by_ways = rw (e.top, e.fence, e.writers, e.all c.key, e.changed c.key) (sym (ways c es (rounds_of es)))

  module _ (r : ℕ) (is : r ≡ suc (largest_round c es (rounds_of es))) (kk : length keys ≡ length es) (ka : length es < length alls) (kc : length es < length changes) (ks : length es < length rounds) where
    long : length (rounds_of es) ≡ length es
    long = (rounds_are_needed es).long

    now_rounds : rounds_of (es ++ (c ∷ [])) ≡ rounds_of es ++ (r ∷ [])
    now_rounds = rw is (rounds_snoc es c)

    count : length (es ++ (c ∷ [])) ≡ suc (length es)
    count = length-append es (c ∷ []) ∙ omega arith

    -- the new one counts for its key
    value_more : (test : Command → Bool) (values : List ℕ) → length es < length values → ((key : ℕ) → at_link values (last_of keys key (length es)) ≡ key_of test key es (rounds_of es)) →
        (key : ℕ) → at_link (set values (length es) (max (at_link values link) (cond (test c) r 0))) (last_of (keys ++ (c.key ∷ [])) key (length (es ++ (c ∷ [])))) ≡ key_of test key (es ++ (c ∷ [])) (rounds_of (es ++ (c ∷ [])))
    value_more test values kv before key =
        let more = rw kk at (at_more keys values c.key (max (at_link values link) (cond (test c) r 0)) key (omega (arith, kk, kv))) in
        rw (count, now_rounds, more, before c.key, before key, where_snoc (λ (x : Command). eqb x.key key && test x) es (rounds_of es) c r long)
        (by (eqb c.key key) refl)
      where
        by : (t : Bool) → eqb c.key key ≡ t →
            cond t (max (key_of test c.key es (rounds_of es)) (cond (test c) r 0)) (key_of test key es (rounds_of es)) ≡ max (key_of test key es (rounds_of es)) (cond (t && test c) r 0)
        by true same = ap (λ (k : ℕ). max (key_of test k es (rounds_of es)) (cond (test c) r 0)) (eqb-true c.key key same)
        by false other = omega arith

    pub entered_more : Entered (es ++ (c ∷ [])) (keys ++ (c.key ∷ [])) (set alls (length es) (max (at_link alls link) r))
        (set changes (length es) (max (at_link changes link) (cond (not (is_read c.kind)) r 0))) (set rounds (length es) r) (largest_after c.kind r l)
    entered_more = record {
      placed = rw (count, now_rounds, take-suc-set rounds (length es) r ks) (ap (λ (rs : List ℕ). rs ++ (r ∷ [])) e.placed);
      top = rw (now_rounds, e.top) (sym (where_snoc (λ (x : Command). true) es (rounds_of es) c r long));
      fence = rw (now_rounds, e.fence) (sym (where_snoc (λ (x : Command). not (has_item x.kind)) es (rounds_of es) c r long));
      writers = rw (now_rounds, e.writers) (sym (where_snoc (λ (x : Command). is_insert_or_delete x.kind) es (rounds_of es) c r long));
      all = value_more is_any alls ka e.all;
      changed = value_more is_no_read changes kc e.changed;
    }

-- ---- the same of what the search holds

module _ (es : List Command) (rounds : List ℕ) (n : Numbered) (c : Command) (h : Holds es rounds n) where
  abbrev pub last : ℕ
  last = last_of n.links c.key (length n.links)

  pub round_is : (same : ℕ) → same ≡ cond (is_read c.kind) (at_link (changes n) last) (at_link (alls n) last) → suc (depends_up_to c.kind n.largest same) ≡ suc (largest_round c es (rounds_of es))
  round_is same is = rw (is, h.0) (ap suc (round_by_ways es n.links (alls n) (changes n) rounds n.largest c h.1))

  pub holds_more : (r : ℕ) (m : Numbered) → r ≡ suc (largest_round c es (rounds_of es)) → length es < length n.of_keys → length es < length rounds → m.links ≡ n.links ++ (c.key ∷ []) →
      m.of_keys ≡ set n.of_keys (length n.links) (record { all = max (at_link (alls n) last) r; changing = max (at_link (changes n) last) (cond (not (is_read c.kind)) r 0) }) →
      m.largest ≡ largest_after c.kind r n.largest → Holds (es ++ (c ∷ [])) (set rounds (length es) r) m
  holds_more r m is room lent links of_keys largest = (
    rw links (length-append n.links (c.key ∷ []) ∙ ap (λ (k : ℕ). k + 1) h.0 ∙ sym (length-append es (c ∷ []))),
    rw (links, of_keys, largest, map-set, map-set, h.0) (entered_more es n.links (alls n) (changes n) rounds n.largest c h.1 r is h.0 (rw length-map room) (rw length-map room) lent),
  )

-- ---- no round passes the number of commands

-- the largest of some is at most the largest of all
where_low : (test : Command → Bool) (es : List Command) (rs : List ℕ) → largest_where test es rs ≤ largest_of rs
unfolding largest_where largest_of
where_low test [] rs = omega arith
where_low test (e ∷ es) [] = omega arith
where_low test (e ∷ es) (r ∷ rs) = by (test e) (where_low test es rs)
  where
    by : (b : Bool) → largest_where test es rs ≤ largest_of rs → max (cond b r 0) (largest_where test es rs) ≤ max r (largest_of rs)
    by true low = omega arith
    by false low = omega arith

-- a bound of each is one of the largest
largest_low : (rs : List ℕ) (m : ℕ) → ((i : ℕ) → i < length rs → get_or rs i 0 ≤ m) → largest_of rs ≤ m
unfolding largest_of
largest_low [] m all = omega arith
largest_low (r ∷ rs) m all =
    let first : r ≤ m = all 0 (omega arith) in
    let rest = largest_low rs m (λ i h. all (suc i) (suc-le-suc h)) in
    omega arith

-- in delivered order, one command a round
in_order : (cs : List Command) → Keeps cs (λ i. suc i)
in_order cs = record { from1 = λ i h. omega arith; rule = λ i j a b h ai bj dep. omega arith }

pub count_low : (cs : List Command) → largest_of (rounds_of cs) ≤ length cs
count_low cs =
    let long = (rounds_are_needed cs).long in
    largest_low (rounds_of cs) (length cs) (λ i h. let low = (rounds_are_needed cs).none_earlier (λ j. suc j) (in_order cs) i (omega arith) in omega arith)

module _ {es : List Command} {keys alls changes rounds : List ℕ} {l : Largest} (e : Entered es keys alls changes rounds l) where
  pub entered_low : (l.top ≤ length es) × (l.fence ≤ length es) × (l.writers ≤ length es)
  entered_low =
      let most = count_low es in (
        rw e.top (omega (arith, where_low (λ (x : Command). true) es (rounds_of es))),
        rw e.fence (omega (arith, where_low (λ (x : Command). not (has_item x.kind)) es (rounds_of es))),
        rw e.writers (omega (arith, where_low (λ (x : Command). is_insert_or_delete x.kind) es (rounds_of es))),
      )

  pub all_low : (key : ℕ) → at_link alls (last_of keys key (length es)) ≤ length es
  all_low key = rw (e.all key) (omega (arith, count_low es, where_low (λ (x : Command). eqb x.key key && is_any x) es (rounds_of es)))

  pub changed_low : (key : ℕ) → at_link changes (last_of keys key (length es)) ≤ length es
  changed_low key = rw (e.changed key) (omega (arith, count_low es, where_low (λ (x : Command). eqb x.key key && is_no_read x) es (rounds_of es)))

-- The promises of `specs/Promise.antt`: by the commands that have their rounds, one more at a time. Assumes nothing.
use Prim.Native.Nat.{ℕ, zero, suc, ◌/◌, ◌%◌, ◌≤◌, ◌<◌, max, suc-le-suc}
use mathlib.Core.Path.{◌≡◌, refl, sym, ap, ◌∙◌}
use mathlib.Core.Bool.{Bool, true, false, cond}
use mathlib.Core.List.{List, [], ◌∷◌, ◌++◌, append_assoc, append-nil}
use mathlib.Core.Logic.{◌⊎◌, inl, inr}
use mathlib.Core.Option.{Option, none, some}
use native.Mathlib.Nat.{not-suc-le-zero}
use native.Mathlib.Omega.{arith}
use borrow.Author.Tests.{eqb-true, eqb-false, eq-eqb, ne_eqb, leb-true}
use lib.Dec.{eqb, leb}
use lib.ListN.{length, get_or, get_elem?, length-append, get_or-append}
use Rattle.s10.specs.Refusal.{Refusal}
use Rattle.command.specs.declared.Command.{Command}
use Rattle.command.specs.Dependent.{are_dependent}
use Rattle.command.specs.Read.{ListOutcome, all_accepted, list_refused, first_refusal, readings, commands_in}
use Rattle.command.proofs.Tests.{cond_cases}
use Rattle.rounds.specs.Rounds.{largest_round, rounds_after, rounds_of, largest_of, round_count}
use Rattle.rounds.specs.Calls.{Outcome, found, refused, found_in, rounds_on}
use Rattle.rounds.specs.Promise.{Keeps, RoundsAreNeeded, RoundsOverCalls}

-- ---- one more at the end of a list

-- the last of a list that got one more
snoc_last : (rs : List ℕ) (r : ℕ) → get_or (rs ++ (r ∷ [])) (length rs) 0 ≡ r
snoc_last [] r = refl
snoc_last (x ∷ rs) r = snoc_last rs r

-- what stands in such a list stood there, or is the last
snoc_at : (es : List Command) (c : Command) (i : ℕ) (a : Command) → get_elem? (es ++ (c ∷ [])) i ≡ some a →
    ((i < length es) × (get_elem? es i ≡ some a)) ⊎ ((i ≡ length es) × (c ≡ a))
snoc_at [] c zero a e = inr (refl, some_is e)
  where
    some_is : {x y : Command} → ◌≡◌ {A = Option Command} (some x) (some y) → x ≡ y
    some_is e = cc
snoc_at [] c (suc i) a e = absurd (none_is e)
  where
    none_is : ◌≡◌ {A = Option Command} none (some a) → ⊥
    none_is e = let z : ◌≡◌ {A = ℕ} 0 1 = cc in omega arith
snoc_at (x ∷ es) c zero a e = inl (omega arith, e)
snoc_at (x ∷ es) c (suc i) a e = later (snoc_at es c i a e)
  where
    later : ((i < length es) × (get_elem? es i ≡ some a)) ⊎ ((i ≡ length es) × (c ≡ a)) →
        ((suc i < suc (length es)) × (get_elem? es i ≡ some a)) ⊎ ((suc i ≡ suc (length es)) × (c ≡ a))
    later (inl h) = inl (suc-le-suc h.0, h.1)
    later (inr h) = inr (ap suc h.0, h.1)

-- a place in such a list is one of the list before, or the last
snoc_place : (es : List Command) (c : Command) (i : ℕ) → i < length (es ++ (c ∷ [])) → (i < length es) ⊎ (i ≡ length es)
snoc_place es c i h = by (eqb i (length es)) refl
  where
    by : (b : Bool) → eqb i (length es) ≡ b → (i < length es) ⊎ (i ≡ length es)
    by true e = inr (eqb-true i (length es) e)
    by false e =
        let other = eqb-false i (length es) e in
        let long = length-append es (c ∷ []) in
        inl (omega arith)

-- what stood in the list stands there, and the new one at its end
snoc_front : (es : List Command) (c : Command) (i : ℕ) (a : Command) → get_elem? es i ≡ some a → get_elem? (es ++ (c ∷ [])) i ≡ some a
snoc_front [] c i a e = absurd (let z : ◌≡◌ {A = ℕ} 0 1 = cc in omega arith)
snoc_front (x ∷ es) c zero a e = e
snoc_front (x ∷ es) c (suc i) a e = snoc_front es c i a e

snoc_end : (es : List Command) (c : Command) → get_elem? (es ++ (c ∷ [])) (length es) ≡ some c
snoc_end [] c = refl
snoc_end (x ∷ es) c = snoc_end es c

-- a place with a command is inside the list
get_elem_inside : (es : List Command) (i : ℕ) (a : Command) → get_elem? es i ≡ some a → i < length es
get_elem_inside [] i a e = absurd (let z : ◌≡◌ {A = ℕ} 0 1 = cc in omega arith)
get_elem_inside (x ∷ es) zero a e = omega arith
get_elem_inside (x ∷ es) (suc i) a e = suc-le-suc (get_elem_inside es i a e)

-- ---- the largest round of those that a command depends on

-- none of these is larger
covered : (c : Command) (es : List Command) (rs : List ℕ) (i : ℕ) (a : Command) → length rs ≡ length es → get_elem? es i ≡ some a →
    are_dependent a c ≡ true → get_or rs i 0 ≤ largest_round c es rs
unfolding largest_round
covered c [] rs i a long e dep = absurd (let z : ◌≡◌ {A = ℕ} 0 1 = cc in omega arith)
covered c (x ∷ es) [] i a long e dep = absurd (omega arith)
covered c (x ∷ es) (r ∷ rs) zero a long e dep =
    let is : x ≡ a = cc in
    let yes : are_dependent x c ≡ true = rw is dep in
    rw yes (omega arith)
covered c (x ∷ es) (r ∷ rs) (suc i) a long e dep =
    let rest = covered c es rs i a (omega arith) e dep in
    omega arith

-- and it is one of theirs, or 0
Attained : Command → List Command → List ℕ → ℕ → Type 0
Attained c es rs k = (i : ℕ) × (a : Command) × (get_elem? es i ≡ some a) × (are_dependent a c ≡ true) × (get_or rs i 0 ≡ suc k)

attained : (c : Command) (es : List Command) (rs : List ℕ) → length rs ≡ length es → (k : ℕ) → largest_round c es rs ≡ suc k → Attained c es rs k
unfolding largest_round Attained
attained c [] rs long k e = absurd (omega arith)
attained c (x ∷ es) [] long k e = absurd (omega arith)
attained c (x ∷ es) (r ∷ rs) long k e = by (are_dependent x c) refl e (attained c es rs (omega arith) k)
  where
    later : Attained c es rs k → Attained c (x ∷ es) (r ∷ rs) k
    later (i, a, at, dep, is) = (suc i, a, at, dep, is)

    first : (b : Bool) → eqb r (suc k) ≡ b → are_dependent x c ≡ true → max r (largest_round c es rs) ≡ suc k →
        (largest_round c es rs ≡ suc k → Attained c es rs k) → Attained c (x ∷ es) (r ∷ rs) k
    first true is d e rest = (0, x, refl, d, eqb-true r (suc k) is)
    first false is d e rest = later (rest (let other = eqb-false r (suc k) is in omega arith))

    by : (b : Bool) → are_dependent x c ≡ b → max (cond b r 0) (largest_round c es rs) ≡ suc k →
        (largest_round c es rs ≡ suc k → Attained c es rs k) → Attained c (x ∷ es) (r ∷ rs) k
    by true d e rest = first (eqb r (suc k)) refl d e rest
    by false d e rest = later (rest (omega arith))

-- below a number that is above each of theirs
bounded : (c : Command) (es : List Command) (rs : List ℕ) (m : ℕ) → length rs ≡ length es → 1 ≤ m →
    ((i : ℕ) (a : Command) → get_elem? es i ≡ some a → are_dependent a c ≡ true → get_or rs i 0 < m) → largest_round c es rs < m
unfolding Attained
bounded c es rs m long h all = by (largest_round c es rs) refl
  where
    by : (n : ℕ) → largest_round c es rs ≡ n → largest_round c es rs < m
    by zero e = omega arith
    by (suc k) e =
        let it = attained c es rs long k e in
        omega (arith, all it.0 it.1 it.2 it.3, it.4)

-- ---- one command more has its round

-- a command that the i-th depends on, in the round before
record Before (es : List Command) (rs : List ℕ) (i k : ℕ) : Type 0 where
  j : ℕ
  a : Command
  b : Command
  earlier : j < i
  there : get_elem? es j ≡ some a
  here : get_elem? es i ≡ some b
  dep : are_dependent a b ≡ true
  round : get_or rs j 0 ≡ suc k

-- what the first commands and their rounds are to each other
record Placed (es : List Command) (rs : List ℕ) : Type 0 where
  long : length rs ≡ length es
  keeps : Keeps es (λ i. get_or rs i 0)
  least : (round : ℕ → ℕ) → Keeps es round → (i : ℕ) → i < length es → get_or rs i 0 ≤ round i
  before : (i k : ℕ) → i < length es → get_or rs i 0 ≡ suc (suc k) → Before es rs i k

-- an assignment for more commands is one for the first of them
keeps_front : (es : List Command) (c : Command) (round : ℕ → ℕ) → Keeps (es ++ (c ∷ [])) round → Keeps es round
keeps_front es c round k = record {
  from1 = λ i h. k.from1 i (rw (length-append es (c ∷ [])) (omega arith));
  rule = λ i j a b h ai bj dep. k.rule i j a b h (snoc_front es c i a ai) (snoc_front es c j b bj) dep;
}

module _ (es : List Command) (rs : List ℕ) (c : Command) (p : Placed es rs) where
  -- the rounds that were there, and the new one
  front : (i : ℕ) → i < length es → get_or (rs ++ (suc (largest_round c es rs) ∷ [])) i 0 ≡ get_or rs i 0
  front i h = get_or-append rs _ 0 i (omega (arith, p.long))

  last : get_or (rs ++ (suc (largest_round c es rs) ∷ [])) (length es) 0 ≡ suc (largest_round c es rs)
  last = rw (← p.long) (snoc_last rs _)

  from1_more : (i : ℕ) → i < length (es ++ (c ∷ [])) → 1 ≤ get_or (rs ++ (suc (largest_round c es rs) ∷ [])) i 0
  from1_more i h = by (snoc_place es c i h)
    where
      by : (i < length es) ⊎ (i ≡ length es) → 1 ≤ get_or (rs ++ (suc (largest_round c es rs) ∷ [])) i 0
      by (inl h) = rw (front i h) (p.keeps.from1 i h)
      by (inr e) = rw (e, last) (omega arith)

  rule_more : (i j : ℕ) (a b : Command) → i < j → get_elem? (es ++ (c ∷ [])) i ≡ some a → get_elem? (es ++ (c ∷ [])) j ≡ some b →
      are_dependent a b ≡ true → get_or (rs ++ (suc (largest_round c es rs) ∷ [])) i 0 < get_or (rs ++ (suc (largest_round c es rs) ∷ [])) j 0
  rule_more i j a b h ai bj dep = by (snoc_at es c i a ai) (snoc_at es c j b bj)
    where
      by : ((i < length es) × (get_elem? es i ≡ some a)) ⊎ ((i ≡ length es) × (c ≡ a)) → ((j < length es) × (get_elem? es j ≡ some b)) ⊎ ((j ≡ length es) × (c ≡ b)) →
          get_or (rs ++ (suc (largest_round c es rs) ∷ [])) i 0 < get_or (rs ++ (suc (largest_round c es rs) ∷ [])) j 0
      by (inl x) (inl y) = rw (front i x.0, front j y.0) (p.keeps.rule i j a b h x.1 y.1 dep)
      by (inl x) (inr y) =
          let low = covered c es rs i a p.long x.1 (rw y.1 dep) in
          rw (front i x.0, y.0, last) (omega arith)
      by (inr x) (inl y) = absurd (omega (arith, x.0, y.0))
      by (inr x) (inr y) = absurd (omega (arith, x.0, y.0))

  least_more : (round : ℕ → ℕ) → Keeps (es ++ (c ∷ [])) round → (i : ℕ) → i < length (es ++ (c ∷ [])) → get_or (rs ++ (suc (largest_round c es rs) ∷ [])) i 0 ≤ round i
  least_more round k i h = by (snoc_place es c i h)
    where
      fronts : (i : ℕ) → i < length es → get_or rs i 0 ≤ round i
      fronts = p.least round (keeps_front es c round k)

      by : (i < length es) ⊎ (i ≡ length es) → get_or (rs ++ (suc (largest_round c es rs) ∷ [])) i 0 ≤ round i
      by (inl h) = rw (front i h) (fronts i h)
      by (inr e) =
          rw (e, last)
          (bounded c es rs (round (length es)) p.long (k.from1 (length es) (rw (length-append es (c ∷ [])) (omega arith)))
          (λ j a aj dep. let inside = get_elem_inside es j a aj in
          omega (arith, fronts j inside, k.rule j (length es) a c inside (snoc_front es c j a aj) (snoc_end es c) dep)))

  before_more : (i k : ℕ) → i < length (es ++ (c ∷ [])) → get_or (rs ++ (suc (largest_round c es rs) ∷ [])) i 0 ≡ suc (suc k) →
      Before (es ++ (c ∷ [])) (rs ++ (suc (largest_round c es rs) ∷ [])) i k
  unfolding Attained
  before_more i k h e = by (snoc_place es c i h)
    where
      by : (i < length es) ⊎ (i ≡ length es) → Before (es ++ (c ∷ [])) (rs ++ (suc (largest_round c es rs) ∷ [])) i k
      by (inl h) =
          let it = p.before i k h (sym (front i h) ∙ e) in
          record {
            j = it.j;
            a = it.a;
            b = it.b;
            earlier = it.earlier;
            there = snoc_front es c it.j it.a it.there;
            here = snoc_front es c i it.b it.here;
            dep = it.dep;
            round = front it.j (omega (arith, it.earlier)) ∙ it.round;
          }
      by (inr last_is) =
          let at_last : get_or (rs ++ (suc (largest_round c es rs) ∷ [])) i 0 ≡ suc (largest_round c es rs) = rw last_is last in
          let it = attained c es rs p.long k (omega arith) in
          let inside = get_elem_inside es it.0 it.1 it.2 in
          record {
            j = it.0;
            a = it.1;
            b = c;
            earlier = omega (arith, inside, last_is);
            there = snoc_front es c it.0 it.1 it.2;
            here = rw last_is (snoc_end es c);
            dep = it.3;
            round = front it.0 inside ∙ it.4;
          }

  placed_more : Placed (es ++ (c ∷ [])) (rs ++ (suc (largest_round c es rs) ∷ []))
  placed_more = record {
    long = length-append rs _ ∙ rw p.long (sym (length-append es (c ∷ [])));
    keeps = record { from1 = from1_more; rule = rule_more };
    least = least_more;
    before = before_more;
  }

placed_after : (es : List Command) (rs : List ℕ) (cs : List Command) → Placed es rs → Placed (es ++ cs) (rounds_after es rs cs)
unfolding rounds_after
placed_after es rs [] p = rw (append-nil es) p
placed_after es rs (c ∷ cs) p = rw (← append_assoc es (c ∷ []) cs) (placed_after (es ++ (c ∷ [])) _ cs (placed_more es rs c p))

-- no command has no round
none_placed : Placed [] []
none_placed = record {
  long = refl;
  keeps = record { from1 = λ i h. absurd (not-suc-le-zero h); rule = λ i j a b h ai bj dep. absurd (let z : ◌≡◌ {A = ℕ} 0 1 = cc in omega arith) };
  least = λ round k i h. absurd (not-suc-le-zero h);
  before = λ i k h e. absurd (not-suc-le-zero h);
}

all_placed : (cs : List Command) → Placed cs (rounds_of cs)
unfolding rounds_of
all_placed cs = placed_after [] [] cs none_placed

-- ---- the number of rounds

-- no number of a list passes its largest
pub largest_covers : (rs : List ℕ) (i : ℕ) → get_or rs i 0 ≤ largest_of rs
unfolding largest_of
largest_covers [] i = omega arith
largest_covers (r ∷ rs) zero = omega arith
largest_covers (r ∷ rs) (suc i) = let rest = largest_covers rs i in omega arith

-- which is one of them, or 0
largest_attained : (rs : List ℕ) (k : ℕ) → largest_of rs ≡ suc k → (i : ℕ) × (i < length rs) × (get_or rs i 0 ≡ suc k)
unfolding largest_of
largest_attained [] k e = absurd (omega arith)
largest_attained (r ∷ rs) k e = by (eqb r (suc k)) refl (largest_attained rs k)
  where
    by : (b : Bool) → eqb r (suc k) ≡ b → (largest_of rs ≡ suc k → (i : ℕ) × (i < length rs) × (get_or rs i 0 ≡ suc k)) →
        (i : ℕ) × (i < suc (length rs)) × (get_or (r ∷ rs) i 0 ≡ suc k)
    by true is rest = (0, omega arith, eqb-true r (suc k) is)
    by false is rest =
        let other = eqb-false r (suc k) is in
        let it = rest (omega arith) in
        (suc it.0, suc-le-suc it.1, it.2)

-- ---- a path through all rounds

-- the round of the i-th command
abbrev round_at : List Command → ℕ → ℕ
round_at cs i = get_or (rounds_of cs) i 0

-- commands in rounds 1 to k + 1, each dependent on the one before, up to the i-th
record PathTo (cs : List Command) (i k : ℕ) : Type 0 where
  place : ℕ → ℕ
  end : place k ≡ i
  inside : (m : ℕ) → m ≤ k → place m < length cs
  there : (m : ℕ) → m ≤ k → round_at cs (place m) ≡ suc m
  apart : (round : ℕ → ℕ) → Keeps cs round → (j m : ℕ) → j < m → m ≤ k → round (place j) < round (place m)

path_to : (cs : List Command) (k i : ℕ) → i < length cs → round_at cs i ≡ suc k → PathTo cs i k
path_to cs zero i h e = record {
  place = λ m. i;
  end = refl;
  inside = λ m low. h;
  there = λ m low. let first : m ≡ 0 = omega arith in rw first e;
  apart = λ round keeps j m less low. absurd (omega arith);
}
path_to cs (suc k) i h e =
    let it = (all_placed cs).before i k h e in
    let inside = get_elem_inside cs it.j it.a it.there in
    longer it (path_to cs k it.j inside it.round)
  where
    longer : (it : Before cs (rounds_of cs) i k) → PathTo cs it.j k → PathTo cs i (suc k)
    longer it p = record {
      place = λ m. cond (eqb m (suc k)) i (p.place m);
      end = rw (eq-eqb (suc k) (suc k) refl);
      inside = inside;
      there = there;
      apart = apart;
    }
      where
        inside : (m : ℕ) → m ≤ suc k → cond (eqb m (suc k)) i (p.place m) < length cs
        inside m low = by (eqb m (suc k)) refl
          where
            by : (b : Bool) → eqb m (suc k) ≡ b → cond b i (p.place m) < length cs
            by true is = h
            by false is = p.inside m (let other = eqb-false m (suc k) is in omega arith)

        there : (m : ℕ) → m ≤ suc k → round_at cs (cond (eqb m (suc k)) i (p.place m)) ≡ suc m
        there m low = by (eqb m (suc k)) refl
          where
            by : (b : Bool) → eqb m (suc k) ≡ b → round_at cs (cond b i (p.place m)) ≡ suc m
            by true is = rw (eqb-true m (suc k) is) e
            by false is = p.there m (let other = eqb-false m (suc k) is in omega arith)

        apart : (round : ℕ → ℕ) → Keeps cs round → (j m : ℕ) → j < m → m ≤ suc k → round (cond (eqb j (suc k)) i (p.place j)) < round (cond (eqb m (suc k)) i (p.place m))
        apart round keeps j m less low = rw (ne_eqb j (suc k) (omega arith)) (by (eqb m (suc k)) refl)
          where
            -- the path so far ends in a command that the i-th depends on
            step : round it.j < round i
            step = keeps.rule it.j i it.a it.b it.earlier it.there it.here it.dep

            up_to : (b : Bool) → eqb j k ≡ b → round (p.place j) < round i
            up_to true is = rw (eqb-true j k is, p.end) step
            up_to false is =
                let other = eqb-false j k is in
                let rest = rw p.end at (p.apart round keeps j k (omega arith) (omega arith)) in
                omega (arith, step)

            by : (b : Bool) → eqb m (suc k) ≡ b → round (p.place j) < round (cond b i (p.place m))
            by true is = up_to (eqb j k) refl
            by false is = p.apart round keeps j m less (let other = eqb-false m (suc k) is in omega arith)

-- and up to the last round, if there is one
record Path (cs : List Command) (n : ℕ) : Type 0 where
  place : ℕ → ℕ
  inside : (k : ℕ) → k < n → place k < length cs
  there : (k : ℕ) → k < n → round_at cs (place k) ≡ suc k
  apart : (round : ℕ → ℕ) → Keeps cs round → (j k : ℕ) → j < k → k < n → round (place j) < round (place k)

path : (cs : List Command) (n : ℕ) → largest_of (rounds_of cs) ≡ n → Path cs n
path cs zero e = record {
  place = λ k. 0;
  inside = λ k h. absurd (omega arith);
  there = λ k h. absurd (omega arith);
  apart = λ round keeps j k less h. absurd (omega arith);
}
path cs (suc n) e =
    let it = largest_attained (rounds_of cs) n e in
    let p = path_to cs n it.0 (omega (arith, it.1, (all_placed cs).long)) it.2 in
    record {
      place = p.place;
      inside = λ k h. p.inside k (omega arith);
      there = λ k h. p.there k (omega arith);
      apart = λ round keeps j k less h. p.apart round keeps j k less (omega arith);
    }

pub rounds_are_needed : RoundsAreNeeded
unfolding round_count
rounds_are_needed cs = record {
  long = (all_placed cs).long;
  keeps = (all_placed cs).keeps;
  within = λ i h. largest_covers (rounds_of cs) i;
  filled = filled;
  none_fewer = λ round keeps. record { place = way.place; inside = way.inside; apart = way.apart round keeps };
  none_earlier = (all_placed cs).least;
}
  where
    way : Path cs (largest_of (rounds_of cs))
    way = path cs (largest_of (rounds_of cs)) refl

    filled : (r : ℕ) → 1 ≤ r → r ≤ largest_of (rounds_of cs) → (i : ℕ) × (i < length cs) × (round_at cs i ≡ r)
    filled (suc k) from1 low = (way.place k, way.inside k low, way.there k low)
    filled zero from1 low = absurd (omega arith)

-- ---- over calls

-- an outcome that has its rounds has those of the list
of_list : (o : ListOutcome) (commands rounds : List ℕ) (n : ℕ) → found_in o commands ≡ found rounds n → (rounds_of (commands_in commands) ≡ rounds) × (round_count (commands_in commands) ≡ n)
unfolding found_in
of_list all_accepted commands rounds n e = (cc, cc)
of_list (list_refused r) commands rounds n e = absurd (let z : ◌≡◌ {A = ℕ} 0 1 = cc in omega arith)

not_found : {r : Refusal} {rounds : List ℕ} {n : ℕ} → refused r ≡ found rounds n → ⊥
not_found e = let z : ◌≡◌ {A = ℕ} 0 1 = cc in omega arith

-- what a list that has its rounds was tested for, and what they are
pub record Found (commands : List ℕ) (lent : ℕ) (rounds : List ℕ) (n : ℕ) : Type 0 where
  pub whole : length commands % 16 ≡ 0
  pub few : length commands / 16 ≤ 4096
  pub long : lent ≡ length commands / 16
  pub rounds_are : rounds_of (commands_in commands) ≡ rounds
  pub count_is : round_count (commands_in commands) ≡ n

pub found_so : (commands : List ℕ) (lent : ℕ) (rounds : List ℕ) (n : ℕ) → rounds_on commands lent ≡ found rounds n → Found commands lent rounds n
unfolding rounds_on
found_so commands lent rounds n =
    let P : Outcome → Type 0 = λ o. o ≡ found rounds n → Found commands lent rounds n in
    cond_cases P (eqb (length commands % 16) 0) (λ whole. cond_cases P (leb (length commands / 16) 4096) (λ few. cond_cases P (eqb lent (length commands / 16))
    (λ long e. let is = of_list (first_refusal 1 (readings commands)) commands rounds n e in record {
      whole = eqb-true (length commands % 16) 0 whole;
      few = leb-true (length commands / 16) 4096 few;
      long = eqb-true lent (length commands / 16) long;
      rounds_are = is.0;
      count_is = is.1;
    })
    (λ _ e. absurd (not_found e))) (λ _ e. absurd (not_found e))) (λ _ e. absurd (not_found e))

pub rounds_over_calls : RoundsOverCalls
rounds_over_calls commands lent rounds n e = let f = found_so commands lent rounds n e in rw (← f.rounds_are, ← f.count_is) (rounds_are_needed (commands_in commands))

-- The ways of `specs/Ways.antt` are all that a command depends on. Assumes nothing.
use Prim.Native.Nat.{ℕ, max}
use mathlib.Core.Path.{◌≡◌, refl, ap, ◌∙◌}
use mathlib.Core.Bool.{Bool, true, false, not, cond, ◌&&◌, ◌||◌, and-true, and-false}
use mathlib.Core.List.{List, [], ◌∷◌}
use native.Mathlib.Omega.{arith}
use lib.Dec.{eqb}
use Rattle.command.specs.declared.Command.{Command}
use Rattle.command.specs.Dependent.{has_item, is_insert_or_delete, is_read, are_dependent}
use Rattle.rounds.specs.Rounds.{largest_where, largest_round}
use Rattle.rounds.specs.Ways.{top_of, fence_of, writers_of, key_of, is_any, is_no_read, same_of, by_ways}

-- tests that agree
where_same : (p q : Command → Bool) → ((e : Command) → p e ≡ q e) → (es : List Command) (rs : List ℕ) → largest_where p es rs ≡ largest_where q es rs
unfolding largest_where
where_same p q same [] rs = refl
where_same p q same (e ∷ es) [] = refl
where_same p q same (e ∷ es) (r ∷ rs) = rw (same e, where_same p q same es rs)

-- one test or another
where_or : (p q : Command → Bool) (es : List Command) (rs : List ℕ) → largest_where (λ (e : Command). p e || q e) es rs ≡ max (largest_where p es rs) (largest_where q es rs)
unfolding largest_where
where_or p q [] rs = refl
where_or p q (e ∷ es) [] = refl
where_or p q (e ∷ es) (r ∷ rs) = rw (where_or p q es rs) (by (p e) (q e))
  where
    by : (a b : Bool) → max (cond (a || b) r 0) (max (largest_where p es rs) (largest_where q es rs)) ≡ max (max (cond a r 0) (largest_where p es rs)) (max (cond b r 0) (largest_where q es rs))
    by true true = omega arith
    by true false = omega arith
    by false true = omega arith
    by false false = omega arith

-- a test that is only made where something holds
where_if : (p : Command → Bool) (b : Bool) (es : List Command) (rs : List ℕ) → largest_where (λ (e : Command). p e && b) es rs ≡ cond b (largest_where p es rs) 0
unfolding largest_where
where_if p b [] rs = by b
  where
    by : (b : Bool) → ◌≡◌ {A = ℕ} 0 (cond b 0 0)
    by true = refl
    by false = refl
where_if p b (e ∷ es) [] = by b
  where
    by : (b : Bool) → ◌≡◌ {A = ℕ} 0 (cond b 0 0)
    by true = refl
    by false = refl
where_if p b (e ∷ es) (r ∷ rs) = rw (where_if p b es rs) (by (p e) b)
  where
    by : (a b : Bool) → max (cond (a && b) r 0) (cond b (largest_where p es rs) 0) ≡ cond b (max (cond a r 0) (largest_where p es rs)) 0
    by true true = refl
    by true false = omega arith
    by false true = refl
    by false false = omega arith

-- of one key, two reads left out
abbrev same_key : Command → Command → Bool
same_key c e = eqb e.key c.key && not (is_read e.kind && is_read c.kind)

same_way : (c : Command) (es : List Command) (rs : List ℕ) → largest_where (same_key c) es rs ≡ same_of c es rs
same_way c es rs = by (is_read c.kind)
  where
    by : (r : Bool) → largest_where (λ (e : Command). eqb e.key c.key && not (is_read e.kind && r)) es rs ≡ cond r (key_of is_no_read c.key es rs) (key_of is_any c.key es rs)
    by true = where_same _ _ (λ e. ap (λ (x : Bool). eqb e.key c.key && not x) (and-true (is_read e.kind))) es rs
    by false = where_same _ _ (λ e. ap (λ (x : Bool). eqb e.key c.key && not x) (and-false (is_read e.kind))) es rs

-- a command for an item
item : (e c : Command) → has_item c.kind ≡ true → are_dependent e c ≡ (not (has_item e.kind) || ((is_insert_or_delete e.kind && is_insert_or_delete c.kind) || same_key c e))
unfolding are_dependent
item e c h = rw h (by (has_item e.kind) (is_insert_or_delete e.kind && is_insert_or_delete c.kind) (same_key c e))
  where
    by : (a w k : Bool) → ((not (a && true) || w) || k) ≡ (not a || (w || k))
    by true true k = refl
    by true false k = refl
    by false w k = refl

-- and one for none
none : (e c : Command) → has_item c.kind ≡ false → are_dependent e c ≡ true
unfolding are_dependent
none e c h = rw h (by (has_item e.kind))
  where
    by : (a : Bool) → ((not (a && false) || (is_insert_or_delete e.kind && is_insert_or_delete c.kind)) || same_key c e) ≡ true
    by true = refl
    by false = refl

pub ways : (c : Command) (es : List Command) (rs : List ℕ) → largest_round c es rs ≡ by_ways c es rs
unfolding largest_round
ways c es rs = by (has_item c.kind) refl
  where
    by : (b : Bool) → has_item c.kind ≡ b → largest_where (λ (e : Command). are_dependent e c) es rs ≡ cond b (max (fence_of es rs) (max (cond (is_insert_or_delete c.kind) (writers_of es rs) 0) (same_of c es rs))) (top_of es rs)
    by true h =
        where_same _ _ (λ e. item e c h) es rs
        ∙ where_or (λ (e : Command). not (has_item e.kind)) (λ (e : Command). (is_insert_or_delete e.kind && is_insert_or_delete c.kind) || same_key c e) es rs
        ∙ rw (where_or (λ (e : Command). is_insert_or_delete e.kind && is_insert_or_delete c.kind) (same_key c) es rs, where_if (λ (e : Command). is_insert_or_delete e.kind) (is_insert_or_delete c.kind) es rs, same_way c es rs)
    by false h = where_same _ _ (λ e. none e c h) es rs

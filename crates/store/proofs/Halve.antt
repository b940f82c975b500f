-- Binary search: what one halving does, in terms of the definition `halve`, whose count of halvings may exceed what the search needs. Assumes
-- nothing.
use Prim.Native.Nat.{ℕ, zero, suc, ◌+◌, ◌-◌, ◌/◌, ◌≤◌}
use native.Mathlib.Omega.{arith}
use mathlib.Core.Bool.{Bool, true, false, cond}
use mathlib.Core.Path.{◌≡◌, refl, sym, ◌∙◌}
use mathlib.Core.List.{List}
use lib.ListN.{get_or}
use lib.Dec.{ltb}
use Rattle.model.specs.Store.{halve}
use Rattle.store.specs.declared.Left.{Left}
use Rattle.store.specs.Find.{Leads}

module _ (keys : List ℕ) (key : ℕ) where
  -- where one place is left, or none, it stays
  pub halve_rest : (n from size : ℕ) → size ≤ 1 → halve n keys key from size ≡ from
  unfolding halve
  halve_rest zero from size h = refl
  halve_rest (suc n) from size h =
      let none : size / 2 ≡ 0 = omega arith in
      let same : from + 0 ≡ from = omega arith in
      let all : size - 0 ≡ size = omega arith in
      let rest = halve_rest n from size h in
      rw (none, same, all) (go (ltb (get_or keys from 0) key) rest)
    where
      go : (b : Bool) → halve n keys key from size ≡ from → halve n keys key (cond b from from) size ≡ from
      go true e = e
      go false e = e

  -- two numbers of halvings that are both enough end alike
  halve_enough : (k n from size : ℕ) → size ≤ k + 1 → size ≤ n + 1 → halve k keys key from size ≡ halve n keys key from size
  unfolding halve
  halve_enough zero n from size h g = sym (halve_rest n from size (omega arith))
  halve_enough (suc k) zero from size h g = halve_rest (suc k) from size (omega arith)
  halve_enough (suc k) (suc n) from size h g = halve_enough k n _ (size - size / 2) (omega arith) (omega arith)

  -- one more changes nothing where the number is enough: so a halving made by hand leads on to the same place
  pub halve_once : (n from size : ℕ) → size ≤ n + 1
      → halve n keys key from size ≡ halve n keys key (cond (ltb (get_or keys (from + size / 2) 0) key) (from + size / 2) from) (size - size / 2)
  unfolding halve
  halve_once n from size h = halve_enough n (suc n) from size h (omega arith)

  -- one halving
  pub leads_once : (left : Left) (from : ℕ) → 1 ≤ left.size
      → from ≡ cond (ltb (get_or keys (left.from + left.size / 2) 0) key) (left.from + left.size / 2) left.from
      → Leads keys key left (record { from = from; size = left.size - left.size / 2 })
  leads_once left from some e = record {
    same = λ n h. rw e (halve_once n left.from left.size h);
    some = omega arith;
    fewer = omega arith;
    inside = rw e (chosen (ltb (get_or keys (left.from + left.size / 2) 0) key));
  }
    where
      chosen : (b : Bool) → cond b (left.from + left.size / 2) left.from + (left.size - left.size / 2) ≤ left.from + left.size
      chosen true = omega arith
      chosen false = omega arith

  -- one halving after another
  pub leads_trans : (a b c : Left) → Leads keys key a b → Leads keys key b c → Leads keys key a c
  leads_trans a b c p q = record {
    same = λ n h. p.same n h ∙ q.same n (omega (arith, p.fewer));
    some = q.some;
    fewer = omega (arith, p.fewer, q.fewer);
    inside = omega (arith, p.inside, q.inside);
  }

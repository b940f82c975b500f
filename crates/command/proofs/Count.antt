-- The worker count after commands, and the largest of a list. Assumes nothing.
use Prim.Native.Nat.{ℕ, zero, suc, ◌≤◌, max}
use mathlib.Core.Path.{◌≡◌, refl}
use mathlib.Core.Bool.{true, and-eq-true_iff, false≢true}
use mathlib.Core.List.{List, [], ◌∷◌}
use mathlib.Core.Logic.{◌⊎◌, inl, inr, ⊎_elim}
use mathlib.Core.Option.{some}
use native.Mathlib.Omega.{arith}
use borrow.Author.Tests.{leb-true}
use lib.Dec.{leb}
use lib.ListN.{get_elem?}
use Rattle.command.specs.declared.Kind.{Kind}
use Rattle.command.specs.declared.Kind.TheVariants.{Insert, Delete, Read, Update, Workers, Checkpoint}
use Rattle.command.specs.declared.Command.{Command}
use Rattle.command.specs.Read.{chute_fits}
use Rattle.command.specs.Dependent.{has_item}
use Rattle.command.specs.Count.{count_with, count_after, largest_count}

-- a command that is for an item keeps the count
pub item_keeps_count : (c : Command) (n : ℕ) → has_item c.kind ≡ true → count_after c n ≡ n
unfolding count_after count_with has_item
item_keeps_count c n = by c.kind
  where
    by : (k : Kind) → has_item k ≡ true → count_with k c.chute n ≡ n
    by Insert h = refl
    by Delete h = refl
    by Read h = refl
    by Update h = refl
    by Workers h = absurd (false≢true h)
    by Checkpoint h = absurd (false≢true h)

-- a command keeps the count, whatever it is, or sets it to one from 1 to 64 that its chute fits
pub count_either : (c : Command) → ((n : ℕ) → count_after c n ≡ n) ⊎ (((n : ℕ) → count_after c n ≡ c.chute) × (chute_fits c.kind c.chute ≡ true → (1 ≤ c.chute) × (c.chute ≤ 64)))
unfolding count_after count_with chute_fits
count_either c = by c.kind
  where
    by : (k : Kind) → ((n : ℕ) → count_with k c.chute n ≡ n) ⊎ (((n : ℕ) → count_with k c.chute n ≡ c.chute) × (chute_fits k c.chute ≡ true → (1 ≤ c.chute) × (c.chute ≤ 64)))
    by Insert = inl (λ n. refl)
    by Delete = inl (λ n. refl)
    by Read = inl (λ n. refl)
    by Update = inl (λ n. refl)
    by Workers = inr (λ n. refl, λ h. let k = (and-eq-true_iff (leb 1 c.chute) (leb c.chute 64)).0 h in (leb-true 1 c.chute k.0, leb-true c.chute 64 k.1))
    by Checkpoint = inl (λ n. refl)

-- so a count from 1 to 64 stays one
pub count_fits : (c : Command) (n : ℕ) → chute_fits c.kind c.chute ≡ true → (1 ≤ n) × (n ≤ 64) → (1 ≤ count_after c n) × (count_after c n ≤ 64)
count_fits c n fits h = ⊎_elim (λ k. rw (k n) h) (λ k. rw (k.0 n) (k.1 fits)) (count_either c)

-- ---- the largest

-- it is at least the count before the list
pub largest_from : (n : ℕ) (cs : List Command) → n ≤ largest_count n cs
unfolding largest_count
largest_from n [] = omega arith
largest_from n (c ∷ cs) = omega (arith, largest_from (max n (count_after c n)) cs)

-- and at least each count that the list sets
pub largest_covers : (n : ℕ) (cs : List Command) (j : ℕ) (c : Command) → get_elem? cs j ≡ some c → (m : ℕ) → m ≤ largest_count n cs → count_after c m ≤ largest_count n cs
unfolding largest_count
largest_covers n [] j c e m h = let z : ◌≡◌ {A = ℕ} 0 1 = cc in absurd (omega arith)
largest_covers n (b ∷ cs) zero c e m h =
    let same : b ≡ c = cc in
    ⊎_elim (λ k. rw (k m) h)
    (λ k. let most = largest_from (max n (count_after b n)) cs in rw (k.0 m, ← k.0 n, ← same) (omega arith)) (count_either c)
largest_covers n (b ∷ cs) (suc j) c e m h = largest_covers (max n (count_after b n)) cs j c e m h

-- a bound of the count before the list and of each count that the list sets bounds it
pub largest_within : (P : ℕ → Type 0) (n : ℕ) (cs : List Command) → P n → ((m k : ℕ) → P m → P k → P (max m k))
    → ((j : ℕ) (c : Command) → get_elem? cs j ≡ some c → (m : ℕ) → P m → P (count_after c m)) → P (largest_count n cs)
unfolding largest_count
largest_within P n [] p both keeps = p
largest_within P n (c ∷ cs) p both keeps = largest_within P (max n (count_after c n)) cs (both n (count_after c n) p (keeps 0 c refl n p)) both (λ j. keeps (suc j))

-- from a larger count on it is the larger of that and what it is from a smaller one
pub largest_max : (n m : ℕ) (cs : List Command) → largest_count (max n m) cs ≡ max n (largest_count m cs)
unfolding largest_count
largest_max n m [] = refl
largest_max n m (c ∷ cs) =
    ⊎_elim
    (λ k. let e : max (max n m) (count_after c (max n m)) ≡ max n (max m (count_after c m)) = rw (k (max n m), k m) (omega arith) in rw e (largest_max n (max m (count_after c m)) cs))
    (λ k. let e : max (max n m) (count_after c (max n m)) ≡ max n (max m (count_after c m)) = rw (k.0 (max n m), k.0 m) (omega arith) in rw e (largest_max n (max m (count_after c m)) cs))
    (count_either c)

-- A part of a list copied to the next place, and then one write, is the list with a value put in or taken out. Assumes nothing.
use Rattle.std.proofs.Common.{◌≡◌, ℕ, suc, ◌+◌, ◌-◌, ◌<◌, ◌≤◌, List, ◌∷◌, ◌++◌, length, take, drop, set, ap, ◌∙◌, append_assoc, add-one, arith, length-append, length-take, length-drop}
use Rattle.std.proofs.lemmas.List.{set_split, take_at, drop_at, take-append-le, take-take, length-take-le}
use Rattle.std.specs.List.{copy_within}
use lib.Seq.{drop-drop}

module _ {A : Type 0} where
  -- a write to the last place of a list's front
  set_end : (a b : List A) (p : ℕ) (v : A) → length a ≡ suc p → set (a ++ b) p v ≡ take p a ++ v ∷ b
  set_end a b p v e =
      let in_front : p ≤ length a = omega arith in
      let in_list : p < length (a ++ b) = simp length-append (omega arith) in
      rw (set_split (a ++ b) p v in_list, take-append-le p a b in_front, drop_at a b (suc p) e)

  -- and to the first place of its back
  set_start : (a b : List A) (p : ℕ) (v : A) → length a ≡ p → 0 < length b → set (a ++ b) p v ≡ a ++ v ∷ drop 1 b
  set_start a b p v e some =
      let in_list : p < length (a ++ b) = simp length-append (omega arith) in
      let rest : drop (suc p) (a ++ b) ≡ drop 1 b = rw (← add-one p, ← drop-drop 1 p (a ++ b), drop_at a b p e) in
      rw (set_split (a ++ b) p v in_list, take_at a b p e, rest)

module _ {A : Type 0} (l : List A) (p n : ℕ) (v : A) where
  pub put_in : p ≤ n → n < length l → set (copy_within l p n (p + 1)) p v ≡ take p l ++ (v ∷ take (n - p) (drop p l)) ++ drop (n + 1) l
  put_in h room =
      let front : length (take (p + 1) l) ≡ suc p = length-take-le (p + 1) l (omega arith) ∙ add-one p in
      let back : p + 1 + (n - p) ≡ n + 1 = omega arith in
      let same : take p (take (p + 1) l) ≡ take p l = take-take p (p + 1) l (omega arith) in
      simp append_assoc (rw (back, set_end (take (p + 1) l) _ p v front, same))

  pub taken_out : p < n → n ≤ length l → set (copy_within l (p + 1) n p) (n - 1) v ≡ take p l ++ take (n - (p + 1)) (drop (p + 1) l) ++ (v ∷ drop n l)
  taken_out h room =
      let front : length (take p l ++ take (n - (p + 1)) (drop (p + 1) l)) ≡ n - 1 = simp (length-append, length-take, length-drop) (omega arith) in
      let back : p + (n - (p + 1)) ≡ n - 1 = omega arith in
      let some : 0 < length (drop (n - 1) l) = simp length-drop (omega arith) in
      let rest : drop 1 (drop (n - 1) l) ≡ drop n l = rw (drop-drop 1 (n - 1) l) (ap (λ (k : ℕ). drop k l) (omega arith)) in
      rw (back, set_start _ (drop (n - 1) l) (n - 1) v front some, rest)

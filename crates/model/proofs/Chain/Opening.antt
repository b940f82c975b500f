-- The opening state meets the invariant: the chain is empty, every node is free, nothing is loaded or answered. Assumes nothing.
use Rattle.std.specs.Prelude.{ℕ, zero, suc, ◌+◌, ◌≤◌, ◌<◌, ◌≡◌, refl, true, false, List, [], ◌∷◌, ◌⊎◌}
use Rattle.std.proofs.Common.{arith, add-one, sym, ap, ◌∙◌, inl, inr, ⊎_elim, le-leb, lt-ltb, le-ltb}
use Rattle.std.proofs.Math.Option.{none, some}
use Rattle.model.specs.Setup.{Setup}
use Rattle.model.specs.Graph.{first_next, no_node, opened_graph}
use Rattle.model.specs.Step.{opened}
use Rattle.model.specs.Statement.{Accepted}
use Rattle.command.proofs.Tests.{true_false, none_some, eqb_cases}
use Rattle.model.proofs.Consistent.{opened_consistent}
use Rattle.model.proofs.Chain.Invariant.{Ghost, Inv, In, NoRepeat, ChainFrom}

-- the k numbers from a on
unfoldable pub count_from : ℕ → ℕ → List ℕ
count_from a zero = []
count_from a (suc k) = a ∷ count_from (suc a) k

in_bounds : (x a k : ℕ) → In x (count_from a k) → (a ≤ x) × (x < a + k)
unfolding count_from
in_bounds x a zero h = absurd h
in_bounds x a (suc k) h = ⊎_elim (λ e. omega arith) (λ r. let b = in_bounds x (suc a) k r in omega arith) h

bounds_in : (x a k : ℕ) → a ≤ x → x < a + k → In x (count_from a k)
unfolding count_from
bounds_in x a zero l h = absurd (omega arith)
bounds_in x a (suc k) l h = ⊎_elim (λ e. inl e.0) (λ n. inr (bounds_in x (suc a) k (omega (arith, n.0)) (omega arith))) (eqb_cases x a)

counts_once : (a k : ℕ) → NoRepeat (count_from a k)
unfolding count_from
counts_once a zero = tt
counts_once a (suc k) = ((λ h. let b = in_bounds a (suc a) k h in omega arith), counts_once (suc a) k)

-- "at first 1, 2 and so on": from each node the next index leads to the next number, and from the last to 0
abbrev first_of : ℕ → ℕ → ℕ
first_of a zero = 0
first_of a (suc k) = a

next_counts : (size a k : ℕ) → 1 ≤ a → a + suc k ≡ suc size → first_next size a ≡ first_of (suc a) k
unfolding first_next
next_counts size a zero l h = rw (le-leb 1 a l, le-ltb a size (omega arith))
next_counts size a (suc k) l h = rw (le-leb 1 a l, lt-ltb a size (omega arith)) (add-one a)

counts_chain : (size a k : ℕ) → 1 ≤ a → a + k ≡ suc size → ChainFrom (first_next size) (first_of a k) (count_from a k)
unfolding count_from
counts_chain size a zero l h = refl
counts_chain size a (suc k) l h = (refl, rw (next_counts size a k l h) (counts_chain size (suc a) k (omega arith) (omega arith)))

abbrev pub opened_ghost : Setup → Ghost
opened_ghost o = record { linked = λ n. false; frees = count_from 1 o.size; written = λ c. false; removed = λ c. false }

no : {A : Type 0} → false ≡ true → A
no e = absurd (true_false true refl (sym e))

none_is : {A : Type 0} {x : ℕ} → none ≡ some x → A
none_is e = absurd (none_some none refl e)

first_is_1 : (size : ℕ) → 1 ≤ size → first_of 1 size ≡ 1
first_is_1 zero h = absurd (omega arith)
first_is_1 (suc k) h = refl

pub opened_meets : (o : Setup) → Accepted o → Inv o (opened o) (opened_ghost o)
unfolding opened opened_graph no_node
opened_meets o acc = record {
  order = record {
    head_seq = refl;
    head_out = refl;
    linked_used = λ x e. no e;
    used_size = λ x u. absurd (omega arith);
    distinct = λ x y u. absurd (omega arith);
    below = λ x. omega arith;
    loaded_count = omega arith;
    last = λ x on e z h. no h;
    next_linked = λ x on m. absurd (m (head_next x on));
    next_later = λ x on m. absurd (m (head_next x on));
    next_first = λ x on m. absurd (m (head_next x on));
  };
  free_list = record {
    chain = rw (first_is_1 o.size acc.size.0) at (counts_chain o.size 1 o.size (omega arith) (omega arith));
    no_repeat = counts_once 1 o.size;
    is_unused = λ x h. let b = in_bounds x 1 o.size h in (b.0, omega arith, refl);
    has_unused = λ x l h e. bounds_in x 1 o.size l (omega arith);
  };
  standing = record { on = λ t x e. none_is e; alone = λ t u x e. none_is e; locks = λ t x e. none_is e; held = λ x e. no e };
  executing = record { own_linked = λ t x e. none_is e; own_executing = λ t x e. none_is e; alone = λ t u x e. none_is e; held = λ x e. no e; used = λ x e. no e };
  walking = record { before = λ t x a e. none_is e };
  clearing = record { out = λ t x e. none_is e; used = λ t x e. none_is e; own_executing = λ t x e. none_is e; alone = λ t u x e. none_is e; past = λ t x a z e. none_is e };
  loading = record { loader = λ t x e. none_is e; newest = λ t x e. none_is e; used = λ t x e. none_is e; out = λ t x e. none_is e; waiting = λ t x e. none_is e; ends = λ t x e. none_is e };
  partition = record { one_of = λ x u. absurd (omega arith) };
  sets = record { unused_empty = λ x y e. refl; executing_empty = λ x y e. refl; linked_sound = λ x y e. no e; linked_complete = λ x y e. no e; loading_sound = λ t x l y e. none_is e; loading_complete = λ t x l y e. none_is e };
  progress = record { done_written = λ t x e. none_is e; written_done = λ c e. no e; removed_written = λ c e. no e; removed_loaded = λ c e. no e; removed_gone = λ x u. refl; accounted = λ c l h. absurd (omega arith) };
  service = opened_consistent o (λ n. 0);
  roles = record { loader = refl; worker = λ t h. refl; rest = λ t h. refl };
}
  where
    -- the head is all that a thread can stand on, and nothing is behind it
    head_next : (x : ℕ) → (x ≡ 0) ⊎ (false ≡ true) → first_next o.size x ≡ 0
    head_next x = ⊎_elim (λ e. ap (first_next o.size) e ∙ at_head) (λ e. no e)
      where
        at_head : first_next o.size 0 ≡ 0
        at_head = refl

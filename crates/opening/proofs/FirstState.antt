-- Laws of opening: lists of zeros, the first free list, and the state that arrays of zeros show. Assumes nothing.
use Prim.Native.Nat.{ℕ, zero, suc, ◌+◌, ◌%◌, ◌≤◌, ◌<◌}
use native.Mathlib.Nat.{sub-zero}
use native.Mathlib.Omega.{arith}
use mathlib.Core.Path.{◌≡◌, refl, sym, ap, ◌∙◌, fun_ext}
use mathlib.Core.Bool.{false}
use mathlib.Core.List.{List, [], ◌∷◌}
use mathlib.Core.Logic.{⊎_elim}
use lib.ListN.{length, get_or, set, replicate, length-set, length-replicate, get_or-replicate, get_or-eq_default}
use lib.Seq.{get_or-set_same, get_or-set_other}
use borrow.Author.Tests.{lt-ltb, le-ltb, le-leb}
use Rattle.node_set.specs.Members.{member}
use Rattle.node_set.proofs.Bits.{bit_of_zero}
use Rattle.model.specs.declared.Thread.TheVariants.{Idle}
use Rattle.model.specs.Store.{Store, lay_out}
use Rattle.model.specs.Image.{image_length, empty_image}
use Rattle.model.specs.Serial.{Entry}
use Rattle.model.specs.Setup.{Setup}
use Rattle.model.specs.Graph.{no_node, first_next, opened_graph}
use Rattle.model.specs.Service.{opened_service}
use Rattle.model.specs.Step.{node, opened}
use Rattle.command.proofs.Tests.{eqb_cases}
use Rattle.model.specs.declared.Counters.{Counters}
use Rattle.store.specs.Lists.{store_of}
use Rattle.byte_fields.specs.Bytes.{tabulate}
use Rattle.state_bytes.specs.Layout.{all_lists, state_bytes, lists_of}
use Rattle.state_bytes.specs.Written.{Shown}
use Rattle.opening.specs.Calls.{Source, first_entries}
use Rattle.byte_fields.proofs.Bytes.{below_or_past}

-- ---- lists of one value

-- a list of one value is the tabulated one
pub tabulate_constant {ℓ} : {A : Type ℓ} (n : ℕ) (a : A) → tabulate n (λ i. a) ≡ replicate n a
unfolding tabulate
tabulate_constant zero a = refl
tabulate_constant {A} (suc n) a = ap {B = List A} (λ r. a ∷ r) (tabulate_constant n a)

-- it has this value everywhere, also past its end where that is the default
pub constant_at {ℓ} : {A : Type ℓ} (n : ℕ) (a : A) (i : ℕ) → get_or (replicate n a) i a ≡ a
constant_at n a i =
    below_or_past i n
    (λ h. get_or-replicate n i a a h)
    (λ h. get_or-eq_default (replicate n a) a (rw (length-replicate n a) h))

-- of one length, all zeros are the same
pub as_many_zeros : {m n : ℕ} → m ≡ n → ◌≡◌ {A = List ℕ} (replicate m 0) (replicate n 0)
as_many_zeros e = ap (λ (k : ℕ). replicate k 0) e

-- ---- the first free list

-- inside, the next node; the last node, the head and nodes past the size have 0
pub next_inside : (size n : ℕ) → 1 ≤ n → n < size → first_next size n ≡ n + 1
unfolding first_next
next_inside size n h k = rw (le-leb 1 n h, lt-ltb n size k)

pub next_of_head : (size : ℕ) → first_next size 0 ≡ 0
unfolding first_next
next_of_head size = refl

pub next_past : (size n : ℕ) → size ≤ n → first_next size n ≡ 0
unfolding first_next
next_past size zero h = refl
next_past size (suc n) h = rw (le-leb 1 (suc n) (omega arith), le-ltb (suc n) size h)

-- a size more gives the old last node a next one, and changes no other
next_more : (size n : ℕ) → 1 ≤ size → (n ≡ size → ⊥) → first_next size n ≡ first_next (size + 1) n
next_more size zero h other = next_of_head size ∙ sym (next_of_head (size + 1))
next_more size (suc n) h other =
    below_or_past (suc n) size
    (λ k. next_inside size (suc n) (omega arith) k ∙ sym (next_inside (size + 1) (suc n) (omega arith) (omega arith)))
    (λ k. let past : size < suc n = omega (arith, other) in next_past size (suc n) k ∙ sym (next_past (size + 1) (suc n) (omega arith)))

-- Next indexes of a graph of some size, in an array of 151.
pub record IsFirst (size : ℕ) (next : List ℕ) : Type 0 where
  pub some_node : 1 ≤ size
  pub long : length next ≡ 151
  pub is : (n : ℕ) → get_or next n 0 ≡ first_next size n

-- of one node they are all 0
pub first_none : IsFirst 1 (replicate 151 0)
first_none = record {
  some_node = omega arith;
  long = length-replicate {A = ℕ} 151 0;
  is = λ n. constant_at 151 0 n ∙ sym (below_or_past n 1 (λ h. ap (first_next 1) (omega arith) ∙ next_of_head 1) (next_past 1 n));
}

-- one store makes them those of a node more
pub first_more : (size : ℕ) (next : List ℕ) → size ≤ 150 → IsFirst size next → IsFirst (size + 1) (set next size (size + 1))
first_more size next small h = record {
  some_node = omega arith;
  long = length-set next size (size + 1) ∙ h.long;
  is = λ n. ⊎_elim
      (λ e. rw e.0 (get_or-set_same next size (size + 1) 0 (omega (arith, h.long)) ∙ sym (next_inside (size + 1) size h.some_node (omega arith))))
      (λ e. get_or-set_other next size n (size + 1) 0 e.0 ∙ h.is n ∙ next_more size n h.some_node e.0)
      (eqb_cases n size);
}

-- ---- the opening state

-- an array of a set with no member has no member anywhere
no_members : (empty : List ℕ) → ((y : ℕ) → member empty y ≡ false) → (n y : ℕ) → member (get_or (replicate 151 empty) n []) y ≡ false
unfolding member
no_members empty none n y =
    below_or_past n 151
    (λ h. rw (get_or-replicate 151 n empty [] h) (none y))
    (λ h. rw (get_or-eq_default (replicate 151 empty) [] {n = n} (rw (length-replicate 151 empty) h)) (bit_of_zero (y % 64)))

-- the counters at opening
abbrev pub first_counters : ℕ → ℕ → Counters
first_counters workers used = record { free = node 1; loaded = record { 0 = 0 }; used = used; limit = workers }

-- the arrays of the opening: the first free list, and everything else 0, false or idle
pub opened_shown : (o : Setup) (workers used : ℕ) (next empty : List ℕ) → ((y : ℕ) → member empty y ≡ false) → o.workers ≡ workers → length o.entries ≡ used → ((n : ℕ) → get_or next n 0 ≡ first_next o.size n)
    → Shown (first_counters workers used) next (replicate 151 0) (replicate 151 false) (replicate 151 false) (replicate 151 empty) (replicate 65 Idle) (opened o)
unfolding opened opened_graph opened_service no_node lay_out
opened_shown o workers used next empty none count entries is = record {
  graph_is = record {
    next_is = fun_ext (λ n. sym (is n));
    seq_is = fun_ext (λ n. sym (constant_at 151 0 n));
    executing_is = fun_ext (λ n. sym (constant_at 151 false n));
    locked_is = fun_ext (λ n. sym (constant_at 151 false n));
    waits_is = fun_ext (λ n. fun_ext (λ y. sym (no_members empty none n y)));
  };
  threads_are = λ t. sym (constant_at 65 Idle t);
  free_is = refl;
  loaded_is = refl;
  used_is = entries;
  limit_is = count;
}

-- lists are the same where each is
same_lists : {s s' k k' c c' a a' i i' : List ℕ} → s ≡ s' → k ≡ k' → c ≡ c' → a ≡ a' → i ≡ i' → all_lists s k c a i ≡ all_lists s' k' c' a' i'
same_lists s k c a i = rw (s, k, c, a, i)

-- a store of zeros is that of no entry
pub empty_store : (capacity : ℕ) {keys chutes : List ℕ} → keys ≡ replicate capacity 0 → chutes ≡ replicate capacity 0 → store_of keys chutes 0 ≡ lay_out capacity []
unfolding lay_out
empty_store capacity k c = let whole = as_many_zeros (sym (sub-zero capacity)) in rw (k ∙ whole, c ∙ whole)

-- the lists of the opening: its state's bytes, its entries, and zeros
pub opened_lists_are : (o : Setup) {state keys chutes answers image : List ℕ} {used : ℕ} → state ≡ state_bytes o (opened o) → store_of keys chutes used ≡ lay_out o.capacity o.entries
    → answers ≡ replicate (length o.commands) 0 → image ≡ empty_image o.capacity → all_lists state keys chutes answers image ≡ lists_of o (opened o)
unfolding lists_of opened opened_service
opened_lists_are o s st a i =
    same_lists s (ap (λ (x : Store). x.keys) st) (ap (λ (x : Store). x.chutes) st) (a ∙ sym (tabulate_constant (length o.commands) 0)) i

-- a store laid out from the first entries is so by the capacity's own name, and tells how many there are
pub stored_at : {st : Store} {n capacity : ℕ} (source : Source) → n ≡ capacity → st ≡ lay_out n (first_entries n source) → st ≡ lay_out capacity (first_entries capacity source)
stored_at source e h = rw e at h

pub used_is : {keys chutes : List ℕ} {used : ℕ} (capacity : ℕ) (es : List Entry) → store_of keys chutes used ≡ lay_out capacity es → length es ≡ used
unfolding lay_out
used_is capacity es h = sym (ap (λ (st : Store). st.used) h)

-- an image of zeros
pub zeros_are : {n : ℕ} (capacity : ℕ) → n ≡ image_length capacity → ◌≡◌ {A = List ℕ} (replicate n 0) (empty_image capacity)
unfolding empty_image
zeros_are capacity e = as_many_zeros e

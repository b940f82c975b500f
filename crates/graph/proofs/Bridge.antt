-- The arrays as functions on node numbers: a store is an update, and what a set's new members are. Assumes nothing.
use Prim.Native.Nat.{ℕ, ◌<◌, ◌≤◌}
use mathlib.Core.Path.{◌≡◌, refl, ap, ◌∙◌, fun_ext}
use mathlib.Core.Bool.{Bool, false, not, ◌&&◌, and-true, and-false}
use mathlib.Core.List.{List, []}
use mathlib.Core.Logic.{⊎_elim}
use lib.ListN.{length, get_or, set}
use lib.Dec.{eqb}
use lib.Seq.{get_or-set_same, get_or-set_other}
use Rattle.node_set.specs.Members.{member}
use Rattle.model.specs.Upd.{upd}
use Rattle.model.specs.Graph.{no_node}
use Rattle.model.proofs.Upd.{upd_at, upd_other, upd_cases, upd_map}
use Rattle.command.proofs.Tests.{eqb_cases}
use Rattle.graph.specs.declared.Graph.{Graph}
use Rattle.graph.specs.Arrays.{numbers, sets, Nodes, Shown, shown_graph}

-- Equal functions have equal values.
pub value : {A : Type 0} {f g : ℕ → A} → f ≡ g → (n : ℕ) → f n ≡ g n
value e n = ap (λ h. h n) e

-- A store within the list is an update: at the index both have the value, at any other both have what was there.
pub set_is_upd : {A : Type 0} (l : List A) (i : ℕ) (v d : A) → i < length l → (λ (j : ℕ). get_or (set l i v) j d) ≡ upd (λ (j : ℕ). get_or l j d) i v
set_is_upd l i v d within =
    fun_ext (λ j. ⊎_elim
    (λ h. rw (h.0, upd_at (λ (k : ℕ). get_or l k d) i v i refl) (get_or-set_same l i v d within))
    (λ h. rw (upd_other (λ (k : ℕ). get_or l k d) i v j h.0) (get_or-set_other l i j v d h.0))
    (eqb_cases j i))

-- A stored set is an update by its members.
pub set_is_upd_members : (l : List (List ℕ)) (i : ℕ) (v : List ℕ) → i < length l → sets (set l i v) ≡ upd (sets l) i (member v)
set_is_upd_members l i v within =
    let members : (ℕ → List ℕ) → ℕ → ℕ → Bool = λ f n. member (f n) in
    ap members (set_is_upd l i v [] within) ∙ upd_map member (λ (j : ℕ). get_or l j []) i v

-- Next indexes stay numbers of nodes where one of them becomes the number of a node.
pub nodes_stored : (next next' : List ℕ) (i v : ℕ) → Nodes next → v ≤ 150 → numbers next' ≡ upd (numbers next) i v → Nodes next'
nodes_stored next next' i v nodes small stored n =
    rw (value stored n) (⊎_elim (λ h. rw h.1 small) (λ h. rw h.1 (nodes n)) (upd_cases (numbers next) i v n))

-- The members of a set without a node are the set's, updated at the node.
pub removed_is_upd : (set without : List ℕ) (own : ℕ) → ((n : ℕ) → member without n ≡ (member set n && not (eqb n own)))
    → member without ≡ upd (member set) own false
removed_is_upd set without own removed =
    fun_ext (λ n. ⊎_elim
    (λ h. rw (removed n, h.1, upd_at (member set) own false n h.0) (and-false (member set n)))
    (λ h. rw (removed n, h.1, upd_other (member set) own false n h.0) (and-true (member set n)))
    (eqb_cases n own))

-- The members of a set that has none are no nodes.
pub empty_is_none : (set : List ℕ) → ((n : ℕ) → member set n ≡ false) → member set ≡ no_node
unfolding no_node
empty_is_none set none = fun_ext none

-- A table shows the graph that is made of its arrays.
pub shown_shows : (graph : Graph) (free loaded : ℕ) → Shown (shown_graph graph free loaded) graph
shown_shows graph free loaded = record { next_is = refl; seq_is = refl; executing_is = refl; locked_is = refl; waits_is = refl }

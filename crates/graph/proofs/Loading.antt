-- The cases of the loader's walk: from what the tests found and what was stored, the model's step. Assumes nothing.
use Prim.Native.Nat.{ℕ, ◌≤◌}
use mathlib.Core.Path.{◌≡◌, refl, sym, ap, ◌∙◌, fun_ext}
use mathlib.Core.Bool.{Bool, true, false, cond, ◌&&◌, ◌||◌, or-true, or-false}
use mathlib.Core.List.{List}
use mathlib.Core.Logic.{⊎_elim}
use lib.ListN.{length, set}
use lib.Dec.{eqb, ltb}
use borrow.Author.Tests.{eq-eqb, ne_eqb}
use Rattle.node_set.specs.declared.Node.{Node}
use Rattle.node_set.specs.Members.{member}
use Rattle.model.specs.declared.Thread.TheVariants.{Idle, Loading}
use Rattle.model.specs.Upd.{upd}
use Rattle.model.specs.Setup.{both_dependent}
use Rattle.model.specs.Graph as Model
use Rattle.model.specs.Graph.{graph_of, set_locked, set_executing, set_next, set_waits}
use Rattle.model.specs.Step.{node, command_of, move_to, step_on, link, add_dependence, loader_walk}
use Rattle.model.proofs.Upd.{upd_at, upd_other, upd_id}
use Rattle.command.proofs.Tests.{eqb_cases}
use Rattle.graph.specs.declared.Graph.{Graph}
use Rattle.graph.specs.Arrays.{numbers, flags, sets, with_locked, SteppedOn, Linked}
use Rattle.graph.specs.Items.{kept_at}
use Rattle.graph.specs.Memory.{AddsDependence, LoaderWalks}
use Rattle.graph.proofs.Bridge.{value}
use Rattle.graph.proofs.Steps.{stepped}

-- a graph with other sets
abbrev with_waits : (ℕ → ℕ → Bool) → Model.Graph → Model.Graph
with_waits waits g = graph_of g.next g.seq g.executing g.locked waits g.free g.loaded

-- a choice between two graphs that differ in their sets is a choice between the sets
sets_picked : (b : Bool) (n : ℕ) (set : ℕ → Bool) (g : Model.Graph) → cond b (set_waits n set g) g ≡ with_waits (cond b (upd g.waits n set) g.waits) g
unfolding set_waits
sets_picked true n set g = refl
sets_picked false n set g = refl

-- a set with a node is the set updated by "a member" there
pub added_is_upd : (set with : List ℕ) (y : ℕ) → ltb y 192 ≡ true → ((n : ℕ) → member with n ≡ (member set n || (eqb n y && ltb n 192)))
    → member with ≡ upd (member set) y true
added_is_upd set with y small added =
    fun_ext (λ n. ⊎_elim
    (λ h. rw (added n, h.1, h.0, small, upd_at (member set) y true y refl) (or-true (member set y)))
    (λ h. rw (added n, h.1, upd_other (member set) y true n h.0) (or-false (member set n)))
    (eqb_cases n y))

-- the walk, with y the next node
module _ (at own : Node) (graph : Graph) (y : ℕ) (next_is : y ≡ numbers graph.next at.0) where
  -- at the end of the chain: what `link` stored is the model's link
  pub loader_links : (graph' : Graph) → y ≡ 0 → Linked at.0 own.0 graph graph' → LoaderWalks at own graph Idle graph'
  unfolding loader_walk link move_to set_locked set_executing set_next
  loader_links graph' end linked o s ne ex lo wa kept th =
      rw (value ne at.0 ∙ sym next_is, eq-eqb y 0 end, linked.next_is, linked.executing_is, linked.locked_is, linked.others.1, ← ne, ← ex, ← lo, ← wa)

  module _ (more : y ≡ 0 → ⊥) where
    -- at a locked node: nothing changes
    pub loader_waits : flags graph.locked y ≡ true → LoaderWalks at own graph (Loading at own) graph
    unfolding loader_walk move_to
    loader_waits locked_y o s ne ex lo wa kept th =
        rw (value ne at.0 ∙ sym next_is, ne_eqb y 0 more, value lo y ∙ locked_y, upd_id s.threads 0 (Loading at own) (sym th), ← ne, ← ex, ← lo, ← wa)

    -- at an unlocked node: the kept commands are those of the sequence numbers, so the same sets are picked
    pub loader_steps : (g graph' : Graph) → SteppedOn at.0 y graph g → AddsDependence own.0 y g graph' → length graph.locked ≡ 151 → at.0 ≤ 150 → y ≤ 150 → own.0 ≤ 150
        → flags graph.locked y ≡ false → LoaderWalks at own graph (Loading (node y) own) graph'
    unfolding loader_walk add_dependence both_dependent command_of step_on move_to set_locked set_waits
    loader_steps g graph' on added long at_in y_in own_in unlocked_y o s ne ex lo wa kept th =
        let added' : AddsDependence own.0 y (with_locked (set (set graph.locked y true) at.0 false) graph) graph' = rw on at added in
        let dependent : Bool = both_dependent (kept_at graph.items y) (kept_at graph.items own.0) in
        rw (
          ne,
          ex,
          lo,
          wa,
          ← next_is,
          ne_eqb y 0 more,
          unlocked_y,
          added'.waits_is,
          added'.others.1,
          added'.others.2,
          added'.others.3,
          stepped graph at.0 y long at_in y_in,
          ← kept y y_in,
          ← kept own.0 own_in,
        )
        (ap (λ (g : Model.Graph). move_to 0 (Loading (node y) own) g s)
        (sets_picked dependent own.0 (upd (sets graph.waits own.0) y true) (step_on at.0 y (graph_of (numbers graph.next) s.graph.seq (flags graph.executing) (flags graph.locked) (sets graph.waits) s.graph.free s.graph.loaded))))

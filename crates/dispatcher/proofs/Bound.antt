-- How many steps may be needed, from the state bytes. Assumes nothing.
use Prim.Native.Nat.{ℕ, suc, ◌+◌, ◌-◌, ◌*◌, ◌≤◌}
use native.Mathlib.Omega.{arith}
use mathlib.Core.Path.{◌≡◌, sym, ap, ap₂, ◌∙◌, subst}
use mathlib.Core.Bool.{Bool, not}
use mathlib.Core.List.{List}
use lib.ListN.{length}
use lib.Dec.{eqb}
use borrow.Author.Tests.{lt-ltb}
use Rattle.node_set.specs.Members.{count_below}
use Rattle.node_set.proofs.Below.{same_tests_same_count}
use Rattle.byte_fields.specs.Bytes.{number_at}
use Rattle.command.specs.Read.{commands_in}
use Rattle.model.specs.Dispatch.{steps_needed, commands_left}
use Rattle.state_bytes.specs.Layout.{Lists, setup_in, state_in, count_in}
use Rattle.dispatcher.specs.Calls.{NeededIn, needed_now}

-- whether a node has a command
abbrev pub has_one : List ℕ → ℕ → Bool
has_one b n = not (eqb (number_at 2 (165 + 2 * n) b) 0)

-- the nodes of the graph have the state's sequence numbers, for there are at most 151
used_are : (l : Lists) (size : ℕ) → size ≤ 150 → count_below (suc size) (has_one l.state) ≡ count_below (suc size) (λ n. not (eqb ((state_in l).graph.seq n) 0))
unfolding state_in
used_are l size h = same_tests_same_count (suc size) _ _ (λ n below. rw (lt-ltb n 151 (omega arith)))

-- what is read of state bytes for the bound
pub record Parts (b : List ℕ) (left used size largest : ℕ) : Type 0 where
  pub left_is : left ≡ number_at 2 6 b - number_at 2 8 b
  pub used_is : used ≡ count_below (suc size) (has_one b)
  pub size_is : size ≡ number_at 1 1 b
  pub size_fits : size ≤ 150
  pub largest_is : largest ≡ number_at 1 3 b

module _ {left used size largest : ℕ} where
  -- the bound's parts are those of the state that the lists hold
  needed_of : (l : Lists) (commands : List ℕ) → Parts l.state left used size largest → length (commands_in commands) ≡ count_in l.state
      → (left + used + largest) * (3 * size + 6) ≡ needed_now l commands
  unfolding needed_now steps_needed commands_left setup_in count_in state_in
  needed_of l commands p count =
      let loaded = ap (λ (n : ℕ). n - number_at 2 8 l.state) (sym count) in
      let nodes = ap (λ (n : ℕ). count_below (suc n) (λ n. not (eqb ((state_in l).graph.seq n) 0))) p.size_is in
      ap₂ ◌*◌ (ap₂ ◌+◌ (ap₂ ◌+◌ (p.left_is ∙ loaded) (p.used_is ∙ used_are l size p.size_fits ∙ nodes)) p.largest_is)
      (ap (λ (n : ℕ). 3 * n + 6) p.size_is)

  -- and so of any lists with these bytes
  pub needed_in : {b : List ℕ} → Parts b left used size largest → NeededIn b ((left + used + largest) * (3 * size + 6))
  needed_in p l commands same =
      subst (λ (b : List ℕ). Parts b left used size largest → length (commands_in commands) ≡ count_in b → (left + used + largest) * (3 * size + 6) ≡ needed_now l commands) same
      (needed_of l commands) p

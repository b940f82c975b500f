-- An accepted opening has numbers that the layout holds, and the state that it opens with has the shape. Assumes nothing.
use Rattle.std.specs.Prelude.{ℕ, ◌≤◌, refl, false, ◌&&◌, leb, ltb}
use Rattle.std.proofs.Common.{arith, ltb-true}
use Rattle.std.proofs.Math.Bool.{and-eq-true_iff}
use Rattle.model.specs.Serial.{Stored}
use Rattle.model.specs.Setup.{Setup}
use Rattle.model.specs.Graph.{first_next, no_node, opened_graph}
use Rattle.model.specs.Service.{opened_service}
use Rattle.model.specs.Step.{opened}
use Rattle.model.specs.Statement.{Accepted}
use Rattle.command.proofs.Tests.{true_false, cond_cases}
use Rattle.model.proofs.Formed.{NumberAt, SetupFormed, Formed}
use Rattle.model.proofs.Formed.Store.{lay_out_formed}
use Rattle.model.proofs.Service.{largest_fits}
use Rattle.model.proofs.Image.{empty_length}

-- the tests of an accepted opening are those of the layout, or narrower
pub accepted_formed : (o : Setup) → Accepted o → SetupFormed o
accepted_formed o acc = record {
  size = acc.size.1;
  workers = acc.workers.1;
  largest = (largest_fits o acc).1;
  capacity = acc.capacity.1;
  count = acc.count;
  chutes = acc.chutes;
}

-- a node's first next index is a node's number, and 0 past the graph size
first_next_formed : (size n : ℕ) → size ≤ 150 → NumberAt size n (first_next size n)
unfolding first_next
first_next_formed size n h =
    cond_cases (NumberAt size n) (leb 1 n && ltb n size)
    (λ e. let l = ltb-true n size ((and-eq-true_iff (leb 1 n) (ltb n size)).0 e).1 in (omega arith, λ p. absurd (omega arith))) (λ _. (omega arith, λ _. refl))

-- everything is 0, idle or empty, but the free list, which starts at node 1, and the store, which holds the first entries
pub opened_formed : (o : Setup) → 1 ≤ o.size → 1 ≤ o.workers → Stored o.capacity o.entries → SetupFormed o → Formed o (opened o)
unfolding opened opened_graph opened_service no_node
opened_formed o one some stored fit = record {
  graph = record {
    next = λ n. first_next_formed o.size n fit.size;
    seq = λ n. (omega arith, λ _. refl);
    executing = λ n _. refl;
    locked = λ n _. refl;
    waits = λ n. (λ y e. absurd (true_false false e refl), λ y _. refl);
    free = one;
    loaded = omega arith;
  };
  threads = λ t. (tt, λ _. refl, λ _. refl, λ _. refl);
  service = record { store = lay_out_formed o.capacity o.entries stored; answers = λ c. (λ _. refl, λ _. refl); limit = (some, fit.workers); image = empty_length o.capacity };
}

-- `threads::worker_thread::worker_step` meets its contract, by the worker's state. Assumes nothing.
use Prim.Native.Nat.{◌≤◌}
use mathlib.Core.Path.{◌≡◌, sym, ◌∙◌}
use mathlib.Core.Bool.{true}
use native.Mathlib.Omega.{arith}
use Rattle.model.specs.Service.{in_one_step}
use Rattle.graph.specs.Items.{item_of}
use Rattle.threads.proofs.Readiness.{from_known}
use Rattle.threads.proofs.WorkerSteps.{worker_waits, idle_waits, idle_enters, written_enters, one_step_command, holding_looks_up, holding_writes, looked_up_writes, searching_steps, walking_steps, clearing_steps}
use Rattle.threads.proofs.worker_thread.worker_step.Goals as goal

pub returns-then-not-allowed : goal.returns-then-not-allowed
returns-then-not-allowed c =
    λ list t other al. idle_waits _ _ other _ _ c.in-Idle.is (al ∙ c.if-not-allowed.true)

pub search-thread-requires : goal.search-thread-requires
search-thread-requires c =
    (c.requires.nodes, rw c.in-Searching.is at c.requires.within)

pub item-item-requires : goal.item-item-requires
item-item-requires c =
    rw c.in-Holding.is at c.requires.within

pub place-place-requires : goal.place-place-requires
place-place-requires c =
    rw c.in-Holding.is at c.requires.within

pub write_read-requires : goal.write_read-requires
write_read-requires c =
    let is_read : in_one_step (item_of c.item-item.result) ≡ true = sym c.in_one_step.ensures ∙ c.if-in_one_step.true in
    let within : c.in-Holding.own.0 ≤ 150 = rw c.in-Holding.is at c.requires.within in
    let command = one_step_command _ is_read in
    rw c.place-place.ensures (c.requires.placed c.in-Holding.own.0 command.0 within (sym c.item-item.ensures ∙ command.1))

pub returns-then-in_one_step : goal.returns-then-in_one_step
returns-then-in_one_step c =
    let is_read : in_one_step (item_of c.item-item.result) ≡ true = sym c.in_one_step.ensures ∙ c.if-in_one_step.true in
    λ list t other al. from_known c.in-Holding.is (λ ready.
    holding_writes _ _ other _ c.in-Holding.own _ c.item-item.ensures ready _ c.look_up-found.ensures is_read _ c.place-place.ensures _ (c.write_read.ensures _ _ _ _ is_read) c.write_read.auto.answers)

pub item-item-requires-in-LookedUp : goal.item-item-requires-in-LookedUp
item-item-requires-in-LookedUp c =
    rw c.in-LookedUp.is at c.requires.within

pub place-place-requires-in-LookedUp : goal.place-place-requires-in-LookedUp
place-place-requires-in-LookedUp c =
    rw c.in-LookedUp.is at c.requires.within

pub save-requires : goal.save-requires
save-requires c =
    c.requires.imaged

pub write-used-requires : goal.write-used-requires
write-used-requires c =
    λ command e.
    let within : c.in-LookedUp.own.0 ≤ 150 = rw c.in-LookedUp.is at c.requires.within in
    rw c.place-place-in-LookedUp.ensures (c.requires.placed c.in-LookedUp.own.0 command within (sym c.item-item-in-LookedUp.ensures ∙ e))

pub returns-in-LookedUp : goal.returns-in-LookedUp
returns-in-LookedUp c =
    λ list t other al. rw (c.limit_after-limit.ensures, c.save.ensures) (from_known c.in-LookedUp.is
    (looked_up_writes _ _ other _ c.in-LookedUp.own _ c.item-item-in-LookedUp.ensures _ c.place-place-in-LookedUp.ensures c.in-LookedUp.found _ _ _ _ c.write-used.ensures c.write-used.auto.answers))

pub walk-thread-requires : goal.walk-thread-requires
walk-thread-requires c =
    let within = rw c.in-Walking.is at c.requires.within in
    (c.requires.nodes, within.0, within.1)

pub clear-cleared-requires : goal.clear-cleared-requires
clear-cleared-requires c =
    let within = rw c.in-Clearing.is at c.requires.within in
    (c.requires.nodes, within.0, within.1, c.requires.first)

pub returns-in-Clearing : goal.returns-in-Clearing
returns-in-Clearing c =
    let does = c.clear-cleared.ensures in
    λ list t other al. from_known c.in-Clearing.is (λ ready.
    clearing_steps _ _ other _ c.in-Clearing.at c.in-Clearing.own _ _ _ does.steps does.within.0 does.within.1 does.within.2 (does.kept _ ready.kept) ready)

pub returns-else-not-allowed : goal.returns-else-not-allowed
returns-else-not-allowed c =
    let does = c.enter-thread.ensures in
    λ list t other al. from_known c.in-Idle.is
    (idle_enters _ _ other _ _ _ (does.within c.requires.within (omega arith)) (rw does.same.1 c.requires.nodes) does.same.0 (al ∙ c.if-not-allowed.false) (rw c.in-Idle.is at does.steps) (does.same.1, does.same.2, does.same.3))

pub returns-in-Loading : goal.returns-in-Loading
returns-in-Loading c =
    λ list t other al. worker_waits _ _ other _ c.in-Loading.at c.in-Loading.own _ c.in-Loading.is

pub returns-in-Searching : goal.returns-in-Searching
returns-in-Searching c =
    let does = c.search-thread.ensures in
    λ list t other al. from_known c.in-Searching.is
    (searching_steps _ _ other _ _ _ does.within (rw does.same.1 c.requires.nodes) does.same.0 c.in-Searching.at _ al does.steps (does.same.1, does.same.2))

pub returns-else-in_one_step : goal.returns-else-in_one_step
returns-else-in_one_step c =
    λ list t other al. from_known c.in-Holding.is (λ ready.
    holding_looks_up _ _ other _ c.in-Holding.own _ c.item-item.ensures ready _ c.look_up-found.ensures (sym c.in_one_step.ensures ∙ c.if-in_one_step.false))

pub returns-in-Written : goal.returns-in-Written
returns-in-Written c =
    let does = c.enter-thread-in-Written.ensures in
    let own : c.in-Written.own.0 ≤ 150 = rw c.in-Written.is at c.requires.within in
    λ list t other al. from_known c.in-Written.is
    (written_enters _ _ other _ _ _ (does.within own (omega arith, own)) (rw does.same.1 c.requires.nodes) does.same.0 c.in-Written.own does.steps (does.same.1, does.same.2, does.same.3))

pub returns-in-Walking : goal.returns-in-Walking
returns-in-Walking c =
    let does = c.walk-thread.ensures in
    λ list t other al. from_known c.in-Walking.is
    (walking_steps _ _ other _ _ _ does.within.0 does.within.1 does.same.0 c.in-Walking.at c.in-Walking.own does.steps (does.same.1, does.same.2))

-- `runner::run` meets its contract: what is read from the lists shows their state, and is ready for the schedule's steps. Assumes nothing.
use Prim.Native.Nat.{ℕ}
use mathlib.Core.Path.{◌≡◌, sym, ap, ◌∙◌}
use mathlib.Core.List.{List}
use lib.ListN.{length}
use Rattle.model.specs.Step.{State, steps}
use Rattle.state_bytes.specs.Layout.{Lists, all_lists, lists_of, setup_in, state_length}
use Rattle.runner.specs.Performed.{Order, order_of, schedule_of, written_in, CallPasses}
use Rattle.state_bytes.proofs.Passed.{lengths_passed, state_passed}
use Rattle.runner.proofs.Handed.{ReadOut, fit_count, fit_order, fit_largest, fit_capacity, fit_image, fit_commands, read_shows, read_placed, read_ready, read_within}
use Rattle.runner.proofs.run.Goals.{After-keep_all}
use Rattle.runner.proofs.run.Goals as goal

-- the lists that the call gets, and what their tests say
long : {l : Lists} {commands : List ℕ} {order : Order} {lent : List ℕ} → CallPasses l commands order lent → length l.state ≡ state_length
long {l} {commands} passes = (lengths_passed l commands passes.lengths).state

-- what is read is what stands in the lists
read_out : (c : After-keep_all) → ReadOut (all_lists c.args.state.now c.args.keys.now c.args.chutes.now c.args.answers.now c.args.image.now) c.counters_in-counters.result c.keep_all.new.self c.read_threads-threads.result
read_out c =
    let read = c.read_graph-graph.ensures in
    let same = c.keep_all.ensures.same in record {
      counters = c.counters_in-counters.ensures;
      next_is = same.0 ∙ read.next_is;
      seq_is = same.1 ∙ read.seq_is;
      executing_is = same.2 ∙ read.executing_is;
      locked_is = same.3 ∙ read.locked_is;
      waits_is = same.4 ∙ read.waits_is;
      threads_are = c.read_threads-threads.ensures;
    }

pub settings_in-settings-requires : goal.settings_in-settings-requires
settings_in-settings-requires c = long c.requires

pub counters_in-counters-requires : goal.counters_in-counters-requires
counters_in-counters-requires c = long c.requires

pub read_graph-graph-requires : goal.read_graph-graph-requires
read_graph-graph-requires c = long c.requires

pub read_threads-threads-requires : goal.read_threads-threads-requires
read_threads-threads-requires c = long c.requires

pub keep_all-requires : goal.keep_all-requires
keep_all-requires c =
    let a = c.args in
    let l = all_lists a.state.now a.keys.now a.chutes.now a.answers.now a.image.now in
    read_placed l c.read_graph-graph.result.seq a.commands.now c.read_graph-graph.ensures.seq_is (lengths_passed l a.commands.now c.requires.lengths) (state_passed l c.requires.state)

pub perform-requires : goal.perform-requires
perform-requires c =
    let a = c.args in
    let read = read_out (goal.at.perform-requires c).After-keep_all in
    let l = all_lists a.state.now a.keys.now a.chutes.now a.answers.now a.image.now in
    let commands = a.commands.now in
    let lengths = lengths_passed l commands c.requires.lengths in
    let range = state_passed l c.requires.state in
    record {
      long = long c.requires;
      ready = read_ready l read commands lengths range c.keep_all.ensures.kept;
      within = read_within l read commands lengths range;
      named = fit_order l commands range (order_of a.order) a.lent.now c.requires.named;
      largest = rw (sym (c.settings_in-settings.ensures commands (fit_count l commands lengths)).largest) (fit_largest l commands range);
      imaged = fit_image l commands lengths c.requires.image;
    }

pub returns : goal.returns
returns c =
    let a = c.args in
    let l = all_lists a.state.now a.keys.now a.chutes.now a.answers.now a.image.now in
    let commands = a.commands.now in
    let lengths = lengths_passed l commands c.requires.lengths in
    let o = setup_in a.state.now commands in
    let shown = read_shows l (read_out (goal.at.returns c).After-keep_all) in
    let order = order_of a.order in
    let made = c.perform.ensures o (c.settings_in-settings.ensures commands (fit_count l commands lengths)) (fit_commands l commands) (fit_capacity l commands lengths) in
    record {
      lists = made.0 ∙ ap (λ (s : State). lists_of o (steps o (schedule_of o order s) s)) shown;
      written = made.1 ∙ ap (λ (s : State). written_in order (schedule_of o order s) a.lent.now) shown;
      counted = made.2 ∙ ap (λ (s : State). length (schedule_of o order s)) shown;
    }

-- `depot_c::open_calls::open_bytes` meets its contract: the numbers are read, the proved call is made, and what it leaves is written. Assumes nothing.
use Prim.Native.Nat.{ℕ, ◌≤◌}
use mathlib.Core.Path.{◌≡◌, sym, ap, ◌∙◌}
use mathlib.Core.List.{List, []}
use Rattle.std.specs.Prelude.{option_copied}
use Rattle.s10.specs.declared.Refusal.{Refusal}
use Rattle.state_bytes.specs.Layout.{Lists, all_lists, lists}
use Rattle.state_bytes.specs.Outcome.{refusal_in}
use Rattle.opening.specs.Calls.{Source, open_on}
use Rattle.opening.specs.Opened.{source_of}
use Rattle.depot_c.specs.Boundary.{left}
use Rattle.depot_c.proofs.Refused.{passed_on, opening_refused}
use Rattle.depot_c.proofs.Outcomes.{opening_place_below, nothing_opened, counted_lent, uncounted_lent, unlent_opened, rooms_long, are_rooms, rooms_are}
use Rattle.depot_c.proofs.open_calls.open_bytes.Goals as goal

-- the place of a refusal
place_of : (size workers capacity : ℕ) (commands : List ℕ) (source : Source) (l : Lists) (x : Refusal) → x ≡ refusal_in (open_on size workers capacity commands source l) → x.place ≤ 4096
place_of size workers capacity commands source l x is = rw is (opening_place_below size workers capacity commands source l)

pub returns-in_err-open_without-clause-refusal : goal.returns-in_err-open_without-clause-refusal
returns-in_err-open_without-clause-refusal c =
    let a = c.args in
    let source = source_of (option_copied a.source) in
    let b = all_lists a.state.now a.keys.now a.chutes.now a.answers.now a.image.now in
    let none = unlent_opened a.size a.workers a.capacity a.commands.now source b (uncounted_lent _ _ c.of.ensures c.in_default.is) in
    passed_on _ _ c.from_residual.ensures.1 ∙ c.in_err-open_without.ensures source ∙ sym (ap refusal_in none)

pub returns-in_err-open_without-clause-fits : goal.returns-in_err-open_without-clause-fits
returns-in_err-open_without-clause-fits c =
    let a = c.args in
    let source = source_of (option_copied a.source) in
    rw (passed_on _ _ c.from_residual.ensures.1) ((opening_refused _).1, place_of a.size a.workers a.capacity a.commands.now source (lists [] [] [] []) _ (c.in_err-open_without.ensures source))

pub returns-in_err-open_without-clause-left : goal.returns-in_err-open_without-clause-left
returns-in_err-open_without-clause-left c =
    let a = c.args in
    let source = source_of (option_copied a.source) in
    let b = all_lists a.state.now a.keys.now a.chutes.now a.answers.now a.image.now in
    let none = unlent_opened a.size a.workers a.capacity a.commands.now source b (uncounted_lent _ _ c.of.ensures c.in_default.is) in
    rw none (sym (nothing_opened a.size a.workers a.capacity a.commands.now source b))

pub returns-in_default-clause-refusal : goal.returns-in_default-clause-refusal
returns-in_default-clause-refusal c =
    let a = c.args in
    let source = source_of (option_copied a.source) in
    let b = all_lists a.state.now a.keys.now a.chutes.now a.answers.now a.image.now in
    let none = unlent_opened a.size a.workers a.capacity a.commands.now source b (uncounted_lent _ _ c.of.ensures c.in_default.is) in
    c.in_ok-open_without.ensures source ∙ sym (ap refusal_in none)

pub returns-in_default-clause-left : goal.returns-in_default-clause-left
returns-in_default-clause-left c =
    let a = c.args in
    let source = source_of (option_copied a.source) in
    let b = all_lists a.state.now a.keys.now a.chutes.now a.answers.now a.image.now in
    let none = unlent_opened a.size a.workers a.capacity a.commands.now source b (uncounted_lent _ _ c.of.ensures c.in_default.is) in
    rw none (sym (nothing_opened a.size a.workers a.capacity a.commands.now source b))

pub read-requires : goal.read-requires
read-requires c =
    (counted_lent _ _ _ c.of.ensures c.in-Some.is).0

pub slice_bounds-open_within-end : goal.slice_bounds-open_within-end
slice_bounds-open_within-end c =
    let a = c.args in
    (rooms_long a.keys.now a.chutes.now a.answers.now _ _ (counted_lent _ _ _ c.of.ensures c.in-Some.is).1 c.read.ensures).0

pub slice_bounds-open_within-end-2 : goal.slice_bounds-open_within-end-2
slice_bounds-open_within-end-2 c =
    let a = c.args in
    (rooms_long a.keys.now a.chutes.now a.answers.now _ _ (counted_lent _ _ _ c.of.ensures c.in-Some.is).1 c.read.ensures).1

pub slice_bounds-open_within-end-3 : goal.slice_bounds-open_within-end-3
slice_bounds-open_within-end-3 c =
    let a = c.args in
    (rooms_long a.keys.now a.chutes.now a.answers.now _ _ (counted_lent _ _ _ c.of.ensures c.in-Some.is).1 c.read.ensures).2

pub open_within-requires : goal.open_within-requires
open_within-requires c =
    let a = c.args in
    are_rooms a.keys.now a.chutes.now a.answers.now _ _ (counted_lent _ _ _ c.of.ensures c.in-Some.is) c.read.ensures

pub returns-in_err-open_within-clause-refusal : goal.returns-in_err-open_within-clause-refusal
returns-in_err-open_within-clause-refusal c =
    let a = c.args in
    let same = rooms_are a.state.now a.keys.now a.chutes.now a.answers.now a.image.now _ _ (counted_lent _ _ _ c.of.ensures c.in-Some.is) c.read.ensures in
    passed_on _ _ c.from_residual-in_err-open_within.ensures.1 ∙ c.in_err-open_within.ensures.refusal ∙ ap (λ (l : Lists). refusal_in (open_on a.size a.workers a.capacity a.commands.now (source_of (option_copied a.source)) l)) same

pub returns-in_err-open_within-clause-left : goal.returns-in_err-open_within-clause-left
returns-in_err-open_within-clause-left c =
    let a = c.args in
    let b = all_lists a.state.now a.keys.now a.chutes.now a.answers.now a.image.now in
    let same = rooms_are a.state.now a.keys.now a.chutes.now a.answers.now a.image.now _ _ (counted_lent _ _ _ c.of.ensures c.in-Some.is) c.read.ensures in
    c.in_err-open_within.ensures.left ∙ ap (λ (l : Lists). left (open_on a.size a.workers a.capacity a.commands.now (source_of (option_copied a.source)) l) b) same

pub returns-clause-refusal : goal.returns-clause-refusal
returns-clause-refusal c =
    let a = c.args in
    let same = rooms_are a.state.now a.keys.now a.chutes.now a.answers.now a.image.now _ _ (counted_lent _ _ _ c.of.ensures c.in-Some.is) c.read.ensures in
    c.in_ok-open_within.ensures.refusal ∙ ap (λ (l : Lists). refusal_in (open_on a.size a.workers a.capacity a.commands.now (source_of (option_copied a.source)) l)) same

pub returns-clause-left : goal.returns-clause-left
returns-clause-left c =
    let a = c.args in
    let b = all_lists a.state.now a.keys.now a.chutes.now a.answers.now a.image.now in
    let same = rooms_are a.state.now a.keys.now a.chutes.now a.answers.now a.image.now _ _ (counted_lent _ _ _ c.of.ensures c.in-Some.is) c.read.ensures in
    c.in_ok-open_within.ensures.left ∙ ap (λ (l : Lists). left (open_on a.size a.workers a.capacity a.commands.now (source_of (option_copied a.source)) l) b) same

pub returns-in_err-open_within-clause-fits : goal.returns-in_err-open_within-clause-fits
returns-in_err-open_within-clause-fits c =
    let a = c.args in
    rw (passed_on _ _ c.from_residual-in_err-open_within.ensures.1)
    ((opening_refused _).1, place_of a.size a.workers a.capacity a.commands.now (source_of (option_copied a.source)) _ _ c.in_err-open_within.ensures.refusal)

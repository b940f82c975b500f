-- The claims of `specs/Rounds.antt`. Assumes nothing.
use Prim.Native.Nat.{ℕ, ◌+◌, ◌/◌, ◌%◌, ◌<◌}
use mathlib.Core.Path.{◌≡◌, refl, ap, ◌∙◌}
use mathlib.Core.Bool.{Bool, true, false, cond, and-eq-true_iff}
use mathlib.Core.List.{List, [], ◌∷◌}
use native.Mathlib.Omega.{arith}
use borrow.Author.Tests.{eq-eqb, le-leb}
use lib.Dec.{eqb, leb}
use lib.ListN.{length}
use Rattle.s10.specs.Refusal.{plain}
use Rattle.command.specs.Read.{ListOutcome, all_accepted, list_refused, CommandOutcome, first_refusal, readings}
use Rattle.command.specs.Read as Command
use Rattle.command.proofs.Tests.{cond_cases}
use Rattle.byte_fields.specs.Bytes.{bytes_of, number_at}
use Rattle.byte_fields.proofs.Bytes.{lies_whole, lies_number}
use Rattle.model.specs.Setup.{Setup}
use Rattle.state_bytes.specs.Layout.{lengths_fit, image_fits}
use Rattle.state_bytes.specs.Outcome.{CallOutcome, refusal_in}
use Rattle.state_bytes.specs.Outcome as Call
use Rattle.opening.specs.Calls.{nothing, open_on, opened_with, source_long, source_chained, source_fits, setup_of}
use Rattle.rounds.specs.Calls.{Outcome, found, refused, found_in, rounds_on}
use Rattle.rounds.specs.Calls as Rounds
use Rattle.rounds.proofs.Promise.{rounds_over_calls}
use Rattle.rounds.proofs.Bounds.{found_low}
use Rattle.depot_c.specs.Numbers.{numbers_in}
use Rattle.depot_c.specs.Boundary.{decoded, packed, answer_of, rounds_lent, rounds_outcome, round_bytes, round_count_bytes}
use Rattle.depot_c.specs.Rounds.{RoundsOverBytes, TestsAsOpening}
use Rattle.depot_c.proofs.Entries.{bytes_in_read_back}
use Rattle.depot_c.proofs.RoundsLent.{whole}

-- ---- an answer 0 is that of rounds found

abbrev IsFound : Outcome → Type 0
IsFound o = packed (Rounds.refusal_in o) ≡ 0 → (rounds : List ℕ) × (n : ℕ) × (o ≡ found rounds n)

-- a refused command has a place
of_list : (place : ℕ) (rs : List CommandOutcome) (commands : List ℕ) → 0 < place → IsFound (found_in (first_refusal place rs) commands)
unfolding first_refusal found_in
of_list place [] commands some e = (_, _, refl)
of_list place (Command.accepted command ∷ rs) commands some e = of_list (place + 1) rs commands (omega arith) e
of_list place (Command.refused r ∷ rs) commands some e = absurd (omega arith)

is_found : (commands : List ℕ) (lent : ℕ) → IsFound (rounds_on commands lent)
unfolding rounds_on
is_found commands lent =
    cond_cases IsFound (eqb (length commands % 16) 0) (λ _. cond_cases IsFound (leb (length commands / 16) 4096) (λ _. cond_cases IsFound (eqb lent (length commands / 16))
    (λ _. of_list 1 (readings commands) commands (omega arith)) (λ _ e. absurd (omega arith))) (λ _ e. absurd (omega arith))) (λ _ e. absurd (omega arith))

-- ---- what the bytes say

module _ (commands : List ℕ) (lent : ℕ) (o : Outcome) (rounds : List ℕ) (n : ℕ) (old older : List ℕ) (is : rounds_on commands lent ≡ o) (e : o ≡ found rounds n) where
  read_back : (numbers_in 2 (round_bytes o old) ≡ rounds) × (number_at 8 0 (round_count_bytes o older) ≡ n)
  unfolding round_bytes round_count_bytes
  read_back =
      let low = found_low commands lent rounds n (is ∙ e) in
      rw e (bytes_in_read_back 2 rounds (omega arith) (λ i. let each = low.0 i in let most = low.1 in omega arith), lies_number 8 n (let most = low.1 in omega arith) (lies_whole (bytes_of 8 n)))

pub rounds_over_bytes : RoundsOverBytes
rounds_over_bytes commands rounds count zero =
    let lent = rounds_lent (length rounds) (length count) in
    let f = is_found commands lent zero in
    let back = read_back commands lent (rounds_outcome commands rounds count) f.0 f.1 rounds count refl f.2 in
    rw (back.0, back.1) (rounds_over_calls commands lent f.0 f.1 f.2)

-- ---- the tests of an opening

same_list : (x : ListOutcome) (commands : List ℕ) (o : Setup) → Rounds.refusal_in (found_in x commands) ≡ refusal_in (opened_with x o)
unfolding found_in opened_with refusal_in
same_list all_accepted commands o = refl
same_list (list_refused r) commands o = refl

same_tests : (t s : Bool) (x : Outcome) (y : CallOutcome) → Rounds.refusal_in x ≡ refusal_in y →
    Rounds.refusal_in (cond t (cond s x (refused (plain 5))) (refused (plain 4))) ≡ refusal_in (cond t (cond s y (Call.refused (plain 5))) (Call.refused (plain 4)))
unfolding refusal_in
same_tests true true x y e = e
same_tests true false x y e = refl
same_tests false s x y e = refl

pub tests_as_opening : TestsAsOpening
unfolding open_on rounds_on answer_of source_long source_chained source_fits
tests_as_opening size workers capacity s1 s2 w1 w2 c1 c2 commands b fit rounds count long counted =
    let fits = (and-eq-true_iff (lengths_fit capacity (length commands / 16) (decoded b)) (image_fits capacity (decoded b))).0 fit in
    let lent : rounds_lent (length rounds) (length count) ≡ length commands / 16 = whole (length rounds) (length count) counted (omega arith) ∙ omega arith in
    let same = same_tests (eqb (length commands % 16) 0) (leb (length commands / 16) 4096) (found_in (first_refusal 1 (readings commands)) commands)
    (opened_with (first_refusal 1 (readings commands)) (setup_of size workers capacity commands nothing))
    (same_list (first_refusal 1 (readings commands)) commands (setup_of size workers capacity commands nothing)) in
    rw (lent, eq-eqb (length commands / 16) (length commands / 16) refl, le-leb 1 size s1, le-leb size 150 s2, le-leb 1 workers w1, le-leb workers 64 w2, le-leb 1 capacity c1, le-leb capacity 4096 c2, fits.0, fits.1) (ap packed same)

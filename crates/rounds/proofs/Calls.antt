-- What the call comes to, test by test. Assumes nothing.
use Prim.Native.Nat.{ℕ, ◌/◌, ◌%◌, ◌≤◌, ◌<◌}
use mathlib.Core.Path.{◌≡◌, refl, sym, ap}
use mathlib.Core.List.{List}
use native.Mathlib.Omega.{arith}
use borrow.Author.Tests.{eq-eqb, ne_eqb, le-leb, lt-leb, eqb-true, leb-true}
use lib.ListN.{length}
use lib.Dec.{eqb, leb}
use Rattle.s10.specs.Refusal.{Refusal, plain}
use Rattle.command.specs.Read.{ListOutcome, all_accepted, list_refused, first_refusal, readings, commands_in}
use Rattle.command.proofs.Tests.{cond_cases, cond_same}
use Rattle.command.proofs.Laws.{refused_begins_inside}
use Rattle.rounds.specs.Rounds.{rounds_of, round_count}
use Rattle.rounds.proofs.Promise.{found_so}
use Rattle.rounds.specs.Calls.{Outcome, found, refused, refusal_in, found_in, rounds_on, left_by}

module _ (commands : List ℕ) (lent : ℕ) where
  pub refused_4 : (length commands % 16 ≡ 0 → ⊥) → rounds_on commands lent ≡ refused (plain 4)
  unfolding rounds_on
  refused_4 e = rw (ne_eqb (length commands % 16) 0 e)

  module _ (fits : length commands % 16 ≡ 0) where
    pub refused_5 : 4096 < length commands / 16 → rounds_on commands lent ≡ refused (plain 5)
    unfolding rounds_on
    refused_5 e = rw (eq-eqb (length commands % 16) 0 fits, lt-leb _ _ e)

    module _ (few : length commands / 16 ≤ 4096) where
      pub refused_6 : (lent ≡ length commands / 16 → ⊥) → rounds_on commands lent ≡ refused (plain 6)
      unfolding rounds_on
      refused_6 e = rw (eq-eqb (length commands % 16) 0 fits, le-leb _ _ few, ne_eqb lent (length commands / 16) e)

      pub passed : lent ≡ length commands / 16 → rounds_on commands lent ≡ found_in (first_refusal 1 (readings commands)) commands
      unfolding rounds_on
      passed e = rw (eq-eqb (length commands % 16) 0 fits, le-leb _ _ few, eq-eqb lent (length commands / 16) e)

-- a refusal leaves the list
pub left_refused : (o : Outcome) (r : Refusal) (old : List ℕ) → o ≡ refused r → (refused r ≡ o) × (old ≡ left_by o old)
unfolding left_by
left_refused o r old e = (sym e, sym (ap (λ (x : Outcome). left_by x old) e))

-- the rounds of a list that is accepted
pub found_is : (commands rounds old : List ℕ) (n : ℕ) → all_accepted ≡ first_refusal 1 (readings commands) → rounds ≡ rounds_of (commands_in commands) → n ≡ round_count (commands_in commands) →
    let o = found_in (first_refusal 1 (readings commands)) commands in (found rounds n ≡ o) × (rounds ≡ left_by o old)
unfolding found_in left_by
found_is commands rounds old n all rs count = (rw (← all, rs, count), rw (← all) rs)

pub refused_is : (commands : List ℕ) (r : Refusal) → list_refused r ≡ first_refusal 1 (readings commands) → found_in (first_refusal 1 (readings commands)) commands ≡ refused r
unfolding found_in
refused_is commands r e = rw (← e)

-- ---- what each outcome tells

-- a list that has its rounds was lent one entry a command
pub found_lent : (commands : List ℕ) (lent : ℕ) (rounds : List ℕ) (n : ℕ) → rounds_on commands lent ≡ found rounds n → (lent ≡ length commands / 16) × (lent ≤ 4096)
found_lent commands lent rounds n e = let f = found_so commands lent rounds n e in (f.long, omega (arith, f.long, f.few))

-- more entries than any list of commands asks for are one too many
pub too_many : (commands : List ℕ) (lent : ℕ) → 4097 ≤ lent → rounds_on commands lent ≡ rounds_on commands 4097
unfolding rounds_on
too_many commands lent long =
    cond_same (eqb (length commands % 16) 0) _ (λ _. cond_same (leb (length commands / 16) 4096) _ (λ few.
    let most = leb-true (length commands / 16) 4096 few in
    rw (ne_eqb lent (length commands / 16) (λ e. omega arith), ne_eqb 4097 (length commands / 16) (λ e. omega arith))))

-- a refused command stands at one of 4,096 places
refused_low : (commands : List ℕ) (o : ListOutcome) → first_refusal 1 (readings commands) ≡ o → length commands % 16 ≡ 0 → length commands / 16 ≤ 4096 → (refusal_in (found_in o commands)).place ≤ 4096
unfolding found_in
refused_low commands all_accepted e whole few = omega arith
refused_low commands (list_refused r) e whole few = omega (arith, refused_begins_inside commands r e)

pub place_low : (commands : List ℕ) (lent : ℕ) → (refusal_in (rounds_on commands lent)).place ≤ 4096
unfolding rounds_on
place_low commands lent =
    let P : Outcome → Type 0 = λ o. (refusal_in o).place ≤ 4096 in
    cond_cases P (eqb (length commands % 16) 0) (λ whole. cond_cases P (leb (length commands / 16) 4096) (λ few. cond_cases P (eqb lent (length commands / 16))
    (λ _. refused_low commands (first_refusal 1 (readings commands)) refl (eqb-true (length commands % 16) 0 whole) (leb-true (length commands / 16) 4096 few)) (λ _. omega arith)) (λ _. omega arith)) (λ _. omega arith)

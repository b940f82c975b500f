-- `s10::write_digits` meets its contract. Assumes nothing.
use Prim.Native.Nat.{ℕ, suc, ◌+◌, ◌-◌, ◌/◌, ◌%◌, ◌<◌}
use mathlib.Core.Path.{◌≡◌}
use mathlib.Core.List.{List}
use native.Mathlib.Nat.{div-div-eq-div-mul, div-one, pow-suc, sub_self, sub-zero}
use native.Mathlib.Omega.{arith}
use lib.ListN.{length, set, length-set}
use lib.Seq.{drop-cons, drop-length, get_or-set_same, drop-set-lt}
use Rattle.s10.specs.Text.{digits}
use Rattle.s10.specs.Parts.{characters}
use Rattle.s10.proofs.write_digits.Invariants.{Filled}
use Rattle.s10.proofs.write_digits.Goals as goal

none_filled : (number : ℕ) (text : List ℕ) → Filled number text number (length text)
unfolding digits
none_filled number text =
    record {
      within = omega arith;
      quotient = rw (sub_self, div-one);
      written = rw (sub_self, drop-length);
    }

all_filled : {number : ℕ} {text : List ℕ} {rest : ℕ} → Filled number text rest 0 → text ≡ characters (digits (length text) number)
all_filled f = rw sub-zero at f.written

-- the next digit from the right goes in before those that stand there
fill : (number : ℕ) (text : List ℕ) (rest i : ℕ) → 0 < i → Filled number text rest i →
    Filled number (set text (i - 1) (48 + rest % 10)) (rest / 10) (i - 1)
unfolding digits
fill number text rest i some f =
    let inside : i - 1 < length text = omega arith in
    let in_place : i - 1 < length (set text (i - 1) (48 + rest % 10)) = rw length-set inside in
    let more : length text - (i - 1) ≡ suc (length text - i) = omega arith in
    let place : suc (i - 1) ≡ i = omega arith in
    let after = drop-set-lt (suc (i - 1)) text (i - 1) (48 + rest % 10) (omega arith) in
    let first = get_or-set_same text (i - 1) (48 + rest % 10) 0 inside in
    record {
      within = rw length-set (omega arith);
      quotient = rw (length-set, more, f.quotient, div-div-eq-div-mul, pow-suc);
      written = rw (length-set, more, drop-cons (set text (i - 1) (48 + rest % 10)) (i - 1) 0 in_place, first, after, place, f.written, f.quotient);
    }

pub loop-i-init : goal.loop-i-init
loop-i-init c = none_filled c.args.number c.args.text.now

pub loop-i-preserved : goal.loop-i-preserved
loop-i-preserved c = fill _ _ _ _ c.loop-i-test.true c.loop-i.invariant

pub returns : goal.returns
returns c =
    let start : c.loop-i.i ≡ 0 = omega arith in
    rw c.loop-i.auto.text at (all_filled (rw start at c.loop-i.invariant))

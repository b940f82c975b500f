-- The entries that a worker status writes, one after the other, and what they leave of the caller's list. Assumes nothing.
use Prim.Native.Nat.{ℕ, zero, suc, ◌+◌, ◌<◌}
use native.Mathlib.Nat.{not-suc-le-zero, le_of_suc-le-suc}
use native.Mathlib.Numerals.{add-one}
use native.Mathlib.Omega.{arith}
use mathlib.Core.Path.{◌≡◌, refl, ◌∙◌, ap}
use mathlib.Core.List.{List, [], ◌∷◌, ◌++◌, append-nil}
use lib.ListN.{length, set, drop, drop_of_length-le}
use Rattle.byte_fields.specs.Bytes.{tabulate}
use Rattle.state_bytes.specs.Layout.{Lists, state_in}
use Rattle.panel.specs.declared.WorkerStatus.{WorkerStatus}
use Rattle.panel.specs.Reports.{status_of, reported, worker_status, largest_in}

-- ---- entry by entry

-- the first i elements are written, and the others are as they were; one more is written
set_next : {A : Type 0} (i : ℕ) (xs : List A) (f : ℕ → A) (r : A) → i < length xs → r ≡ f i → set (tabulate i f ++ drop i xs) i r ≡ tabulate (suc i) f ++ drop (suc i) xs
unfolding tabulate
set_next i [] f r less e = absurd (not-suc-le-zero less)
set_next zero (x ∷ xs) f r less e = ap (λ (a : _). a ∷ xs) e
set_next (suc i) (x ∷ xs) f r less e = ap (λ (l : List _). f 0 ∷ l) (set_next i xs (λ j. f (suc j)) r (le_of_suc-le-suc less) e)

-- what `status_at` says of its result at the worker t
abbrev pub Said : List ℕ → ℕ → WorkerStatus → Type 0
Said st t r = (l : Lists) → l.state ≡ st → r ≡ status_of (reported (largest_in st) (state_in l) t)

-- ys is xs with the status of the first i workers written
abbrev pub Wrote : List ℕ → List WorkerStatus → ℕ → List WorkerStatus → Type 0
Wrote st xs i ys = (l : Lists) → l.state ≡ st → ys ≡ tabulate i (λ j. status_of (reported (largest_in st) (state_in l) (suc j))) ++ drop i xs

pub wrote_none : (st : List ℕ) (xs : List WorkerStatus) → Wrote st xs 0 xs
unfolding tabulate
wrote_none st xs l e = refl

pub wrote_next : (st : List ℕ) (xs ys : List WorkerStatus) (i : ℕ) (r : WorkerStatus) → i < length xs → Said st (i + 1) r → Wrote st xs i ys → Wrote st xs (suc i) (set ys i r)
wrote_next st xs ys i r less said wrote l e =
    ap (λ (zs : List WorkerStatus). set zs i r) (wrote l e)
    ∙ set_next i xs (λ j. status_of (reported (largest_in st) (state_in l) (suc j))) r less (said l e ∙ ap (λ (t : ℕ). status_of (reported (largest_in st) (state_in l) t)) (add-one i))

-- ---- all entries

-- all entries written leave the report
pub all_left : (l : Lists) {st : List ℕ} (xs : List WorkerStatus) {zs : List WorkerStatus} {i : ℕ} → l.state ≡ st → length xs ≡ 64 → i ≡ 64 → Wrote st xs i zs → zs ≡ worker_status (largest_in st) (state_in l)
unfolding worker_status
all_left l {st} xs {zs} {i} state long all wrote =
    let shown = λ (j : ℕ). status_of (reported (largest_in st) (state_in l) (suc j)) in
    wrote l state
    ∙ (rw all (ap (λ (rest : List WorkerStatus). tabulate 64 shown ++ rest) (drop_of_length-le xs {i = 64} (omega (arith, long)))) ∙ append-nil (tabulate 64 shown))

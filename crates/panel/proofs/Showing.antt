-- What the panel shows of a worker, read from the state's bytes. Assumes nothing.
use Prim.Native.Nat.{ℕ, suc, ◌+◌, ◌*◌, ◌≤◌, ◌<◌}
use native.Mathlib.Numerals.{add-one}
use native.Mathlib.Omega.{arith}
use mathlib.Core.Path.{◌≡◌, refl, sym, ap, ◌∙◌}
use mathlib.Core.List.{List}
use lib.ListN.{length, get_or, set}
use borrow.Author.Tests.{lt-leb, le-leb, lt-ltb}
use Rattle.model.specs.declared.Thread.{Thread}
use Rattle.model.specs.declared.Thread.TheVariants.{Idle}
use Rattle.model.specs.Step.{State}
use Rattle.byte_fields.specs.Bytes.{fields, pasted}
use Rattle.state_bytes.specs.Layout.{Lists, state_length, state_in, thread_at}
use Rattle.byte_fields.proofs.Bytes.{fields_length, tabulate_at}
use Rattle.byte_fields.proofs.Fill.{number_one}
use Rattle.byte_fields.proofs.Paste.{PutFields, fields_put, fields_all, pasted_whole}
use Rattle.panel.specs.declared.WorkerStatus.{WorkerStatus}
use Rattle.panel.specs.declared.WorkerState.TheVariants as worker
use Rattle.panel.specs.Reports.{entry, status_of, reported, state_number, status_bytes, worker_status, worker_status_bytes, largest_in}

-- the largest worker count is byte 3
largest_in_lem : (b : List ℕ) → length b ≡ state_length → largest_in b ≡ get_or b 3 0
unfolding state_length
largest_in_lem b long = number_one 3 b (omega arith)

-- a worker past the count is reported idle, any other as the bytes have it
reported_idle : (workers t : ℕ) (s : State) → workers < t → reported workers s t ≡ Idle
unfolding reported
reported_idle workers t s h = rw (lt-leb t workers h)

reported_thread : (workers t : ℕ) (l : Lists) → t ≤ workers → t ≤ 64 → reported workers (state_in l) t ≡ thread_at l.state t
unfolding reported state_in
reported_thread workers t l h k =
    let among : t < 65 = omega arith in
    rw (le-leb t workers h, lt-ltb t 65 among)

-- what is shown of a worker past the count, and of any other
pub past_shown : (b : List ℕ) (s : State) (t : ℕ) → length b ≡ state_length → get_or b 3 0 < t → entry worker.Idle 0 ≡ status_of (reported (largest_in b) s t)
unfolding status_of
past_shown b s t long h =
    let past : largest_in b < t = omega (arith, largest_in_lem b long) in
    sym (ap status_of (reported_idle (largest_in b) t s past))

pub worker_shown : (b : List ℕ) (l : Lists) (t : ℕ) {thread : Thread} {r : WorkerStatus} → l.state ≡ b → length b ≡ state_length → t ≤ get_or b 3 0 → t ≤ 64
    → thread ≡ thread_at b t → r ≡ status_of thread → r ≡ status_of (reported (largest_in b) (state_in l) t)
worker_shown b l t same long h k is shown =
    let within : t ≤ largest_in b = omega (arith, largest_in_lem b long) in
    shown ∙ ap status_of (is ∙ ap (λ (a : List ℕ). thread_at a t) (sym same) ∙ sym (reported_thread (largest_in b) t l within k))

-- ---- as bytes

-- the two bytes of worker i + 1
abbrev pub bytes_shown : ℕ → State → ℕ → List ℕ
bytes_shown workers s i = status_bytes (status_of (reported workers s (suc i)))

shown_length : (workers : ℕ) (s : State) (i : ℕ) → length (bytes_shown workers s i) ≡ 2
unfolding status_bytes
shown_length workers s i = refl

-- two stores put an entry
entry_pastes : (at : ℕ) (e : WorkerStatus) (number : ℕ) (bytes : List ℕ) → number ≡ state_number e.state → set (set bytes at number) (at + 1) e.own.0 ≡ pasted at (status_bytes e) bytes
unfolding pasted status_bytes
entry_pastes at e number bytes is = rw (is, add-one at)

-- The first i workers' bytes are put.
abbrev pub BytesPut : ℕ → State → List ℕ → List ℕ → ℕ → Type 0
BytesPut workers s before bytes i = PutFields (bytes_shown workers s) 2 64 0 before bytes i

-- a report's entry is its worker's
entry_shown : (workers : ℕ) (s : State) (i : ℕ) (d : WorkerStatus) {status : List WorkerStatus} → i < 64 → status ≡ worker_status workers s
    → get_or status i d ≡ status_of (reported workers s (suc i))
unfolding worker_status
entry_shown workers s i d h same = rw same (tabulate_at 64 (λ j. status_of (reported workers s (suc j))) d i h)

-- a pass puts those of the next worker
pub bytes_more : (workers : ℕ) (s : State) {before bytes : List ℕ} {i : ℕ} {status : List WorkerStatus} (d : WorkerStatus) (number : ℕ) → BytesPut workers s before bytes i → i < 64
    → status ≡ worker_status workers s → number ≡ state_number (get_or status i d).state
    → BytesPut workers s before (set (set bytes (2 * i) number) (2 * i + 1) (get_or status i d).own.0) (i + 1)
bytes_more workers s {before} {bytes} {i} {status} d number put h same is =
    let shown : status_bytes (get_or status i d) ≡ bytes_shown workers s i = ap status_bytes (entry_shown workers s i d h same) in
    fields_put put (2 * i) h (omega arith) (shown_length workers s i) (entry_pastes (2 * i) (get_or status i d) number bytes is ∙ ap (λ (part : List ℕ). pasted (2 * i) part bytes) shown)

-- after the last pass they are the report
pub bytes_all : (workers : ℕ) (s : State) {before bytes : List ℕ} {i : ℕ} → BytesPut workers s before bytes i → 64 ≤ i → length before ≡ 128
    → bytes ≡ worker_status_bytes workers s
unfolding worker_status_bytes
bytes_all workers s {before} put h long =
    let all : length (fields 64 (bytes_shown workers s)) ≡ 2 * 64 = fields_length 2 64 (bytes_shown workers s) (shown_length workers s) in
    fields_all put h ∙ pasted_whole (fields 64 (bytes_shown workers s)) before (all ∙ sym long)

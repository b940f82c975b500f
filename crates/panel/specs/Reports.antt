-- The panel's two reports of document 01, "Records and turns", and the answers from a place on. Assumes nothing.
use Rattle.std.specs.Prelude.{ℕ, zero, suc, ◌-◌, cond, ◌&&◌, List, [], ◌∷◌, ◌++◌, map, length, drop, replicate, eqb, leb, ◌≡◌, Result, Ok, Err}
use Rattle.s10.specs.Refusal.{Refusal, plain}
use Rattle.node_set.specs.Members.{count_below}
use Rattle.model.specs.declared.Thread.{Thread}
use Rattle.model.specs.declared.Thread.TheVariants.{Idle, Loading, Searching, Holding, LookedUp, Written, Walking, Clearing}
use Rattle.model.specs.Graph.{chain_from}
use Rattle.model.specs.Step.{State, node}
use Rattle.byte_fields.specs.Bytes.{tabulate, fields, number_at}
use Rattle.state_bytes.specs.Layout.{Lists, state_fits, handed_back_fit}
use Rattle.state_bytes.specs.declared.Reason.{Reason}
use Rattle.state_bytes.specs.Outcome as State
use Rattle.panel.specs.declared.WorkerStatus.{WorkerStatus}
use Rattle.panel.specs.declared.WorkerState.{WorkerState}
use Rattle.panel.specs.declared.WorkerState.TheVariants as worker

-- ---- what every report answers and leaves

-- a report's refusal, 0 for none: 6, also for a report list of another length than the one wanted; then 12
unfoldable pub report_number : Lists → List ℕ → ℕ → ℕ → ℕ
report_number l commands lent wanted = cond (handed_back_fit l commands && eqb lent wanted) (cond (state_fits l) 0 12) 6

-- the document's values for each answer, and its number
abbrev pub report_refusal : Result Unit Reason → Refusal
report_refusal (Ok _) = plain 0
report_refusal (Err reason) = State.refusal_for reason

abbrev pub report_of : Result Unit Reason → ℕ
report_of r = (report_refusal r).number

-- the report list after the call: a refusal leaves it as it was
unfoldable pub report_left {ℓ} : {A : Type ℓ} → ℕ → List A → List A → List A
report_left number report old = cond (eqb number 0) report old

-- ---- pending counts

-- "how many records it waits for, in chain order in a lent list of 150 entries, 0 after the last"
unfoldable pub pending_counts : State → List ℕ
unfolding chain_from count_below
pending_counts s =
    let nodes : List ℕ = chain_from 150 0 s.graph in
    map (λ (n : ℕ). count_below 192 (s.graph.waits n)) nodes ++ replicate (150 - length nodes) 0

-- ---- worker status

abbrev pub entry : WorkerState → ℕ → WorkerStatus
entry state own = record { state = state; own = node own }

-- "An entry is the state named above and the worker's own record, 0 where it has none." No worker loads: refusal 12.
unfoldable pub status_of : Thread → WorkerStatus
status_of Idle = entry worker.Idle 0
status_of (Loading at own) = entry worker.Idle 0
status_of (Searching at) = entry worker.Searching 0
status_of (Holding own) = entry worker.Holding own.0
status_of (LookedUp own found) = entry worker.LookedUp own.0
status_of (Written own) = entry worker.Written own.0
status_of (Walking at own) = entry worker.Walking own.0
status_of (Clearing at own) = entry worker.Clearing own.0

-- what `WorkerStatus::from` gives for a thread
abbrev pub IsStatusOf : Thread → WorkerStatus → Type 0
IsStatusOf thread r = r ≡ status_of thread

-- "those past the worker count say idle"; "up to the largest count of the opening and the list, [..] the panel shows them" (02, A.2)
unfoldable pub reported : ℕ → State → ℕ → Thread
reported largest s t = cond (leb t largest) (s.threads t) Idle

-- the 64 entries; worker 1 has the first
unfoldable pub worker_status : ℕ → State → List WorkerStatus
unfolding tabulate status_of reported
worker_status largest s = tabulate 64 (λ i. status_of (reported largest s (suc i)))

-- a state's number, as in docs/STATE-LAYOUT.md
unfoldable pub state_number : WorkerState → ℕ
state_number worker.Idle = 0
state_number worker.Searching = 2
state_number worker.Holding = 3
state_number worker.LookedUp = 4
state_number worker.Written = 5
state_number worker.Walking = 6
state_number worker.Clearing = 7

-- what `u8::from` gives for a state
abbrev pub IsNumberOf : WorkerState → ℕ → Type 0
IsNumberOf state number = number ≡ state_number state

-- an entry as two bytes, and all of them
unfoldable pub status_bytes : WorkerStatus → List ℕ
unfolding state_number
status_bytes e = state_number e.state ∷ e.own.0 ∷ []

unfoldable pub worker_status_bytes : ℕ → State → List ℕ
unfolding fields status_bytes status_of reported
worker_status_bytes largest s = fields 64 (λ i. status_bytes (status_of (reported largest s (suc i))))

-- the largest worker count of state bytes
abbrev pub largest_in : List ℕ → ℕ
largest_in b = number_at 1 3 b

-- ---- answers from a place on

-- "The answers from a delivery place onward are handed back as the caller's own stretch; place 0, or any past the last, gives an empty one."
unfoldable pub answers_from : ℕ → List ℕ → List ℕ
answers_from zero answers = []
answers_from (suc i) answers = drop i answers

-- What the program prints is what the model's steps reach: an accepted opening leaves the opening state's lists, the call on them performs
-- the schedule, and what is read of the lists left is the state reached. Assumes nothing.
use Prim.Native.Nat.{ℕ, suc}
use native.Mathlib.Omega.{arith}
use mathlib.Core.Path.{◌≡◌, refl, ap, ap₂, ◌∙◌}
use mathlib.Core.List.{List, [], ◌++◌, append_assoc}
use lib.ListN.{length, get_or}
use Rattle.model.specs.Store.{Store, lay_out}
use Rattle.model.specs.Serial.{Entry, serial_answers}
use Rattle.model.proofs.Service.{serial_length}
use Rattle.model.proofs.Theorem.{all_serial, none_linked, demand_3}
use Rattle.model.specs.Statement.{serial_answer}
use Rattle.model.specs.Setup.{Setup}
use Rattle.model.specs.Step.{State}
use Rattle.byte_fields.specs.Bytes.{tabulate}
use Rattle.state_bytes.specs.Layout.{lists_of, state_in}
use Rattle.opening.specs.Calls.{nothing, first_entries}
use Rattle.state_bytes.proofs.RoundTrip.{lists_answers}
use Rattle.byte_fields.proofs.Bytes.{tabulate_is}
use Rattle.opening.proofs.Accepted.{accepted_opening}
use Rattle.controller.proofs.Demand3.{opening_performs}
use Rattle.depot.specs.Text.{ascii}
use Rattle.depot.specs.Program.{newline, decimal_within, decimal, command_lines, totals, report, printed, advanced, size_of, workers_of, capacity_of, commands_of, schedule_of, performed}
use Rattle.depot.specs.Reached.{input_setup, reached, PrintsReached, PrintsSerial}
use Rattle.depot.proofs.Chain.{chain_ends}
use Rattle.depot.proofs.Output.{output_performed}

-- the lines of lists that are read as their state
report_of_lem : (commands : List ℕ) (o : Setup) (s : State) → state_in (lists_of o s) ≡ s
    → report commands (lists_of o s) ≡ command_lines commands (tabulate (length o.commands) (λ i. s.service.answers (suc i))) ++ totals s
unfolding report
report_of_lem commands o s e = ap (λ (t : State). command_lines commands (lists_of o s).answers ++ totals t) e ∙ ap (λ (a : List ℕ). command_lines commands a ++ totals s) (lists_answers o s)

-- the calls, one after the other
pub prints_reached : PrintsReached
unfolding performed advanced printed
prints_reached input p =
    let left = opening_performs (size_of input) (workers_of input) (capacity_of input) (commands_of input) nothing _ p.lists p.opens (schedule_of input) p.named in
    output_performed input p.short (omega (arith, p.whole)) p.whole ∙ rw (p.opens, left.0) (report_of_lem (commands_of input) (input_setup input) (reached input) left.1)

-- ---- the serial run's lines

-- the last line of a state whose chain is empty
decimal_zero : decimal 0 ≡ ascii "0"
unfolding decimal decimal_within
decimal_zero = refl

empty_chain : (s : State) (n : ℕ) → s.graph.next 0 ≡ 0 → s.service.store.used ≡ n → totals s ≡ ascii "store " ++ decimal n ++ ascii " chain 0\n"
unfolding totals
empty_chain s n none used =
    rw (chain_ends 150 0 s.graph none, used, decimal_zero, append_assoc (ascii "store " ++ decimal n ++ ascii " chain ") (ascii "0") newline)
    (append_assoc (ascii "store " ++ decimal n) (ascii " chain ") (ascii "0\n"))

-- the serial run's answer at a place
serial_at : (o : Setup) (i : ℕ) → serial_answer o (suc i) ≡ get_or (serial_answers o.capacity o.entries o.commands) i 0
unfolding serial_answer
serial_at o i = refl

-- and its entries are those in use
laid_used : (capacity : ℕ) (es : List Entry) → (lay_out capacity es).used ≡ length es
unfolding lay_out
laid_used capacity es = refl

-- where every command is removed, the model's theorem gives the answers, the table and the empty chain
pub prints_serial : PrintsSerial
unfolding first_entries
prints_serial input p all =
    let o = input_setup input in
    let accepted = (accepted_opening (size_of input) (workers_of input) (capacity_of input) (commands_of input) nothing _ p.lists p.opens).setup in
    let answers = tabulate_is (length o.commands) (λ i. (reached input).service.answers (suc i)) (serial_answers o.capacity [] o.commands) 0
    (serial_length o.capacity [] o.commands) (λ i h. all_serial o accepted (schedule_of input) p.named all (suc i) (omega arith) (omega arith) ∙ serial_at o i) in
    let table = ((demand_3 o accepted (schedule_of input) p.named).table all).1 in
    prints_reached input p ∙ ap₂ (λ (a t : List ℕ). command_lines (commands_of input) a ++ t) answers
    (empty_chain (reached input) _ (none_linked o accepted (schedule_of input) p.named all) (ap (λ (st : Store). st.used) table ∙ laid_used _ _))

-- The marked cases, proved: (a) to (j) and the turns needed by computation; (k) and (l) by what the model's steps reach from the input, by
-- computation too. Assumes nothing.
use Prim.Native.Nat.{ℕ}
use native.Mathlib.Omega.{arith}
use mathlib.Core.Path.{◌≡◌, refl}
use mathlib.Core.Bool.{true}
use mathlib.Core.List.{List}
use Rattle.s10.specs.Text.{first_fault, check_digit, key_of, largest_key, digits}
use Rattle.s10.specs.Outcome.{read_text}
use Rattle.command.specs.Read.{first_refusal, readings, command_in, commands_in}
use Rattle.command.specs.Dependent.{are_dependent}
use Rattle.node_set.specs.Members.{none_below}
use Rattle.model.specs.Upd.{upd}
use Rattle.model.specs.Graph.{chain_from}
use Rattle.model.specs.Serial.{serve}
use Rattle.model.specs.Store.{lay_out, look_up, insert}
use Rattle.model.specs.Image.{image_length, empty_image}
use Rattle.model.specs.Service.{write_kind}
use Rattle.model.specs.Step.{opened, steps}
use Rattle.model.specs.Statement.{all_within}
use Rattle.byte_fields.specs.Bytes.{number_at, tabulate, fields}
use Rattle.state_bytes.specs.Layout.{lists_of, state_length, lengths_fit, image_fits}
use Rattle.state_bytes.specs.Outcome.{accepted}
use Rattle.opening.specs.Calls.{source_long, source_chained, source_fits, first_entries, opened_with, open_on}
use Rattle.depot.specs.Cases.{command, full, corrected, written_in_full, input, stopped, Marked}
use Rattle.depot.specs.Program.{decimal_within, decimal, zeros, command_line, command_lines, totals, schedule_of, opening}
use Rattle.depot.specs.Reached.{input_setup, InputPasses}
use Rattle.depot.proofs.Reached.{prints_reached}
use Rattle.command.specs.Count.{largest_count}

-- the input passes the tests that are no inequalities, whole and stopped
abbrev Accepts : List ℕ → Type 0
Accepts i = (opening i ≡ accepted (lists_of (input_setup i) (opened (input_setup i)))) × (all_within (input_setup i).largest (schedule_of i) ≡ true)

accepts_19 : Accepts (stopped 19)
unfolding input number_at open_on opened_with first_refusal readings read_text first_fault check_digit key_of zeros empty_image image_length lengths_fit image_fits source_long source_chained source_fits state_length all_within largest_count commands_in command_in
accepts_19 = (refl, refl)

accepts_9 : Accepts (stopped 9)
unfolding input number_at open_on opened_with first_refusal readings read_text first_fault check_digit key_of zeros empty_image image_length lengths_fit image_fits source_long source_chained source_fits state_length all_within largest_count commands_in command_in
accepts_9 = (refl, refl)

-- and the others
whole_passes : InputPasses input
unfolding input number_at
whole_passes = record { short = omega arith; whole = omega arith; lists = _; opens = accepts_19.0; named = accepts_19.1 }

stopped_passes : InputPasses (stopped 9)
unfolding input number_at
stopped_passes = record { short = omega arith; whole = omega arith; lists = _; opens = accepts_9.0; named = accepts_9.1 }

pub marked : Marked
unfolding first_entries check_digit digits read_text first_fault key_of largest_key are_dependent command serve full corrected written_in_full write_kind lay_out input number_at steps opened upd none_below look_up insert readings commands_in command_in tabulate fields command_lines command_line decimal decimal_within totals chain_from
marked = record {
  a = refl;
  b = refl;
  c = refl;
  d = refl;
  e = refl;
  f = refl;
  g = refl;
  h = refl;
  i = (refl, refl);
  j = (refl, refl);
  k = prints_reached input whole_passes;
  l = prints_reached (stopped 9) stopped_passes;
  needed = (refl, refl, refl, refl);
}

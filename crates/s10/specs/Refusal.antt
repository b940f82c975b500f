-- What a refusal says: document 01, "Numbers of refusal", and document 02, A.1. Assumes nothing.
use Rattle.std.specs.Prelude.{ℕ}
use Rattle.s10.specs.declared.Refusal.{Refusal as Declared}

-- "A refusal returns its number and the command's place", and with A.1 the first faulty character, which is passed on "beside the delivery
-- place"; number 0 is that of an accepted call. The struct of src/: three numbers
abbrev pub Refusal : Type 0
Refusal = Declared

-- "0 outside 7 to 10 and in the identifier calls", "0 with any refusal but 8, 9 and 13": a refusal that names no command and no character
abbrev pub plain : ℕ → Refusal
plain number = record { number = number; place = 0; character = 0 }

-- a refusal at a character, from 1
abbrev pub at_character : ℕ → Refusal → Refusal
at_character character r = record { number = r.number; place = r.place; character = character }

-- a refusal of the command at a place, from 1
abbrev pub at_place : ℕ → Refusal → Refusal
at_place place r = record { number = r.number; place = place; character = r.character }

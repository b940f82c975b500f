-- The rest of a list of commands, after the first n: it is read as the rest of what the list is read as, and accepted where the list is.
-- Assumes nothing.
use Prim.Native.Nat.{ℕ, zero, suc, ◌+◌, ◌*◌}
use native.Mathlib.Omega.{arith}
use mathlib.Core.Path.{◌≡◌, refl, ap, ◌∙◌}
use mathlib.Core.List.{List, [], ◌∷◌, map}
use lib.ListN.{drop}
use lib.Seq.{drop-nil, drop-drop}
use Rattle.command.specs.Read.{CommandOutcome, accepted, refused, read_command, parts, parts_of, readings, all_accepted, first_refusal, command_in, commands_in}
use Rattle.command.specs.Laws.{AllAccepted}
use Rattle.command.proofs.Parts.{parts_cons}
use Rattle.command.proofs.Laws.{no_refusal_is_all_accepted}

-- what is mapped of the rest is the rest of what is mapped
map_drop : {A B : Type 0} (f : A → B) (n : ℕ) (l : List A) → map f (drop n l) ≡ drop n (map f l)
map_drop f zero l = refl
map_drop f (suc n) [] = refl
map_drop f (suc n) (x ∷ l) = map_drop f n l

-- no bytes, no parts
parts_nil : parts_of [] ≡ []
unfolding parts_of parts
parts_nil = refl

-- the bytes after n commands have the parts after the first n
parts_drop : (n : ℕ) (bytes : List ℕ) → parts_of (drop (16 * n) bytes) ≡ drop n (parts_of bytes)
parts_drop zero bytes = refl
parts_drop (suc n) [] = rw (drop-nil, parts_nil)
parts_drop (suc n) (b ∷ bytes) =
    let from : 16 * suc n ≡ 16 + 16 * n = omega arith in
    rw (from, ← drop-drop (16 * n) 16 (b ∷ bytes), parts_cons (b ∷ bytes) (omega arith)) (parts_drop n (drop 16 (b ∷ bytes)))

-- so they are read as what follows n readings
pub readings_drop : (n : ℕ) (bytes : List ℕ) → readings (drop (16 * n) bytes) ≡ drop n (readings bytes)
unfolding readings
readings_drop n bytes = ap (map read_command) (parts_drop n bytes) ∙ map_drop read_command n (parts_of bytes)

-- and hold the commands after the first n
pub commands_drop : (n : ℕ) (bytes : List ℕ) → commands_in (drop (16 * n) bytes) ≡ drop n (commands_in bytes)
unfolding commands_in
commands_drop n bytes = ap (map command_in) (parts_drop n bytes) ∙ map_drop command_in n (parts_of bytes)

-- where every reading is accepted, the rest are
accepted_drop : (n : ℕ) (rs : List CommandOutcome) → AllAccepted rs → AllAccepted (drop n rs)
accepted_drop zero rs all = all
accepted_drop (suc n) [] all = tt
accepted_drop (suc n) (accepted c ∷ rs) all = accepted_drop n rs all
accepted_drop (suc n) (refused r ∷ rs) all = absurd all

-- so the rest of an accepted list is accepted, whatever the place of its first command
pub none_refused_drop : (n place first : ℕ) (bytes : List ℕ) → first_refusal place (readings bytes) ≡ all_accepted → first_refusal first (readings (drop (16 * n) bytes)) ≡ all_accepted
none_refused_drop n place first bytes e =
    rw (readings_drop n bytes)
    (no_refusal_is_all_accepted.1 first (drop n (readings bytes)) (accepted_drop n (readings bytes) (no_refusal_is_all_accepted.0 place (readings bytes) e)))

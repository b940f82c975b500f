-- The library's numbers as bytes are those of `specs/Bytes.antt`, and a copy into a part of a list is a store of the part. Assumes nothing.
use Prim.Native.Nat.{ℕ, zero, suc, ◌+◌, ◌/◌, ◌%◌, ◌^◌, ◌≤◌}
use native.Mathlib.Nat.{div-one}
use native.Mathlib.Omega.{arith}
use mathlib.Core.Path.{◌≡◌, refl, sym, ap, ap₂, ◌∙◌}
use mathlib.Core.Bool.{Bool, true, false}
use mathlib.Core.List.{List, ◌∷◌, ◌++◌, append_assoc}
use lib.ListN.{length, take, drop, set}
use lib.Seq.{sets-eq, drop-drop}
use borrow.Rule.Slice.PartMut.{put_mid}
use mir.Val.{bool_byte}
use Rattle.std.specs.Int.{bytes_high_first, byte_at}
use Rattle.byte_fields.specs.Bytes.{bytes_of, flag_byte, pasted}

-- the last byte of a number is the lowest
byte_is : (k n : ℕ) → byte_at k n ≡ n / 256 ^ k % 256
byte_is zero n = ap (λ (x : ℕ). x % 256) (sym (div-one n))
byte_is (suc k) n = refl

-- `to_be_bytes`
pub high_first : (k n : ℕ) → bytes_high_first k n ≡ bytes_of k n
unfolding bytes_of
high_first zero n = refl
high_first (suc k) n = ap₂ {C = List ℕ} ◌∷◌ (byte_is k n) (high_first k n)

-- a part put back with other elements, as many as before
pub part_pastes : (at k n : ℕ) (part part' b : List ℕ) → k ≡ n → length part' ≡ n → at + n ≤ length b → part ≡ part' → put_mid at k b part ≡ pasted at part' b
unfolding pasted
part_pastes at k n part part' b as_many long fits same =
    let end : at + k ≡ at + length part' = omega arith in
    ap (λ (p : List ℕ). put_mid at k b p) same
    ∙ ap (λ (r : List ℕ). take at b ++ (part' ++ r)) (drop-drop k at b ∙ ap (λ (m : ℕ). drop m b) end)
    ∙ sym (append_assoc (take at b) part' (drop (at + length part') b))
    ∙ sym (sets-eq part' b at (omega arith))

-- a flag
pub flag_pastes : (at : ℕ) (flag : Bool) (b : List ℕ) → set b at (bool_byte flag) ≡ pasted at (flag_byte flag) b
unfolding pasted
flag_pastes at true b = refl
flag_pastes at false b = refl

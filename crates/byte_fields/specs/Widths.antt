-- How many bytes each value of a type takes. Assumes nothing.
use Rattle.std.specs.Prelude.{ℕ, zero, suc, ◌≡◌, Bool, true, false, length, refl}
use Rattle.std.proofs.Common.{ap}
use Rattle.byte_fields.specs.Bytes.{bytes_of, flag_byte}

pub number_width : (k n : ℕ) → length (bytes_of k n) ≡ k
unfolding bytes_of
number_width zero n = refl
number_width (suc k) n = ap suc (number_width k n)

pub flag_width : (flag : Bool) → length (flag_byte flag) ≡ 1
flag_width true = refl
flag_width false = refl

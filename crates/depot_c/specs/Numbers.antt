-- Lists of numbers as bytes, the same number of bytes for each, the high byte first. Assumes nothing.
use Rattle.std.specs.Prelude.{ℕ, ◌*◌, ◌/◌, List, length, get_or}
use Rattle.byte_fields.specs.Bytes.{bytes_of, number_at, tabulate, fields}

-- the numbers that bytes write, k bytes each
unfoldable pub numbers_in : ℕ → List ℕ → List ℕ
numbers_in k bytes = tabulate (length bytes / k) (λ i. number_at k (k * i) bytes)

-- the bytes of numbers, k bytes each
unfoldable pub bytes_in : ℕ → List ℕ → List ℕ
bytes_in k numbers = fields (length numbers) (λ i. bytes_of k (get_or numbers i 0))

-- Laws of lists of numbers as bytes: what reading and writing them one after the other leaves, that the bytes of the numbers that bytes write are these bytes,
-- and that numbers that fit their bytes are read back. Assumes nothing.
use Prim.Native.Nat.{ℕ, suc, ◌+◌, ◌*◌, ◌/◌, ◌^◌, ◌<◌}
use native.Mathlib.Nat.{mul-div_cancel_left, mul-le-mul_left, mul-suc, zero-add}
use native.Mathlib.Omega.{arith}
use mathlib.Core.Path.{◌≡◌, refl, sym, ap, ◌∙◌}
use mathlib.Core.List.{List, ◌++◌}
use lib.ListN.{length, get_or, take, drop}
use lib.Seq.{take_all, take_at}
use Rattle.byte_fields.specs.Bytes.{bytes_of, number_at, tabulate, fields, pasted}
use Rattle.byte_fields.proofs.Bytes.{Bytes, bytes_length, number_stands, lies_whole, lies_number, lies_field, fields_length, fields_of, tabulate_length, tabulate_at, tabulate_is}
use Rattle.depot_c.specs.Numbers.{numbers_in, bytes_in}
use Rattle.byte_fields.proofs.Paste.{pasted_whole}

-- as many numbers as there are times k bytes
pub numbers_length : (k : ℕ) (bytes : List ℕ) → length (numbers_in k bytes) ≡ length bytes / k
unfolding numbers_in
numbers_length k bytes = tabulate_length (length bytes / k) _

module _ (k n : ℕ) (bytes : List ℕ) (positive : 0 < k) (long : length bytes ≡ k * n) where
  -- n of them
  count_of : length bytes / k ≡ n
  count_of = rw (long, mul-div_cancel_left n positive)

  -- each number's bytes stand where it was read
  pub numbers_read_back : Bytes bytes → bytes_in k (numbers_in k bytes) ≡ bytes
  unfolding bytes_in numbers_in
  numbers_read_back are =
      let f : ℕ → ℕ = λ j. number_at k (k * j) bytes in
      let part : (i : ℕ) → i < n → bytes_of k (get_or (tabulate n f) i 0) ≡ take k (drop (0 + k * i) bytes) = λ i h.
      rw (tabulate_at n f 0 i h, zero-add (k * i)) (number_stands k (k * i) bytes are (omega (arith, mul-le-mul_left {m = suc i} {n = n} k h, mul-suc k i))) in
      let all = fields_of k n (λ i. bytes_of k (get_or (tabulate n f) i 0)) 0 bytes part in
      rw (count_of, tabulate_length n f, all) (take_all (k * n) bytes (omega arith))

-- numbers that were read one after the other are those that bytes write, whatever stands behind them
pub read_numbers : (k : ℕ) (bytes old new rest : List ℕ) → length old ≡ length bytes / k → new ≡ tabulate (length old) (λ (n : ℕ). number_at k (0 + k * n) bytes)
    → take (length bytes / k) (new ++ rest) ≡ numbers_in k bytes
unfolding numbers_in
read_numbers k bytes old new rest long read =
    let f : ℕ → ℕ = λ n. number_at k (0 + k * n) bytes in
    let g : ℕ → ℕ = λ n. number_at k (k * n) bytes in
    let m = length bytes / k in
    let same : tabulate m f ≡ tabulate m g = tabulate_is m f (tabulate m g) 0 (tabulate_length m g)
    (λ i h. ap (λ (at : ℕ). number_at k at bytes) (zero-add (k * i)) ∙ sym (tabulate_at m g 0 i h)) in
    let is : new ≡ tabulate m g = read ∙ ap (λ (n : ℕ). tabulate n f) long ∙ same in
    take_at new rest m (ap length is ∙ tabulate_length m g) ∙ is

-- numbers that were written one after the other over all of a list are their bytes
pub written_numbers : (k : ℕ) (from old new : List ℕ) → length old ≡ k * length from
    → new ≡ pasted 0 (fields (length from) (λ (n : ℕ). bytes_of k (get_or from n 0))) old → new ≡ bytes_in k from
unfolding bytes_in
written_numbers k from old new long wrote =
    let f : ℕ → List ℕ = λ n. bytes_of k (get_or from n 0) in
    wrote ∙ pasted_whole (fields (length from) f) old (fields_length k (length from) f (λ n. bytes_length k (get_or from n 0)) ∙ sym long)

-- ---- numbers read back

module _ (k : ℕ) (numbers : List ℕ) where
  -- k bytes for each number
  pub bytes_in_length : length (bytes_in k numbers) ≡ k * length numbers
  unfolding bytes_in
  bytes_in_length = fields_length k (length numbers) _ (λ i. bytes_length k (get_or numbers i 0))

  -- a number that fits them is read where they lie
  pub number_in_bytes : (i : ℕ) → i < length numbers → get_or numbers i 0 < 256 ^ k → number_at k (k * i) (bytes_in k numbers) ≡ get_or numbers i 0
  unfolding bytes_in
  number_in_bytes i h fits =
      let f : ℕ → List ℕ = λ j. bytes_of k (get_or numbers j 0) in
      rw (← zero-add (k * i))
      (lies_number k (get_or numbers i 0) fits (lies_field k (length numbers) f (λ j. bytes_length k (get_or numbers j 0)) (lies_whole (fields (length numbers) f)) i h))

  -- so numbers that all fit are those that their bytes write
  pub bytes_in_read_back : 0 < k → ((i : ℕ) → get_or numbers i 0 < 256 ^ k) → numbers_in k (bytes_in k numbers) ≡ numbers
  unfolding numbers_in
  bytes_in_read_back positive fit =
      rw (count_of k (length numbers) (bytes_in k numbers) positive bytes_in_length)
      (tabulate_is (length numbers) _ numbers 0 refl (λ i h. number_in_bytes i h (fit i)))

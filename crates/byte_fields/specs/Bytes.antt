-- Numbers as bytes, the high byte first, and fields one after the other. Assumes nothing.
use Rattle.std.specs.Prelude.{ℕ, zero, suc, ◌+◌, ◌*◌, ◌/◌, ◌%◌, ◌^◌, Bool, true, false, ◌&&◌, List, [], ◌∷◌, ◌++◌, take, drop}
use Rattle.std.proofs.lemmas.List.Edits.{sets}

-- the last k bytes of a number
unfoldable pub bytes_of : ℕ → ℕ → List ℕ
bytes_of zero n = []
bytes_of (suc k) n = n / 256 ^ k % 256 ∷ bytes_of k n

-- a flag as a byte
abbrev pub flag_byte : Bool → List ℕ
flag_byte false = 0 ∷ []
flag_byte true = 1 ∷ []

-- the number that bytes write, after those that wrote n
unfoldable pub number_after : ℕ → List ℕ → ℕ
number_after n [] = n
number_after n (b ∷ bs) = number_after (n * 256 + b) bs

-- the number of k bytes at an offset
unfoldable pub number_at : ℕ → ℕ → List ℕ → ℕ
unfolding number_after
number_at k at bytes = number_after 0 (take k (drop at bytes))

-- f 0, f 1 and so on, n of them; and these one after the other
unfoldable pub tabulate {ℓ} : {A : Type ℓ} → ℕ → (ℕ → A) → List A
tabulate zero f = []
tabulate (suc n) f = f 0 ∷ tabulate n (λ i. f (suc i))

unfoldable pub fields : ℕ → (ℕ → List ℕ) → List ℕ
fields zero f = []
fields (suc n) f = f 0 ++ fields n (λ i. f (suc i))

-- whether all of the first k numbers pass a test
unfoldable pub all_below : ℕ → (ℕ → Bool) → Bool
all_below zero test = true
all_below (suc k) test = test k && all_below k test

-- b with a part stored from an offset on, element by element: `take at b ++ part ++ drop (at + length part) b` where the part fits
unfoldable pub pasted : ℕ → List ℕ → List ℕ → List ℕ
pasted at part b = sets b at part

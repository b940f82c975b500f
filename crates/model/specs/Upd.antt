-- A function with one value changed: how the steps say that one node, one thread or one answer is another now. Assumes nothing.
use Rattle.std.specs.Prelude.{ℕ, cond, eqb}

-- f with the value v at i
unfoldable pub upd {ℓ} : {A : Type ℓ} → (ℕ → A) → ℕ → A → ℕ → A
upd f i v j = cond (eqb j i) v (f j)

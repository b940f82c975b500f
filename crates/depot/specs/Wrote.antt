-- What a function that writes text into a lent list leaves. Assumes nothing.
use Rattle.std.specs.Prelude.{ℕ, ◌+◌, ◌≡◌, List, ◌++◌, length, take, drop}

-- the text stands at a position, what was before and behind it is as it was, and the answer is the position after it
pub record Wrote (text : List ℕ) (at : ℕ) (before after : List ℕ) (answer : ℕ) : Type 0 where
  pub end : answer ≡ at + length text
  pub list : after ≡ take at before ++ text ++ drop (at + length text) before

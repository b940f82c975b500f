-- The rounds of a list of commands: document 02, A.9. Assumes nothing.
use Rattle.std.specs.Prelude.{ℕ, suc, max, Bool, cond, List, [], ◌∷◌, ◌++◌}
use Rattle.command.specs.declared.Command.{Command}
use Rattle.command.specs.Dependent.{are_dependent}

-- the largest round of those commands, with their rounds, that pass a test; 0 for none
unfoldable pub largest_where : (Command → Bool) → List Command → List ℕ → ℕ
largest_where test [] rs = 0
largest_where test (e ∷ es) [] = 0
largest_where test (e ∷ es) (r ∷ rs) = max (cond (test e) r 0) (largest_where test es rs)

-- and of those that a later command depends on
unfoldable pub largest_round : Command → List Command → List ℕ → ℕ
unfolding largest_where
largest_round c es rs = largest_where (λ (e : Command). are_dependent e c) es rs

-- the rounds of commands behind others, which have theirs: each has the first after those of the earlier ones that it depends on
unfoldable pub rounds_after : List Command → List ℕ → List Command → List ℕ
rounds_after es rs [] = rs
rounds_after es rs (c ∷ cs) = rounds_after (es ++ (c ∷ [])) (rs ++ (suc (largest_round c es rs) ∷ [])) cs

-- "a round number from 1, in a lent list of one entry a command"
unfoldable pub rounds_of : List Command → List ℕ
unfolding rounds_after
rounds_of cs = rounds_after [] [] cs

-- the largest of a list of numbers, 0 for none
unfoldable pub largest_of : List ℕ → ℕ
largest_of [] = 0
largest_of (r ∷ rs) = max r (largest_of rs)

-- "and the number of rounds, 0 for an empty list"
unfoldable pub round_count : List Command → ℕ
unfolding rounds_of largest_of
round_count cs = largest_of (rounds_of cs)

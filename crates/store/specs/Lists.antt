-- The store as the caller lends it: two lists and a count. Assumes nothing.
use Rattle.std.specs.Prelude.{ℕ, List}
use Rattle.model.specs.Store.{Store}

abbrev pub store_of : List ℕ → List ℕ → ℕ → Store
store_of keys chutes used = record { keys = keys; chutes = chutes; used = used }

-- The bytes of settings and counters. Assumes nothing.
use Rattle.std.specs.Prelude.{ℕ, List, ◌++◌}
use Rattle.model.specs.declared.Counters.{Counters}
use Rattle.state_bytes.specs.declared.Settings.{Settings}
use Rattle.byte_fields.specs.Bytes.{bytes_of}
use Rattle.state_bytes.specs.Layout.{lock_coupled}

-- `head_bytes` of settings and counters
abbrev pub head_of : Settings → Counters → List ℕ
head_of c k =
    bytes_of 1 lock_coupled ++ bytes_of 1 c.size ++ bytes_of 1 c.workers ++ bytes_of 1 c.largest ++ bytes_of 2 c.capacity ++ bytes_of 2 c.count
    ++ bytes_of 2 k.loaded.0 ++ bytes_of 2 k.used ++ bytes_of 1 k.free.0 ++ bytes_of 1 k.limit

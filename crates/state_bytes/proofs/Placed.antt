-- Where the state's sets and threads stand: each as many bytes after the one before it as it takes. Assumes nothing.
use Prim.Native.Nat.{ℕ, ◌+◌, ◌*◌}
use native.Mathlib.Omega.{arith}
use mathlib.Core.Path.{◌≡◌}
use mathlib.Core.List.{List}
use Rattle.state_bytes.specs.Layout.{set_at, thread_at}
use Rattle.state_bytes.specs.Fields.{set_in, thread_in}

pub set_placed : (b : List ℕ) (n : ℕ) → set_in (769 + 24 * n) b ≡ set_at b n
unfolding set_in set_at
set_placed b n =
    let e : 777 + 24 * n ≡ 769 + 24 * n + 8 = omega arith in
    let f : 785 + 24 * n ≡ 769 + 24 * n + 16 = omega arith in
    rw (e, f)

pub thread_placed : (b : List ℕ) (t : ℕ) → thread_in (4393 + 5 * t) b ≡ thread_at b t
unfolding thread_in thread_at
thread_placed b t =
    let e : 4394 + 5 * t ≡ 4393 + 5 * t + 1 = omega arith in
    let f : 4395 + 5 * t ≡ 4393 + 5 * t + 2 = omega arith in
    let g : 4396 + 5 * t ≡ 4393 + 5 * t + 3 = omega arith in
    rw (e, f, g)

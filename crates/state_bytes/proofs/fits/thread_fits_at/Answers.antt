-- `state_bytes::fits::thread_fits_at` meets its contract: the fields of a thread lie one after the other. Assumes nothing.
use Prim.Native.Nat.{◌+◌, ◌*◌}
use native.Mathlib.Omega.{arith}
use mathlib.Core.Path.{◌≡◌}
use Rattle.state_bytes.specs.Layout.{thread_fits_at}
use Rattle.state_bytes.proofs.fits.thread_fits_at.Goals as goal

pub returns : goal.returns
unfolding thread_fits_at
returns c =
    let t = c.args.t in
    let at : 4394 + 5 * t ≡ 4393 + 5 * t + 1 = omega arith in
    let own : 4395 + 5 * t ≡ 4393 + 5 * t + 2 = omega arith in
    let found : 4396 + 5 * t ≡ 4393 + 5 * t + 3 = omega arith in
    rw (at, own, found, ← c.number_at-found.ensures) c.thread_fits.ensures

-- `state_bytes::read::read_graph` meets its contract. Assumes nothing.
use Prim.Native.Nat.{ℕ, zero, suc, ◌<◌}
use native.Mathlib.Omega.{arith}
use mathlib.Core.Path.{◌≡◌, refl, ap}
use lib.ListN.{get_or}
use lib.Dec.{eqb}
use lib.ListN.{replicate}
use Rattle.std.specs.Prelude.{Some}
use Rattle.std.specs.List.{slice_get}
use Rattle.byte_fields.proofs.Fill.{tabulate_as}
use Rattle.state_bytes.proofs.Placed.{set_placed}
use Rattle.state_bytes.proofs.read.read_graph.Goals as goal

-- each element of copies is the one that they are copies of
each_alike : {A : Type 0} (k n : ℕ) (a : A) → n < k → slice_get (replicate k a) n ≡ Some a
each_alike zero n a h = absurd (omega arith)
each_alike (suc k) zero a h = refl
each_alike (suc k) (suc n) a h = each_alike k n a (omega arith)

pub returns : goal.returns
returns c =
    let b = c.args.state.now in
    record {
      next_is = tabulate_as c.read_fields.ensures refl (λ n. ap (λ (at : ℕ). get_or b at 0) (omega arith));
      seq_is = tabulate_as c.read_fields-2.ensures refl (λ n. refl);
      executing_is = tabulate_as c.read_fields-3.ensures refl (λ n. ap (λ (at : ℕ). eqb (get_or b at 0) 1) (omega arith));
      locked_is = tabulate_as c.read_fields-4.ensures refl (λ n. ap (λ (at : ℕ). eqb (get_or b at 0) 1) (omega arith));
      waits_is = tabulate_as c.read_fields-5.ensures refl (set_placed b);
      items_are = λ n h. each_alike 151 n _ h;
    }

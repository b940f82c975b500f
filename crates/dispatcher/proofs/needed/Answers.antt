-- `dispatcher::needed` meets its contract: the parts of the bound are read, and their product is small. Assumes nothing.
use Prim.Native.Nat.{ℕ, ◌+◌, ◌-◌, ◌*◌, ◌≤◌}
use native.Mathlib.Nat.{mul-le-mul}
use native.Mathlib.Omega.{arith}
use mathlib.Core.Path.{◌≡◌, sym, ap₂, ◌∙◌}
use mathlib.Core.List.{List}
use lib.ListN.{length, get_or}
use Rattle.byte_fields.specs.Bytes.{number_at}
use Rattle.byte_fields.proofs.Fill.{number_one}
use Rattle.state_bytes.specs.Layout.{state_length}
use Rattle.dispatcher.proofs.Bound.{needed_in}
use Rattle.dispatcher.proofs.needed.Goals as goal

-- byte 1 is the size, and byte 3 the largest worker count
byte_1_read : (b : List ℕ) → length b ≡ state_length → number_at 1 1 b ≡ get_or b 1 0
unfolding state_length
byte_1_read b long = number_one 1 b (omega arith)

byte_3_read : (b : List ℕ) → length b ≡ state_length → number_at 1 3 b ≡ get_or b 3 0
unfolding state_length
byte_3_read b long = number_one 3 b (omega arith)

-- a product of numbers so small fits
product_fits : (a b : ℕ) → a ≤ 65750 → b ≤ 456 → a * b ≤ 29982000
product_fits a b h k = mul-le-mul {n₁ = a} {m₁ = b} {n₂ = 65750} {m₂ = 456} h k

pub used_nodes-used-requires : goal.used_nodes-used-requires
used_nodes-used-requires c =
    let size_in : number_at 1 1 c.args.state.now ≡ get_or c.args.state.now 1 0 = byte_1_read c.args.state.now c.requires.0 in
    (c.requires.0, omega (arith, size_in, c.requires))

pub overflow_add-result-2 : goal.overflow_add-result-2
overflow_add-result-2 c = let largest_in : number_at 1 3 c.args.state.now ≡ get_or c.args.state.now 3 0 = byte_3_read c.args.state.now c.requires.0 in
    omega (arith, largest_in, c.requires)

pub overflow_mul-result : goal.overflow_mul-result
overflow_mul-result c = let size_in : number_at 1 1 c.args.state.now ≡ get_or c.args.state.now 1 0 = byte_1_read c.args.state.now c.requires.0 in
    omega (arith, size_in, c.requires)

pub overflow_add-result-3 : goal.overflow_add-result-3
overflow_add-result-3 c = let size_in : number_at 1 1 c.args.state.now ≡ get_or c.args.state.now 1 0 = byte_1_read c.args.state.now c.requires.0 in
    omega (arith, size_in, c.requires)

pub overflow_mul-result-2 : goal.overflow_mul-result-2
overflow_mul-result-2 c =
    let size_in : number_at 1 1 c.args.state.now ≡ get_or c.args.state.now 1 0 = byte_1_read c.args.state.now c.requires.0 in
    let largest_in : number_at 1 3 c.args.state.now ≡ get_or c.args.state.now 3 0 = byte_3_read c.args.state.now c.requires.0 in
    let size = get_or c.args.state.now 1 0 in
    let largest = get_or c.args.state.now 3 0 in
    let few : size ≤ 150 = omega (arith, size_in, c.requires) in
    let workers : largest ≤ 64 = omega (arith, largest_in, c.requires) in
    omega (arith, product_fits (c.saturating_sub-left.result + c.used_nodes-used.result + largest) (3 * size + 6) (omega arith) (omega arith))

pub returns : goal.returns
returns c =
    let size_in : number_at 1 1 c.args.state.now ≡ get_or c.args.state.now 1 0 = byte_1_read c.args.state.now c.requires.0 in
    let largest_in : number_at 1 3 c.args.state.now ≡ get_or c.args.state.now 3 0 = byte_3_read c.args.state.now c.requires.0 in
    let count = c.number_at.ensures in
    let loaded = c.number_at-2.ensures in
    needed_in (record {
      left_is = c.saturating_sub-left.ensures ∙ ap₂ ◌-◌ count loaded;
      used_is = c.used_nodes-used.ensures.0;
      size_is = sym size_in;
      size_fits = omega (arith, size_in, c.requires);
      largest_is = sym largest_in;
    })

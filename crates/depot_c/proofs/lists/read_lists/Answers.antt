-- `depot_c::lists::read_lists` meets its contract: the first entries of each room are filled. Assumes nothing.
use Prim.Native.Nat.{◌/◌}
use mathlib.Core.Path.{◌≡◌}
use native.Mathlib.Omega.{arith}
use borrow.Author.Rules.{rules}
use lib.ListN.{length}
use lib.Seq.{length-take-le}
use Rattle.depot_c.proofs.Entries.{read_numbers}
use Rattle.depot_c.proofs.Outcomes.{lent_lengths}
use Rattle.depot_c.proofs.lists.read_lists.Goals as goal

pub slice_bounds-read_fields-end : goal.slice_bounds-read_fields-end
slice_bounds-read_fields-end c = (lent_lengths _ _ _ c.requires).1.0

pub slice_bounds-read_fields-end-3 : goal.slice_bounds-read_fields-end-3
slice_bounds-read_fields-end-3 c = (lent_lengths _ _ _ c.requires).1.1

pub slice_bounds-read_fields-end-5 : goal.slice_bounds-read_fields-end-5
slice_bounds-read_fields-end-5 c = (lent_lengths _ _ _ c.requires).1.2

pub returns : goal.returns
returns c =
    let few = (lent_lengths _ _ _ c.requires).1 in
    let rooms : (length c.args.key_room.now ≡ 4096) × (length c.args.chute_room.now ≡ 4096) × (length c.args.answer_room.now ≡ 4096) = (search rules, search rules, search rules) in
    record {
      keys_are = read_numbers 8 c.args.keys.now _ _ _ (length-take-le (length c.args.keys.now / 8) c.args.key_room.now (omega (arith, few.0, rooms.0))) c.read_fields.ensures;
      chutes_are = read_numbers 2 c.args.chutes.now _ _ _ (length-take-le (length c.args.chutes.now / 2) c.args.chute_room.now (omega (arith, few.1, rooms.1))) c.read_fields-2.ensures;
      answers_are = read_numbers 2 c.args.answers.now _ _ _ (length-take-le (length c.args.answers.now / 2) c.args.answer_room.now (omega (arith, few.2, rooms.2))) c.read_fields-3.ensures;
    }

-- `depot::text::put_byte` meets its contract: a store is a cut and a paste. Assumes nothing.
use native.Mathlib.Numerals.{add-one}
use mathlib.Core.Path.{refl}
use borrow.Author.Rules.{rules}
use lib.Seq.{set_split, append_snoc}
use Rattle.depot.proofs.text.put_byte.Goals as goal

pub returns : goal.returns
returns c =
    record {
      end = refl;
      list = rw (set_split c.args.out.now c.args.at c.args.byte (search rules), append_snoc, add-one);
    }

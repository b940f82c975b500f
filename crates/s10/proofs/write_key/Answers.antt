-- `s10::write_key` meets its contract: the three parts fill the list from left to right. Assumes nothing.
use Prim.Native.Nat.{ℕ, ◌/◌, ◌%◌}
use mathlib.Core.Path.{◌≡◌}
use mathlib.Core.List.{List, ◌++◌, append-nil}
use native.Mathlib.Omega.{arith}
use borrow.Rule.Slice.PartMut.{put_mid}
use lib.ListN.{length, drop, drop_of_length-le, length-drop}
use lib.Seq.{length-take-le, take_at, drop_at}
use Rattle.s10.specs.Text.{letters, text_of, largest_key}
use Rattle.s10.specs.Parts.{serial_text}
use Rattle.s10.proofs.TextOf.{text_of_parts, length_serial}
use Rattle.s10.proofs.write_key.Goals as goal

-- each part goes in after those before it, and the last fills the list
text_written : (key : ℕ) (text first serial last : List ℕ) → length text ≡ 13 →
    first ≡ letters (key / 67_600_000_000) → serial ≡ serial_text (key / 676) → last ≡ letters (key % 676) →
    put_mid 11 2 (put_mid 2 9 (first ++ drop 2 text) serial) last ≡ text_of key
unfolding letters
text_written key text first serial last long f s l =
    let nine : length serial ≡ 9 = rw s (length_serial (key / 676)) in
    let rest : length (drop 9 (drop 2 text)) ≡ 2 = simp length-drop (omega arith) in
    let none = drop_of_length-le (drop 9 (drop 2 text)) {i = 2} (omega arith) in
    rw (f, take_at serial (drop 9 (drop 2 text)) 9 nine, drop_at serial (drop 9 (drop 2 text)) 9 nine, none, append-nil, l, s, text_of_parts)

pub write_pair-requires : goal.write_pair-requires
unfolding largest_key
write_pair-requires c = (omega arith, length-take-le 2 c.args.text.now (omega arith))

pub returns : goal.returns
returns c =
    text_written c.args.key c.args.text.now _ _ _ c.requires.1 c.write_pair.ensures c.write_serial.ensures c.write_pair-2.ensures

-- Giving the commands of a list their rounds, one after the other: what the loop of `rounds::number` keeps. Assumes nothing.
use Prim.Native.Nat.{ℕ, suc, ◌+◌, ◌*◌, ◌<◌}
use mathlib.Core.Path.{◌≡◌, refl, sym, ap, ◌∙◌}
use mathlib.Core.List.{List, [], ◌∷◌, ◌++◌, map, append_assoc, append-nil}
use native.Mathlib.Omega.{arith}
use lib.ListN.{length, take, drop, length-append}
use lib.Seq.{take-append_seam, drop-append_seam}
use Rattle.s10.specs.Refusal.{Refusal, at_place}
use Rattle.command.specs.declared.Command.{Command}
use Rattle.command.specs.Read.{read_command, accepted, refused, readings, first_refusal, all_accepted, list_refused, command_in, commands_in, parts_of, parts}
use Rattle.command.proofs.Laws.{accepted_as_untested}
use Rattle.command.proofs.Parts.{parts_cons}
use Rattle.rounds.specs.declared.Numbered.{Numbered}
use Rattle.rounds.specs.Rounds.{largest_where, rounds_after, rounds_of, largest_of, round_count}
use Rattle.key_links.specs.Links.{last_of, at_link}
use Rattle.rounds.specs.Ways.{top_of}
use Rattle.rounds.specs.Entered.{Holds}
use Rattle.rounds.proofs.Promise.{rounds_are_needed}

-- the first i commands have their rounds, and the rest of the list is read next
pub record Numbering (list rest rounds : List ℕ) (n : Numbered) (i : ℕ) : Type 0 where
  pub inside : 16 * i + length rest ≡ length list
  pub refusal : first_refusal (suc i) (readings rest) ≡ first_refusal 1 (readings list)
  pub es : List Command
  pub count : length es ≡ i
  pub before : es ++ commands_in rest ≡ commands_in list
  pub holds : Holds es rounds n

-- at first none has
pub begins : (list rounds : List ℕ) (n : Numbered) → n.links ≡ [] → n.largest ≡ record { top = 0; fence = 0; writers = 0 } → Numbering list list rounds n 0
unfolding last_of at_link largest_where rounds_of rounds_after
begins list rounds n links largest = record {
  inside = omega arith;
  refusal = refl;
  es = [];
  count = refl;
  before = refl;
  holds = rw (links, largest) (refl, record { placed = refl; top = refl; fence = refl; writers = refl; all = λ key. refl; changed = λ key. refl });
}

-- a part, and those behind it
part_before : (rest part next : List ℕ) → rest ≡ part ++ next → length part ≡ 16 → parts_of rest ≡ part ∷ parts_of next
part_before rest part next is long =
    let some : 0 < length rest = omega (arith, ap length is, length-append part next, long) in
    let first : take 16 rest ≡ part = rw (is, ← long) (take-append_seam part next) in
    let behind : drop 16 rest ≡ next = rw (is, ← long) (drop-append_seam part next) in
    parts_cons rest some ∙ rw (first, behind)

module _ {list rest rounds : List ℕ} {m : Numbered} {i : ℕ} (n : Numbering list rest rounds m i) (part next : List ℕ) (is : rest ≡ part ++ next) (long : length part ≡ 16) where
  read_next : readings rest ≡ read_command part ∷ readings next
  unfolding readings
  read_next = ap (map read_command) (part_before rest part next is long)

  command_next : commands_in rest ≡ command_in part ∷ commands_in next
  unfolding commands_in
  command_next = ap (map command_in) (part_before rest part next is long)

  -- one more
  pub goes : (c : Command) → read_command part ≡ accepted c → {rounds' : List ℕ} {m' : Numbered} → Holds (n.es ++ (c ∷ [])) rounds' m' → Numbering list next rounds' m' (suc i)
  unfolding first_refusal
  goes c read holds = record {
    inside = omega (arith, n.inside, ap length is, length-append part next, long);
    refusal = let place : suc i + 1 ≡ suc (suc i) = omega arith in rw (← place) (rw (read_next, read) at n.refusal);
    es = n.es ++ (c ∷ []);
    count = length-append n.es (c ∷ []) ∙ omega (arith, n.count);
    before = append_assoc n.es (c ∷ []) (commands_in next) ∙ rw (← accepted_as_untested part c read) (ap (λ (cs : List Command). n.es ++ cs) (sym command_next) ∙ n.before);
    holds = holds;
  }

  -- a refusal is the list's
  pub stops : (r : Refusal) → read_command part ≡ refused r → list_refused (at_place (suc i) r) ≡ first_refusal 1 (readings list)
  unfolding first_refusal
  stops r read = rw (read_next, read) at n.refusal

-- the largest of all rounds is their number
all_largest : (es : List Command) (rs : List ℕ) → length rs ≡ length es → top_of es rs ≡ largest_of rs
unfolding largest_where largest_of
all_largest [] [] long = refl
all_largest [] (r ∷ rs) long = absurd (omega arith)
all_largest (e ∷ es) [] long = absurd (omega arith)
all_largest (e ∷ es) (r ∷ rs) long = rw (all_largest es rs (omega arith))

top_largest : (es : List Command) → top_of es (rounds_of es) ≡ largest_of (rounds_of es)
top_largest es = all_largest es (rounds_of es) (rounds_are_needed es).long

-- at the end all have theirs
pub ends : {list rest rounds : List ℕ} {m : Numbered} {i : ℕ} → Numbering list rest rounds m i → length rest ≡ 0 →
    (all_accepted ≡ first_refusal 1 (readings list)) × (take i rounds ≡ rounds_of (commands_in list)) × (m.largest.top ≡ round_count (commands_in list))
unfolding first_refusal readings commands_in parts_of parts round_count
ends {list} {rest} {rounds} {m} {i} n h =
    let none : rest ≡ [] = no_items rest h in
    let all : n.es ≡ commands_in list = sym (append-nil n.es) ∙ rw none at n.before in (
      rw none at n.refusal,
      rw (← n.count, ← all) n.holds.1.placed,
      rw (← all) (n.holds.1.top ∙ top_largest n.es),
    )
  where
    no_items : (xs : List ℕ) → length xs ≡ 0 → xs ≡ []
    no_items [] e = refl
    no_items (x ∷ xs) e = absurd (omega arith)

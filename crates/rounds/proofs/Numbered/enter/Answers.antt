-- The command gets the round of its ways, and goes behind the others. Assumes nothing.
use Rattle.std.proofs.Common.{◌≡◌, cond, ℕ, length, ◌≤◌, ◌∙◌, arith, rules}
use Rattle.command.specs.Dependent.{is_read}
use Rattle.rounds.specs.Entered.{alls, changes}
use Rattle.key_links.specs.Links.{at_link, last_of}
use Rattle.rounds.proofs.Entered.{round_is, holds_more, entered_low, all_low, changed_low}
use Rattle.rounds.proofs.Numbered.enter.Goals as goal
use Rattle.rounds.proofs.Numbered.enter.Goals.{then-read, else-read}

pub round_of-round-requires : goal.round_of-round-requires
round_of-round-requires c =
    let n = c.args.self.now in
    let h = c.requires.1.2 in
    let low = entered_low h.1 in
    let all = rw h.0 at c.of_key-of_key.ensures.all in
    let changing = rw h.0 at c.of_key-of_key.ensures.changing in
    let same : c.if-read.same ≤ 4095 = elim c.if-read.branch [
      | then-read w ↦ omega (arith, w.same-is, changing, changed_low h.1 c.args.command.key, h.0, c.requires.0)
      | else-read w ↦ omega (arith, w.same-is, all, all_low h.1 c.args.command.key, h.0, c.requires.0)
    ] in
    (omega (arith, low.0, h.0, c.requires.0), omega (arith, low.1, h.0, c.requires.0), omega (arith, low.2, h.0, c.requires.0), same)

pub returns : goal.returns
returns c = λ es rounds long h.
    let n = c.args.self.now in
    let link : ℕ = last_of n.links c.args.command.key (length n.links) in
    let same : c.if-read.same ≡ cond (is_read c.args.command.kind) (at_link (changes n) link) (at_link (alls n) link) = elim c.if-read.branch [
      | then-read w ↦ rw (← c.is_read-read.ensures, w.if-read.true) (w.same-is ∙ c.of_key-of_key.ensures.changing)
      | else-read w ↦ rw (← c.is_read-read.ensures, w.if-read.false) (w.same-is ∙ c.of_key-of_key.ensures.all)
    ] in
    let is = c.round_of-round.ensures ∙ round_is es rounds n c.args.command h c.if-read.same same in
    let of_keys : length n.of_keys ≡ 4096 = search rules in
    holds_more es rounds n c.args.command h c.round_of-round.result _ is (omega (arith, of_keys, h.0, c.requires.0)) long c.enter-place.ensures.1
    (rw (c.enter-place.ensures.0, c.count.ensures, c.of_key-of_key.ensures.all, c.of_key-of_key.ensures.changing, c.is_read-read.ensures)) c.count-2.ensures

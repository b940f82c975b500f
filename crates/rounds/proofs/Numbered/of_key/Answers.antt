-- What stands at the last command of the key. Assumes nothing.
use Rattle.std.proofs.Common.{length, sym, ◌∙◌, arith}
use Rattle.std.proofs.Math.ListN.{get_or-map}
use Rattle.key_links.specs.Links.{at_link}
use Rattle.key_links.proofs.Links.{link_of_place, link_of_none, last_of_below}
use Rattle.rounds.specs.declared.OfKey.{OfKey}
use Rattle.rounds.proofs.Numbered.of_key.Goals as goal

pub bounds-self-place : goal.bounds-self-place
bounds-self-place c =
    let n = c.args.self.now in
    let link = link_of_place _ _ (sym c.in-Some.is ∙ c.find.ensures) in
    omega (arith, link, last_of_below n.links c.args.key (length n.links), c.requires)

pub offset_bounds-self-place : goal.offset_bounds-self-place
offset_bounds-self-place c =
    let n = c.args.self.now in
    let link = link_of_place _ _ (sym c.in-Some.is ∙ c.find.ensures) in
    omega (arith, link, last_of_below n.links c.args.key (length n.links), c.requires)

pub returns-in-Some-clause-all : goal.returns-in-Some-clause-all
unfolding at_link
returns-in-Some-clause-all c =
    let link = link_of_place _ _ (sym c.in-Some.is ∙ c.find.ensures) in
    rw link (sym (get_or-map (λ (k : OfKey). k.all) c.args.self.now.of_keys c.in-Some.place (record { all = 0; changing = 0 })))

pub returns-in-Some-clause-changing : goal.returns-in-Some-clause-changing
unfolding at_link
returns-in-Some-clause-changing c =
    let link = link_of_place _ _ (sym c.in-Some.is ∙ c.find.ensures) in
    rw link (sym (get_or-map (λ (k : OfKey). k.changing) c.args.self.now.of_keys c.in-Some.place (record { all = 0; changing = 0 })))

pub returns-in-None-clause-all : goal.returns-in-None-clause-all
unfolding at_link
returns-in-None-clause-all c =
    rw (link_of_none _ (sym c.in-None.is ∙ c.find.ensures)) c.default.ensures.0

pub returns-in-None-clause-changing : goal.returns-in-None-clause-changing
unfolding at_link
returns-in-None-clause-changing c =
    rw (link_of_none _ (sym c.in-None.is ∙ c.find.ensures)) c.default.ensures.1

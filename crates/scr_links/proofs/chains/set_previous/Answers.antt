-- Each branch is one step.
use Rattle.std.proofs.Common.{◌≡◌, ◌<◌, ap, length, ◌∙◌, eqb, false, ne_eqb}
use Rattle.std.proofs.lemmas.List.{get_or_default}
use Rattle.scr_links.specs.Chains.{none, unlinked}
use Rattle.scr_links.proofs.Linked.{sets_last, sets_previous}
use Rattle.scr_links.proofs.chains.set_previous.Goals as goal

pub returns-then-place-eq-NONE : goal.returns-then-place-eq-NONE
returns-then-place-eq-NONE c =
    rw c.if-place-eq-NONE.true (sets_last c.args.links.now.items c.args.ends.now c.args.previous)

pub returns-else-place-eq-NONE : goal.returns-else-place-eq-NONE
returns-else-place-eq-NONE c =
    let some : eqb c.args.place none ≡ false = ne_eqb c.args.place none c.if-place-eq-NONE.false in
    let low : c.args.place < length c.args.links.now.items = c.requires some in
    sets_previous c.args.links.now.items c.args.ends.now c.args.place _ low some
    (ap (λ link. link.next) (c.index_mut.ensures.value
    ∙ get_or_default c.args.links.now.items c.args.place c.index_mut.result.now unlinked low))

use Rattle.std.proofs.Common.{refl, subst, sym}
use Rattle.scr_sum_slots.specs.PartNumbers.{PartAt}
use Rattle.scr_sum_slots.specs.Parts.{AreOwn, Parted}
use Rattle.scr_tree.proofs.BlocksAt.{block-stands, not-part, not-roll, not-sum}
use Rattle.scr_tree.proofs.graph.Numbers.block_at.Goals as goal

pub returns-in_err-part-clause-absent : goal.returns-in_err-part-clause-absent
returns-in_err-part-clause-absent c = λ none block at live.
    let places = c.args.self.now.places.now in
    let number = c.args.number in
    not-part c.args.self.now.book.now places c.args.self.now.lists.now c.requires number
    (λ part place found. c.in_err-part.ensures.absent refl part place
    (subst (λ (parts : Parted). PartAt parts places part place number) (sym c.parts-parts.ensures) found)) block at

pub returns-in_err-roll-clause-absent : goal.returns-in_err-roll-clause-absent
returns-in_err-roll-clause-absent c = λ none block at live.
    let places = c.args.self.now.places.now in
    let number = c.args.number in
    let part = c.in_ok-part.part in
    not-roll c.args.self.now.book.now places c.args.self.now.lists.now c.requires number part c.in_ok-part.own
    (subst (λ (parts : Parted). PartAt parts places part c.in_ok-part.own number) c.parts-parts.ensures c.in_ok-part.ensures.there)
    c.len-numbers.ensures.apart (subst AreOwn c.parts-parts.ensures c.len-slots.ensures.own) block at (c.in_err-roll.ensures.absent refl) live

pub returns-in_err-sum_at-clause-absent : goal.returns-in_err-sum_at-clause-absent
returns-in_err-sum_at-clause-absent c = λ none block at live.
    let places = c.args.self.now.places.now in
    let number = c.args.number in
    let part = c.in_ok-part.part in
    not-sum c.args.self.now.book.now places c.args.self.now.lists.now c.requires number part c.in_ok-part.own
    (subst (λ (parts : Parted). PartAt parts places part c.in_ok-part.own number) c.parts-parts.ensures c.in_ok-part.ensures.there)
    c.len-numbers.ensures.apart (subst AreOwn c.parts-parts.ensures c.len-slots.ensures.own) block at
    c.in_ok-roll.roll c.in_ok-roll.ensures.there (sym c.in_err-sum_at.ensures)

pub returns-clause-there : goal.returns-clause-there
returns-clause-there c =
    let places = c.args.self.now.places.now in
    let number = c.args.number in
    let part = c.in_ok-part.part in
    block-stands c.args.self.now.book.now places c.args.self.now.lists.now c.requires number part c.in_ok-part.own
    (subst (λ (parts : Parted). PartAt parts places part c.in_ok-part.own number) c.parts-parts.ensures c.in_ok-part.ensures.there)
    c.in_ok-roll.roll c.in_ok-roll.ensures.there c.in_ok-sum_at.field-0 (sym c.in_ok-sum_at.ensures)

use Rattle.std.proofs.Common.{◌≡◌, ◌<◌, ◌≤◌, ◌^◌, Some, refl, sym, subst, arith}
use Rattle.scr_sum_tree.specs.declared.blocks.Level.TheVariants as levels
use Rattle.scr_sum_slots.specs.Parts.{AreOwn, Parted, slot_of}
use Rattle.scr_block_graph.specs.BlockNumbers.{list_number, part_of, place_of}
use Rattle.scr_block_graph.specs.Sums.{roll_of}
use Rattle.scr_tree.proofs.SumNumbers.{are-own, none-there}
use Rattle.scr_tree.proofs.sums.blocks_of.Goals as goal

pub returns-in_err-found-clause-absent : goal.returns-in_err-found-clause-absent
returns-in_err-found-clause-absent c = λ none.
    let numbers = c.args.numbers in
    let sum = c.args.sum.now in
    none-there numbers c.requires.numbers c.requires.valid sum (subst AreOwn c.parts-parts.ensures c.len-slots.ensures.own)
    (λ n at.
    let far : 2 ^ 31 ≤ list_number (roll_of sum) at.roll =
    c.in_err-found.ensures.absent refl (list_number (roll_of sum) at.roll) (place_of sum)
    (record { roll = at.roll; numbered = at.numbered; listed = refl; placed = refl }) in
    let own = part_of at.roll (record { sum = sum; level = levels.First; index = 0 }) in
    let near : list_number (roll_of sum) at.roll < 2 ^ 31 =
    c.len-slots.ensures.lists own at.slot (subst (λ (p : Parted). slot_of own p ≡ Some at.slot) (sym c.parts-parts.ensures) at.part) in
    absurd (omega (arith, far, near)))

pub returns-clause-there : goal.returns-clause-there
returns-clause-there c =
    let numbers = c.args.numbers in
    let found = c.in_ok-found.found in
    let stands = c.in_ok-found.ensures.there in
    are-own numbers c.requires.numbers c.requires.valid c.args.sum.now (subst AreOwn c.parts-parts.ensures c.len-slots.ensures.own)
    c.len-size.ensures.apart c.len-size.ensures.within stands.roll stands.numbered
    (record { parts = c.parts-parts.result; places = numbers.places; list = found.0; own = found.1 })
    c.parts-parts.ensures refl stands.listed stands.placed

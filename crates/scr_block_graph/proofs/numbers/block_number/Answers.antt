use Rattle.std.proofs.Common.{ℕ, ◌<◌, ◌≤◌, ◌^◌, Option, refl, arith}
use Rattle.scr_sum_slots.specs.PartNumbers.{PartAt}
use Rattle.scr_sheet.specs.declared.roll.Roll.{Roll}
use Rattle.scr_book.specs.Rolls.{number_of_roll}
use Rattle.scr_block_graph.specs.BlockNumbers.{BlockAt, list_number, part_of, place_of}
use Rattle.scr_block_graph.specs.Sums.{roll_of}
use Rattle.scr_block_graph.proofs.Numbered.{from-block, if-some-map, to-block}
use Rattle.scr_block_graph.proofs.numbers.block_number.Goals as goal

pub returns-in_err-found-clause-absent : goal.returns-in_err-found-clause-absent
returns-in_err-found-clause-absent c = λ none number at.
    let sum = c.args.block.now.sum in
    let far : 2 ^ 31 ≤ list_number (roll_of sum) at.roll =
    c.in_err-found.ensures.absent refl (list_number (roll_of sum) at.roll) (place_of sum)
    (record { roll = at.roll; numbered = at.numbered; listed = refl; placed = refl }) in
    let near : list_number (roll_of sum) at.roll < 2 ^ 31 = c.len-slots.ensures.lists (part_of at.roll c.args.block.now) at.slot at.part in
    absurd (omega (arith, far, near))

pub returns-clause-there : goal.returns-clause-there
returns-clause-there c =
    let numbers : Roll → Option ℕ = λ roll. number_of_roll roll c.args.book.now.rolls in
    let block = c.args.block.now in
    let found = c.in_ok-found.found in
    let stands = c.in_ok-found.ensures.there in
    if-some-map (PartAt c.args.parts.now c.args.places.now (record { list = found.0; level = block.level; index = block.index }) found.1)
    (BlockAt numbers c.args.parts.now c.args.places.now block)
    (to-block numbers c.args.parts.now c.args.places.now block (roll_of block.sum) refl
    stands.roll stands.numbered found.0 stands.listed found.1 stands.placed)
    c.number.result c.number.ensures.there

pub returns-clause-absent : goal.returns-clause-absent
returns-clause-absent c =
    let numbers : Roll → Option ℕ = λ roll. number_of_roll roll c.args.book.now.rolls in
    let block = c.args.block.now in
    let found = c.in_ok-found.found in
    let stands = c.in_ok-found.ensures.there in
    λ none number at.
    c.number.ensures.absent none number
    (from-block numbers c.args.parts.now c.args.places.now block (roll_of block.sum) refl
    stands.roll stands.numbered found.0 stands.listed found.1 stands.placed
    number at)

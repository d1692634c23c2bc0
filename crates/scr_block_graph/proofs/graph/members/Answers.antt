use Rattle.std.proofs.Common.{ap, ◌∙◌}
use Rattle.scr_book.specs.Rolls.{roll_of as names_in}
use Rattle.scr_block_graph.proofs.Counts.{few_members}
use Rattle.scr_block_graph.proofs.Own.{own-roll}
use Rattle.scr_block_graph.proofs.graph.members.Goals as goal

pub returns-clause-names : goal.returns-clause-names
returns-clause-names c = c.roll.ensures.names ∙ ap (λ roll. names_in roll c.args.book.now.rolls) c.roll-roll.ensures

pub returns-clause-own : goal.returns-clause-own
returns-clause-own c = own-roll c.args.book.now c.args.sum.now c.roll-roll.result c.roll-roll.ensures c.roll.ensures.apart c.roll.ensures.members

pub returns-clause-few : goal.returns-clause-few
returns-clause-few c =
    few_members _ c.sheet-sheet.ensures.valid c.args.sum.now
    (own-roll c.args.book.now c.args.sum.now c.roll-roll.result c.roll-roll.ensures c.roll.ensures.apart c.roll.ensures.members)

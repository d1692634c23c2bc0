use Rattle.std.proofs.Common.{◌∙◌}
use Rattle.scr_block_graph.proofs.Laters.{position-kept, position-later}
use Rattle.scr_block_graph.proofs.later.position_after.Goals as goal

pub returns-in-Security : goal.returns-in-Security
returns-in-Security c =
    c.row_after.ensures
    ∙ position-later c.args.sheet.now c.requires.valid c.args.name.now c.in-Security.own c.in-Security.new c.args.change.now c.in-Security.is c.requires.named

pub returns-in_default : goal.returns-in_default
returns-in_default c = c.get.ensures ∙ position-kept c.args.sheet.now c.args.name.now c.args.change.now c.in_default.not-Security

use Rattle.std.proofs.Common.{◌∙◌}
use Rattle.scr_block_graph.proofs.Laters.{group-kept, group-later}
use Rattle.scr_block_graph.proofs.later.group_after.Goals as goal

pub returns-in-Group : goal.returns-in-Group
returns-in-Group c =
    c.row_after.ensures
    ∙ group-later c.args.sheet.now c.requires.valid c.args.name.now c.in-Group.own c.in-Group.new c.args.change.now c.in-Group.is c.requires.named

pub returns-in_default : goal.returns-in_default
returns-in_default c = c.get.ensures ∙ group-kept c.args.sheet.now c.args.name.now c.args.change.now c.in_default.not-Group

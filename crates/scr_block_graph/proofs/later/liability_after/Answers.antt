use Rattle.std.proofs.Common.{◌∙◌}
use Rattle.scr_block_graph.proofs.Laters.{liability-kept, liability-later}
use Rattle.scr_block_graph.proofs.later.liability_after.Goals as goal

pub returns-in-Liability : goal.returns-in-Liability
returns-in-Liability c =
    c.row_after.ensures
    ∙ liability-later c.args.sheet.now c.requires.valid c.args.name.now c.in-Liability.own c.in-Liability.new c.args.change.now c.in-Liability.is c.requires.named

pub returns-in_default : goal.returns-in_default
returns-in_default c = c.get.ensures ∙ liability-kept c.args.sheet.now c.args.name.now c.args.change.now c.in_default.not-Liability

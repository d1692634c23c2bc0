use Rattle.std.proofs.Common.{◌∙◌}
use Rattle.scr_block_graph.proofs.Laters.{stake-kept, stake-later}
use Rattle.scr_block_graph.proofs.later.stake_after.Goals as goal

pub returns-in-Fund : goal.returns-in-Fund
returns-in-Fund c =
    c.row_after.ensures
    ∙ stake-later c.args.sheet.now c.requires.valid c.args.name.now c.in-Fund.own c.in-Fund.new c.args.change.now c.in-Fund.is c.requires.named

pub returns-in_default : goal.returns-in_default
returns-in_default c = c.get.ensures ∙ stake-kept c.args.sheet.now c.args.name.now c.args.change.now c.in_default.not-Fund

use Rattle.std.proofs.Common.{◌∙◌}
use Rattle.scr_block_graph.proofs.Laters.{curve-kept, curve-later}
use Rattle.scr_block_graph.proofs.later.curve_after.Goals as goal

pub returns-in-Curve : goal.returns-in-Curve
returns-in-Curve c =
    c.row_after.ensures
    ∙ curve-later c.args.sheet.now c.requires.valid c.args.currency.now c.in-Curve.own c.in-Curve.new c.args.change.now c.in-Curve.is c.requires.named

pub returns-in_default : goal.returns-in_default
returns-in_default c = c.get.ensures ∙ curve-kept c.args.sheet.now c.args.currency.now c.args.change.now c.in_default.not-Curve

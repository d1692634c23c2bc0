use Rattle.std.proofs.Common.{sym, subst}
use Rattle.scr_discounts.specs.Kept.{AreDiscountsOf}
use Rattle.scr_discounts.proofs.CurveRows.{all-are}
use Rattle.scr_discounts.proofs.falling.with_falls.Goals as goal

pub all_falls-requires-clause-rows : goal.all_falls-requires-clause-rows
all_falls-requires-clause-rows c =
    subst (AreDiscountsOf c.args.sheet.now.curves) (sym c.requires.rows) (all-are c.args.sheet.now c.requires.valid)

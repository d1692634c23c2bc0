use Rattle.std.proofs.Common.{sym, ◌∙◌}
use Rattle.scr_discounts.proofs.FallRows.{kept-row, kept-row-within}
use Rattle.scr_discounts.proofs.discounting.row_after.Goals as goal

pub row-discounts-requires : goal.row-discounts-requires
row-discounts-requires c = kept-row-within c.args.kept.now c.args.place c.args.curve.now.rates (c.requires.kept (sym c.eq.ensures ∙ c.if-eq.false))

pub returns : goal.returns
returns c = kept-row c.args.kept.now c.args.place c.row-discounts.result.now c.args.curve.now.rates (c.requires.kept (sym c.eq.ensures ∙ c.if-eq.false)) c.row-discounts.ensures

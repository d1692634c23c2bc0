use Rattle.scr_discounts.proofs.FallRows.{along-table}
use Rattle.scr_rules.proofs.paid.loss.Goals as goal

pub curve_loss-requires-clause-from_in : goal.curve_loss-requires-clause-from_in
curve_loss-requires-clause-from_in c = along-table c.args.from.now.at c.requires.from.in_range

pub curve_loss-requires-clause-to_in : goal.curve_loss-requires-clause-to_in
curve_loss-requires-clause-to_in c = along-table c.args.to.now.at c.requires.to.in_range

use Rattle.scr_discounts.proofs.FallRows.{along-table}
use Rattle.scr_discounts.proofs.falling.tilted_falls.Goals as goal

pub new-requires-clause-from_in : goal.new-requires-clause-from_in
new-requires-clause-from_in c = along-table c.args.from.now.at c.requires.from

pub new-requires-clause-to_in : goal.new-requires-clause-to_in
new-requires-clause-to_in c = along-table c.args.to.now.at c.requires.to

pub returns : goal.returns
returns c = rw (c.yearly.ensures.value, c.yearly-2.ensures.value) at c.new.ensures.ends

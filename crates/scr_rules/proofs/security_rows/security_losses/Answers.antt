use Rattle.scr_num.specs.Rounding.{ends}
use Rattle.scr_nodes.specs.declared.node.Direction.TheVariants as directions
use Rattle.scr_discounts.specs.Kept.{rows_of}
use Rattle.scr_rules.proofs.RowFigures.{unit-by-rule}
use Rattle.scr_rules.proofs.security_rows.security_losses.Goals as goal

pub returns-clause-unit_up : goal.returns-clause-unit_up
returns-clause-unit_up c =
    unit-by-rule c.args.book.now.sheet c.args.position.now c.requires.row (rows_of c.args.rates.now.curves) directions.Up (ends c.unit_losses.result.0) (rw c.sheet.ensures.sheet at c.unit_losses.ensures.up)

pub returns-clause-unit_down : goal.returns-clause-unit_down
returns-clause-unit_down c =
    unit-by-rule c.args.book.now.sheet c.args.position.now c.requires.row (rows_of c.args.rates.now.curves) directions.Down (ends c.unit_losses.result.1) (rw c.sheet.ensures.sheet at c.unit_losses.ensures.down)

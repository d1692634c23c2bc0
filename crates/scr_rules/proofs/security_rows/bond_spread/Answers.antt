use Rattle.scr_num.specs.Rounding.{ends}
use Rattle.scr_rules.proofs.RowFigures.{spread-fits, spread-by-rule}
use Rattle.scr_rules.proofs.security_rows.bond_spread.Goals as goal

pub bond_loss-requires-clause-row : goal.bond_loss-requires-clause-row
bond_loss-requires-clause-row c = rw c.sheet.ensures.sheet (spread-fits c.args.book.now.sheet c.args.position.now c.requires.row c.args.factors.now (ends c.args.total) c.requires.fits).row

pub bond_loss-requires-clause-duration : goal.bond_loss-requires-clause-duration
bond_loss-requires-clause-duration c = (spread-fits c.args.book.now.sheet c.args.position.now c.requires.row c.args.factors.now (ends c.args.total) c.requires.fits).long

pub bond_loss-requires-clause-held : goal.bond_loss-requires-clause-held
bond_loss-requires-clause-held c = (spread-fits c.args.book.now.sheet c.args.position.now c.requires.row c.args.factors.now (ends c.args.total) c.requires.fits).cents

pub returns : goal.returns
returns c = spread-by-rule c.args.book.now.sheet c.args.position.now c.requires.row c.args.factors.now (ends c.args.total) (ends c.bond_loss.result) (rw c.sheet.ensures.sheet at c.bond_loss.ensures)

use Rattle.scr_sheet.proofs.Holds.{held_of-row, held_of-fund, sum-held_of}
use Rattle.scr_sheet.proofs.laws.holds.Goals as goal

pub returns-clause-row : goal.returns-clause-row
returns-clause-row c = held_of-row

pub returns-clause-fund : goal.returns-clause-fund
returns-clause-fund c = held_of-fund

pub returns-clause-sum : goal.returns-clause-sum
returns-clause-sum c = sum-held_of

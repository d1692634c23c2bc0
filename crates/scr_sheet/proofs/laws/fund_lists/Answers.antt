use Rattle.scr_sheet.proofs.FundLists.{no-fault, first-fault}
use Rattle.scr_sheet.proofs.laws.fund_lists.Goals as goal

pub returns-clause-none : goal.returns-clause-none
returns-clause-none c = no-fault

pub returns-clause-first : goal.returns-clause-first
returns-clause-first c = first-fault

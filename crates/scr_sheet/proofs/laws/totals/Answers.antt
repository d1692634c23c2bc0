use Rattle.scr_sheet.proofs.SeenThrough.{all-seen, total-equation, total-small}
use Rattle.scr_sheet.proofs.laws.totals.Goals as goal

pub returns-clause-equation : goal.returns-clause-equation
returns-clause-equation c = total-equation

pub returns-clause-within : goal.returns-clause-within
returns-clause-within c = total-small

pub returns-clause-whole : goal.returns-clause-whole
returns-clause-whole c = all-seen

use Rattle.scr_rules.proofs.Totals.{fund-worked, security-worked}
use Rattle.scr_rules.proofs.laws.totals.Goals as goal

pub returns : goal.returns
returns c = record { fund = fund-worked; security = security-worked }

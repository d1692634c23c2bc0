use Rattle.scr_discounts.proofs.CurveRows.{all-are}
use Rattle.scr_rules.proofs.Ranges.{node-fits}
use Rattle.scr_rules.proofs.laws.ranges.Goals as goal

pub returns : goal.returns
returns c = record { fits = node-fits; discounts = all-are }

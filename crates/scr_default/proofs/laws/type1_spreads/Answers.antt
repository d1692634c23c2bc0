use Rattle.scr_default.proofs.Widths.{narrow-variance, narrow-type1, type1-near}
use Rattle.scr_default.proofs.laws.type1_spreads.Goals as goal

pub returns : goal.returns
returns c = record { variance = narrow-variance; charge = narrow-type1; gap = type1-near }

use Rattle.scr_widths.proofs.Loads.{seen-held}
use Rattle.scr_widths.proofs.laws.held.Goals as goal

pub returns : goal.returns
returns c = record { seen = seen-held }

use Rattle.scr_flow.proofs.OneValue.{by-maturity}
use Rattle.scr_flow.proofs.SizeLemmas.{dues-within, length-dues}
use Rattle.scr_flow.proofs.laws.amounts_due.Goals as goal

pub returns : goal.returns
returns c = record { count = length-dues; size = dues-within; by_maturity = by-maturity }

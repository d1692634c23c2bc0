use Rattle.scr_yield_curve.proofs.DiscountWidths.{narrow-discount, narrow-discounts}
use Rattle.scr_yield_curve.proofs.laws.discounts_spread.Goals as goal

pub returns : goal.returns
returns c = record { each = narrow-discount; table = narrow-discounts }

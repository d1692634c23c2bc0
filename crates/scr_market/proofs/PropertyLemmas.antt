-- Property risk.
use Rattle.std.proofs.Common.{ℕ, ◌*◌, ◌≤◌, pos, arith, lit<}
use Rattle.std.proofs.lemmas.Int.{ints}
use Rattle.scr_num.specs.Fraction.{percent}
use Rattle.scr_num.specs.Amounts.{IsAmount}
use Rattle.scr_num.specs.Enclosure.{Encloses}
use Rattle.scr_num.proofs.Enclosing.{Encloses-exact}
use Rattle.scr_num.proofs.AmountBounds.{amount-exact}
use Rattle.scr_profile.specs.declared.limits.TheConstants.{MAX_HELD}
use Rattle.scr_market.specs.declared.property_risk.TheConstants.{MAX_PROPERTY}
use Rattle.scr_market.specs.Equity.{part_of}
use Rattle.scr_market.specs.Property.{property_figure}
use Rattle.scr_market.specs.PropertyEnds.{property_ends}

pub property-encloses : (cents : ℕ) → let e = property_ends cents in Encloses 1000 e.low e.high (property_figure cents)
property-encloses cents =
    Encloses-exact 1000 (pos (250 * cents)) (part_of cents (percent 25))
    (record { positive = lit< tt; equal = omega (arith, ints) })

pub property-size : (cents : ℕ) → cents ≤ MAX_HELD → IsAmount MAX_PROPERTY (property_ends cents)
property-size cents held = amount-exact MAX_PROPERTY (250 * cents) (omega arith)

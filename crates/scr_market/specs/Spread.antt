-- The exact figure of spread risk, in cents: Article 176 of Delegated Regulation (EU) 2015/35. Nothing is rounded. The
-- factors are handed in: a in millionths and b in millionths per year, by row and by band of durations. Durations are
-- in thousandths of a year.
use Rattle.std.specs.Prelude.{ℕ, ◌-◌, ◌*◌, max, nat_le, if◌then◌else◌, pos, Option, Some, None}
use Rattle.std.proofs.Common.{lit<}
use Rattle.scr_num.specs.Fraction.{Fraction, is_less, over, percent, millionths, plus, product}
use Rattle.scr_factors.specs.Values.{FactorValues, spread_at}
use Rattle.scr_market.specs.Equity.{part_of}

-- the row of the factors: that of the credit quality step (Article 176(3)), and the last where a security has no group or
-- its group no step (Article 176(4))
abbrev pub row_of : Option ℕ → ℕ
row_of None = 7
row_of (Some step) = step

-- a modified duration of less than one year counts as one (Article 176(2))
abbrev pub counted_duration : ℕ → ℕ
counted_duration duration = max 1000 duration

-- the bands: up to 5 years, more than 5 and up to 10, 15 and 20, and more than 20
abbrev pub band_of : ℕ → ℕ
band_of duration =
    if nat_le duration 5_000 then 0
    else (if nat_le duration 10_000 then 1
    else (if nat_le duration 15_000 then 2
    else (if nat_le duration 20_000 then 3 else 4)))

-- where a band begins: at 0, 5, 10, 15 and 20 years
abbrev pub start_of : ℕ → ℕ
start_of band = 5_000 * band

abbrev pub thousandths : ℕ → Fraction
thousandths n = over (pos n) 1000 (lit< tt)

-- the smaller of the two
abbrev pub lesser : Fraction → Fraction → Fraction
lesser p q = if is_less q p then q else p

-- a, and b for each year that the duration is above the start of its band, and no more than 100 percent
abbrev pub stress_exact : FactorValues → (row duration : ℕ) → Fraction
stress_exact factors row duration =
    let counted = counted_duration duration in
    let band = band_of counted in
    let factor = spread_at factors row band in
    lesser (percent 100)
    (plus (millionths (pos factor.0)) (product (millionths (pos factor.1)) (thousandths (counted - start_of band))))

-- what a bond loses
abbrev pub bond_loss_exact : FactorValues → (cents row duration : ℕ) → Fraction
bond_loss_exact factors cents row duration = part_of cents (stress_exact factors row duration)

-- Spread risk as it is worked out (this project's own): the stress of a bond in 10^-9, exactly, and the sum over all
-- bonds from 10^-9 cents to grains, thousandths of a cent, rounded outward.
use Rattle.std.specs.Prelude.{ℕ, ◌+◌, ◌-◌, ◌*◌, min, pos}
use Rattle.scr_num.specs.Rounding.{Ends, exact_ends, scale_ends}
use Rattle.scr_factors.specs.Values.{FactorValues, spread_at}
use Rattle.scr_market.specs.Spread.{counted_duration, band_of, start_of}

-- in 10^-9
abbrev pub stress_units : FactorValues → (row duration : ℕ) → ℕ
stress_units factors row duration =
    let counted = counted_duration duration in
    let band = band_of counted in
    let factor = spread_at factors row band in
    min (1000 * factor.0 + factor.1 * (counted - start_of band)) 1_000_000_000

-- what a bond loses, in 10^-9 cents
abbrev pub bond_loss_ends : FactorValues → (cents row duration : ℕ) → Ends
bond_loss_ends factors cents row duration = exact_ends (pos (cents * stress_units factors row duration))

-- from 10^-9 cents to grains
abbrev pub spread_ends : Ends → Ends
spread_ends sum = scale_ends sum 1 1_000_000

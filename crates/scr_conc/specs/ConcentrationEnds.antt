-- The capital requirement for market risk concentrations as it is worked out (this project's own): the squares are whole
-- numbers of square hundred-thousandths of a cent, and their root is rounded outward to grains, thousandths of a cent.
use Rattle.std.specs.Prelude.{ℕ, ◌-◌, ◌*◌, pos, List, sum_by}
use Rattle.scr_num.specs.Rounding.{Ends, exact_ends, scale_ends, root_ends}
use Rattle.scr_conc.specs.Thresholds.{threshold_units, factor_units}
use Rattle.scr_conc.specs.Concentration.{Exposure}

-- with a threshold in thousandths and a factor in hundredths; an excess below 0 counts as 0
abbrev pub requirement_units : (base exposure ct g : ℕ) → ℕ
requirement_units base exposure ct g = (1000 * exposure - ct * base) * g

abbrev pub square_units : (base exposure ct g : ℕ) → ℕ
square_units base exposure ct g = requirement_units base exposure ct g * requirement_units base exposure ct g

-- of one exposure, and of all together
abbrev pub exposure_square_units : ℕ → Exposure → ℕ
exposure_square_units base e = square_units base e.cents (threshold_units e.kind e.step) (factor_units e.kind e.step)

abbrev pub squares_units : ℕ → List Exposure → ℕ
squares_units base exposures = sum_by (exposure_square_units base) exposures

-- the root of a sum of squares
abbrev pub concentration_ends : ℕ → Ends
concentration_ends sum = scale_ends (root_ends (exact_ends (pos sum))) 1 100

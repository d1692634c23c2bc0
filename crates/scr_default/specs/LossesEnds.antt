-- The losses given default as they are worked out, in grains, in which each is a whole number (this project's own).
use Rattle.std.specs.Prelude.{ℕ, ◌+◌, ◌-◌, ◌*◌, pos, List, slice_index}
use Rattle.std.proofs.Common.{lit<}
use Rattle.scr_num.specs.Fraction.{Fraction, over}
use Rattle.scr_default.specs.Losses.{grains}

abbrev pub lgd_bank_grains : ℕ → ℕ
lgd_bank_grains owed = 1000 * owed

-- a difference below 0 counts as 0
abbrev pub lgd_rein_grains : (recoverables risk_mitigating collateral : ℕ) → ℕ
lgd_rein_grains recoverables risk_mitigating collateral = 500 * recoverables + 250 * risk_mitigating - 1000 * collateral

-- so many square grains
abbrev pub square_grains : ℕ → Fraction
square_grains n = over (pos n) 1_000_000 (lit< tt)

-- the losses of each class of probability, of which the list has the grains, and their squares in square grains
abbrev pub totals_in : List ℕ → (class : ℕ) → Fraction
totals_in totals class = grains (slice_index totals class)

abbrev pub squares_in : List ℕ → (class : ℕ) → Fraction
squares_in squares class = square_grains (slice_index squares class)

-- Present values and losses in whole numbers, in 10^-18 of the unit of the payments, this project's own.
use Rattle.std.specs.Prelude.{ℕ, ℤ, List}
use Rattle.scr_num.specs.Rounding.{Ends, scale_ends}
use Rattle.scr_flow.specs.Sums.{weighted_ends}
use Rattle.scr_yield_curve.specs.Falls.{differences}

-- the present value of payments after 1, 2, 3 and more years at these discounts
abbrev pub present_ends : List ℤ → List Ends → Ends
present_ends flows table = weighted_ends flows table

-- what they lose where the rates, and with them the discounts, change
abbrev pub loss_ends : List ℤ → List ℤ → List Ends → List ℤ → List Ends → Ends
loss_ends flows base from stressed to = weighted_ends flows (differences base from stressed to)

-- what so many cents lose of which 1,000,000 lose so much
abbrev pub scaled_ends : Ends → ℕ → Ends
scaled_ends unit cents = scale_ends unit cents 1_000_000

-- Currency risk in one foreign currency as it is worked out (this project's own): from assets in cents and liabilities
-- in 10^-18 cents to grains, thousandths of a cent, rounded outward.
use Rattle.std.specs.Prelude.{ℕ, ◌*◌, pos}
use Rattle.scr_num.specs.Rounding.{Ends, exact_ends, sub_ends, max_ends, scale_ends}

-- cents in 10^-18 cents
abbrev pub fine_ends : ℕ → Ends
fine_ends cents = exact_ends (pos (1_000_000_000_000_000_000 * cents))

-- a quarter, in grains, and no less than 0
abbrev pub quarter_ends : Ends → Ends
quarter_ends loss = max_ends (exact_ends (pos 0)) (scale_ends loss 1 4_000_000_000_000_000)

abbrev pub currency_rise_ends : ℕ → Ends → Ends
currency_rise_ends assets liabilities = quarter_ends (sub_ends liabilities (fine_ends assets))

abbrev pub currency_fall_ends : ℕ → Ends → Ends
currency_fall_ends assets liabilities = quarter_ends (sub_ends (fine_ends assets) liabilities)

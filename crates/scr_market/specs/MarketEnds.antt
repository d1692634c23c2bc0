-- The market risk module as it is worked out (this project's own): the roots for each interest rate scenario that may
-- decide. The mask has bit 0 where the rise may, and bit 1 where the fall may.
use Rattle.std.specs.Prelude.{ℕ, ◌==◌, if◌then◌else◌, List}
use Rattle.scr_num.specs.Rounding.{Ends, hull_ends, quad_ends}
use Rattle.scr_market.specs.Market.{market_correlations}

abbrev pub market_ends : List Ends → ℕ → Ends
market_ends parts mask =
    if mask == 1 then quad_ends parts (market_correlations 0)
    else (if mask == 2 then quad_ends parts (market_correlations 1)
    else hull_ends (quad_ends parts (market_correlations 0)) (quad_ends parts (market_correlations 1)))

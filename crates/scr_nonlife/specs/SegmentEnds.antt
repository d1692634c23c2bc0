-- A segment as it is worked out, in grains, thousandths of a cent (this project's own): the root in millionths of a
-- cent, the diversification in 10^-18, and their product, each rounded outward once.
use Rattle.std.specs.Prelude.{ℕ, zero, suc, ◌+◌, ◌*◌, pos, List}
use Rattle.scr_num.specs.Rounding.{Ends, exact_ends, add_ends, root_ends}
use Rattle.scr_num.specs.Ratio.{ratio_unit, ratio_ends, product_ends}
use Rattle.scr_nonlife.specs.Segment.{premium_volume, reserve_volume, total_volume, squared_volumes}

-- the quotient in 10^-18, and 1 where the denominator is 0
abbrev pub share_ends : ℕ → ℕ → Ends
share_ends num zero = exact_ends (pos ratio_unit)
share_ends num (suc n) = ratio_ends num (suc n)

abbrev pub diversification_ends : List (ℕ × ℕ) → Ends
diversification_ends volumes = share_ends (squared_volumes volumes) (total_volume volumes * total_volume volumes)

-- the sum under the root, of both products of a standard deviation and its volume
abbrev pub squared_deviation : ℕ → ℕ → ℕ
squared_deviation p r = p * p + p * r + r * r

abbrev pub deviation_ends : List (ℕ × ℕ) → (premium reserve : ℕ) → Ends
deviation_ends volumes premium reserve =
    root_ends
    (exact_ends (pos (squared_deviation (premium * premium_volume volumes) (reserve * reserve_volume volumes))))

-- four times 0.75 + 0.25 * DIV, in 10^-18
abbrev pub diversified_ends : List (ℕ × ℕ) → Ends
diversified_ends volumes = add_ends (exact_ends (pos 3_000_000_000_000_000_000)) (diversification_ends volumes)

-- how many millionths of a cent times quarters of 10^-18 make one grain
abbrev pub products_of_a_grain : ℕ
products_of_a_grain = 4_000_000_000_000_000_000_000

abbrev pub segment_ends : List (ℕ × ℕ) → (premium reserve : ℕ) → Ends
segment_ends volumes premium reserve =
    product_ends (deviation_ends volumes premium reserve) (diversified_ends volumes) products_of_a_grain

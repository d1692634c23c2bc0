-- Sums of payments times discounts in whole numbers, this project's own. Nothing is rounded here: the ends are those that
-- the discounts' own ends give.
use Rattle.std.specs.Prelude.{ℤ, pos, negsuc, ◌*ℤ◌, List, [], ◌∷◌}
use Rattle.scr_num.specs.Rounding.{Ends, exact_ends, add_ends}

-- all products of a payment with a number between the ends, which a negative payment exchanges
abbrev pub flow_ends : ℤ → Ends → Ends
flow_ends (pos flow) e = record { low = pos flow *ℤ e.low; high = pos flow *ℤ e.high }
flow_ends (negsuc n) e = record { low = negsuc n *ℤ e.high; high = negsuc n *ℤ e.low }

-- the sum of all payments times the numbers at their places
unfoldable pub weighted_ends : List ℤ → List Ends → Ends
weighted_ends [] es = exact_ends (pos 0)
weighted_ends (flow ∷ flows) [] = exact_ends (pos 0)
weighted_ends (flow ∷ flows) (e ∷ es) = add_ends (flow_ends flow e) (weighted_ends flows es)

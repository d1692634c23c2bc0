-- The rules of biometric stresses (Articles 137 to 143 and 152 to 159 of Delegated Regulation (EU) 2015/35; that a liability's
-- gain counts as nil, and the roundings, are this project's own).
use Rattle.std.specs.Prelude.{ℕ, ℤ, pos, ◌-ℤ◌, List, map, slice_index_or}
use Rattle.std.specs.List.{range_with_len}
use Rattle.scr_num.specs.Rounding.{Ends, exact_ends, max_ends}
use Rattle.scr_dates.specs.declared.day.Day.{Day}
use Rattle.scr_flow.specs.Due.{due_in}
use Rattle.scr_flow.specs.LossEnds.{present_ends}
use Rattle.scr_nodes.specs.Own.{Valued}
use Rattle.scr_discounts.specs.Discounts.{CurrencyDiscounts}

-- what falls due under a stress less what does by the best estimate, after 1, 2, 3 and up to 100 years
abbrev pub excess_dues : ℤ → (stressed base : List (Day × ℤ)) → List ℤ
excess_dues asof stressed base =
    map (λ years. due_in asof stressed years -ℤ due_in asof base years) (range_with_len 1 100)

-- by how much it is worth more
unfoldable pub excess_ends : Valued → (stressed : List (Day × ℤ)) → CurrencyDiscounts → Ends
excess_ends valued stressed discounts =
    max_ends (present_ends (excess_dues valued.asof stressed valued.payments) discounts.base) (exact_ends (pos 0))

-- ---- as the code takes them

-- the difference of two amounts at one place
abbrev pub less_at : List ℤ → List ℤ → ℕ → ℤ
less_at amounts others k = slice_index_or amounts k (pos 0) -ℤ slice_index_or others k (pos 0)

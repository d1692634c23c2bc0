-- The rules of market risk besides interest rate and equity risk, over plain figures (Articles 164 and 174 to 188 of
-- Delegated Regulation (EU) 2015/35; the rounding is this project's own).
use Rattle.std.specs.Prelude.{ℕ, ◌*◌, pos, Option}
use Rattle.scr_num.specs.Rounding.{Ends, exact_ends}
use Rattle.scr_flow.specs.Due.{dues}
use Rattle.scr_flow.specs.LossEnds.{present_ends}
use Rattle.scr_factors.specs.Values.{FactorValues}
use Rattle.scr_profile.specs.declared.group_kind.GroupKind.{GroupKind}
use Rattle.scr_market.specs.CurrencyEnds.{currency_rise_ends, currency_fall_ends}
use Rattle.scr_market.specs.Spread.{row_of}
use Rattle.scr_market.specs.SpreadEnds.{bond_loss_ends}
use Rattle.scr_conc.specs.ConcentrationEnds.{exposure_square_units}
use Rattle.scr_nodes.specs.declared.node.Direction.{Direction}
use Rattle.scr_nodes.specs.declared.node.Direction.TheVariants as directions
use Rattle.scr_nodes.specs.Own.{Valued}
use Rattle.scr_discounts.specs.Discounts.{CurrencyDiscounts}

-- what payments are worth at the discounts of the rates as they are (Directive 2009/138/EC, Article 77(2))
unfoldable pub worth_ends : Valued → CurrencyDiscounts → Ends
worth_ends valued discounts = present_ends (dues valued.asof valued.payments) discounts.base

-- what a rise or a fall of a foreign currency costs, by the cents of assets and what liabilities are worth (Article
-- 188)
abbrev pub foreign_ends : Direction → ℕ → Ends → Ends
foreign_ends directions.Up assets liabilities = currency_rise_ends assets liabilities
foreign_ends directions.Down assets liabilities = currency_fall_ends assets liabilities

-- so many grains for each cent (Article 174)
abbrev pub multiple_ends : ℕ → ℕ → Ends
multiple_ends times cents = exact_ends (pos (times * cents))

-- what a bond of so many cents loses, by its credit quality step, or none, and its duration (Article 176)
abbrev pub stressed_ends : FactorValues → Option ℕ → ℕ → ℕ → Ends
stressed_ends factors step duration cents = bond_loss_ends factors cents (row_of step) duration

-- the square of the requirement for a group of this kind and step, or none, of the assets and the exposure in cents
-- (Articles 183(2) and 184(1))
abbrev pub group_square_ends : GroupKind → Option ℕ → ℕ → ℕ → Ends
group_square_ends kind step assets exposure =
    exact_ends (pos (exposure_square_units assets (record { cents = exposure; kind = kind; step = step })))

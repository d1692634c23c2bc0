-- The rule of each figure: how it is reckoned from what it reads of the balance sheet, from the discounts of its payments
-- and from the figures of its sources, in the order of the sources (this project's own).
pub use Rattle.scr_rules.specs.Figures.{figure_at, amount_of, amount_at}
use Rattle.std.specs.Prelude.{ℕ, ◌+◌, ◌-◌, ◌*◌, ◌/◌, ℤ, pos, List, [], ◌∷◌, drop, length, map, take}
use Rattle.std.specs.List.{range_with_len}
use Rattle.scr_num.specs.Rounding.{Ends, exact_ends, add_ends, sub_ends, max_ends}
use Rattle.scr_yield_curve.specs.Parts.{rates_in_parts}
use Rattle.scr_yield_curve.specs.declared.tilt.Tilt.TheVariants as tilts
use Rattle.scr_flow.specs.Due.{dues}
use Rattle.scr_flow.specs.LossEnds.{loss_ends, scaled_ends}
use Rattle.scr_agg.specs.Absorbed.{net_ends}
use Rattle.scr_agg.specs.Unbeaten.{Alternative, mask_of, chosen_gross, chosen_net}
use Rattle.scr_num.specs.Sums.{sum_ends}
use Rattle.scr_rate.specs.InterestEnds.{gross_ends}
use Rattle.scr_bio.specs.BiometricEnds.{life_ends, slt_ends}
use Rattle.scr_default.specs.DefaultEnds.{type2_ends as type2_exposure_ends, default_ends}
use Rattle.scr_market.specs.EquityEnds.{type1_ends, type2_ends, infra_ends, infracorp_ends, equity_root_ends}
use Rattle.scr_market.specs.MarketEnds.{market_ends}
use Rattle.scr_market.specs.SpreadEnds.{spread_ends}
use Rattle.scr_conc.specs.ConcentrationEnds.{concentration_ends}
use Rattle.scr_loss.specs.OperationalEnds.{prem_ends, prov_ends}
use Rattle.scr_nonlife.specs.SegmentEnds.{segment_ends}
use Rattle.scr_nodes.specs.declared.node.Equities.{Equities}
use Rattle.scr_nodes.specs.declared.node.Equities.TheVariants as equities
use Rattle.scr_nodes.specs.declared.node.Measure.{Measure}
use Rattle.scr_nodes.specs.declared.node.Measure.TheVariants as measures
use Rattle.scr_nodes.specs.Own.{Own, Paid, Share}
use Rattle.scr_nodes.specs.Own.Own.{Held, Loss, Cost, Scaled, Lost, Converted, Net, Choice, Picked, Added, Fall, EquityRoot, Worth, Foreign, Multiple, Stressed, Spread, Square, SquareRoot, Market, Excess, Losses, Squares, Variance, Band, Banded, Due, Correlated, Charged, CorrelatedWith, Segment, PremiumReserve, Catastrophes, Bscr, Diversified, Premiums, Provisions, Cap, OperationalCharge, Absorbing, Taxed, Requirement}
use Rattle.scr_nodes.specs.Own.Root.{DefaultRoot, LifeRoot, SltRoot, HealthRoot, NaturalRoot, ManMadeRoot, HealthCatastropheRoot}
use Rattle.scr_nodes.specs.Own.ChargedRoot.{NsltRoot, NonlifeRoot}
use Rattle.scr_discounts.specs.Discounts.{CurrencyDiscounts}
use Rattle.scr_rules.specs.Discounts.{tilt_of, changed}
use Rattle.scr_rules.specs.MarketRules.{worth_ends, foreign_ends, multiple_ends, stressed_ends, group_square_ends}
use Rattle.scr_rules.specs.Figures.{figures_from}
use Rattle.scr_rules.specs.LifeRules.{excess_ends}
use Rattle.scr_rules.specs.DefaultRules.{losses_grains, squares_total, variance_from, bands_from, banded_from}
use Rattle.scr_rules.specs.LossRules.{bscr_from, diversification_from, cap_from, charge_from, absorbing_from, taxed_from, requirement_from}
use Rattle.scr_rules.specs.NonlifeRules.{charged_ends, premium_reserve_from, natural_from, man_made_from, catastrophes_from, health_catastrophe_from, nonlife_from, nslt_from, health_from}

-- ---- what is held (Article 84 of Delegated Regulation (EU) 2015/35; the rounding is this project's own)

-- the part of a component in a fund of so many cents: what the components up to it have, less what those before it have
abbrev pub part_of : ℕ → Share → ℕ
part_of cents share = cents * share.through / share.all - cents * share.before / share.all

-- the parts in all funds that hold it, each with its total
abbrev pub parts_held : List Share → List Ends → ℕ
parts_held [] totals = 0
parts_held (share ∷ shares) [] = 0
parts_held (share ∷ shares) (total ∷ totals) = part_of (amount_of total) share + parts_held shares totals

-- ---- payments (Articles 165 to 167)

-- what they lose where their rates change in a direction
unfoldable pub paid_ends : Paid → CurrencyDiscounts → Ends
paid_ends paid discounts =
    loss_ends (dues paid.asof paid.payments) (rates_in_parts paid.rates tilts.Base) discounts.base
    (rates_in_parts paid.rates (tilt_of paid.direction)) (changed paid.direction discounts)

-- ---- alternatives (Article 206(2))

-- their gross and net figures come in turn
abbrev pub alternative_from : List Ends → ℕ → Alternative
alternative_from figures k = record { gross = figure_at figures (2 * k); net = figure_at figures (2 * k + 1) }

abbrev pub alternatives_from : List Ends → List Alternative
alternatives_from figures = map (alternative_from figures) (range_with_len 0 (length figures / 2))

abbrev pub chosen_from : Measure → List Alternative → Ends
chosen_from measures.Gross list = chosen_gross list
chosen_from measures.Net list = chosen_net list

-- ---- equities (Articles 164a, 164b and 168 to 173)

-- the fall of one kind, by the cents held of it, and of strategic equities of its kind where there are such
abbrev pub fall_of : Equities → ℤ → List Ends → Ends
fall_of equities.Type1 sym figures = type1_ends (amount_at figures 0) (amount_at figures 1) sym
fall_of equities.Type2 sym figures = type2_ends (amount_at figures 0) (amount_at figures 1) sym
fall_of equities.Infrastructure sym figures = infra_ends (amount_at figures 0) sym
fall_of equities.InfrastructureCorporate sym figures = infracorp_ends (amount_at figures 0) sym

-- the root over type 1 equities and the sum of all others
abbrev pub equities_ends : List Ends → Ends
equities_ends figures =
    equity_root_ends (figure_at figures 0) (add_ends (add_ends (figure_at figures 1) (figure_at figures 2)) (figure_at figures 3))

-- ---- market risk (Article 164)

-- what the first so many figures come to, and the others
abbrev pub first_sum : ℕ → List Ends → Ends
first_sum count figures = sum_ends (take count figures)

abbrev pub other_sum : ℕ → List Ends → Ends
other_sum count figures = sum_ends (drop count figures)

-- interest rate, equity, property, spread, concentration and currency risk, before the mask of the interest scenario
abbrev pub six_parts : List Ends → List Ends
six_parts figures =
    figure_at figures 0 ∷ figure_at figures 1 ∷ figure_at figures 2 ∷ figure_at figures 3 ∷ figure_at figures 4
    ∷ figure_at figures 5 ∷ []

-- ---- the rules

abbrev pub rule : Own → CurrencyDiscounts → List Ends → Ends
rule (Held cents shares) discounts figures = exact_ends (pos (cents + parts_held shares figures))
rule (Loss paid) discounts figures = paid_ends paid discounts
rule (Cost paid) discounts figures = sub_ends (exact_ends (pos 0)) (paid_ends paid discounts)
rule Scaled discounts figures = scaled_ends (figure_at figures 1) (amount_at figures 0)
rule Lost discounts figures = max_ends (exact_ends (pos 0)) (sum_ends figures)
rule Converted discounts figures = gross_ends figures
rule (Net absorb) discounts figures = net_ends (figure_at figures 0) absorb
rule Choice discounts figures = exact_ends (pos (mask_of (alternatives_from figures)))
rule (Picked measure) discounts figures = chosen_from measure (alternatives_from figures)
rule Added discounts figures = sum_ends figures
rule (Fall kind sym) discounts figures = fall_of kind sym figures
rule EquityRoot discounts figures = equities_ends figures
rule (Worth valued) discounts figures = worth_ends valued discounts
rule (Foreign direction securities) discounts figures =
    foreign_ends direction (amount_of (first_sum securities figures)) (other_sum securities figures)
rule (Multiple times) discounts figures = multiple_ends times (amount_at figures 0)
rule (Stressed factors step duration) discounts figures = stressed_ends factors step duration (amount_at figures 0)
rule Spread discounts figures = spread_ends (sum_ends figures)
rule (Square kind step) discounts figures = group_square_ends kind step (amount_at figures 0) (amount_at figures 1)
rule SquareRoot discounts figures = concentration_ends (amount_of (sum_ends figures))
rule Market discounts figures = market_ends (six_parts figures) (amount_at figures 6)
rule (Excess valued stressed) discounts figures = excess_ends valued stressed discounts
rule (Losses banks reinsurers) discounts figures = exact_ends (pos (losses_grains banks reinsurers))
rule Squares discounts figures = exact_ends (pos (squares_total figures))
rule Variance discounts figures = variance_from figures
rule Band discounts figures = exact_ends (pos (bands_from figures))
rule Banded discounts figures = banded_from figures
rule (Due overdue other) discounts figures = type2_exposure_ends overdue other
rule (Correlated DefaultRoot) discounts figures = default_ends (figure_at figures 0) (figure_at figures 1)
rule (Correlated LifeRoot) discounts figures = life_ends (figures_from figures 0 7)
rule (Correlated SltRoot) discounts figures = slt_ends (figures_from figures 0 6)
rule (Charged times cents) discounts figures = charged_ends times cents
rule (Segment volumes premium reserve) discounts figures = segment_ends volumes premium reserve
rule (PremiumReserve correlations) discounts figures = premium_reserve_from correlations figures
rule (Correlated NaturalRoot) discounts figures = natural_from figures
rule (Correlated ManMadeRoot) discounts figures = man_made_from figures
rule Catastrophes discounts figures = catastrophes_from figures
rule (Correlated HealthCatastropheRoot) discounts figures = health_catastrophe_from figures
rule (CorrelatedWith NonlifeRoot lapse) discounts figures = nonlife_from lapse figures
rule (CorrelatedWith NsltRoot lapse) discounts figures = nslt_from lapse figures
rule (Correlated HealthRoot) discounts figures = health_from figures
rule (Bscr intangible) discounts figures = bscr_from intangible figures
rule (Diversified intangible) discounts figures = diversification_from intangible figures
rule (Premiums operation) discounts figures = prem_ends operation
rule (Provisions operation) discounts figures = prov_ends operation
rule Cap discounts figures = cap_from figures
rule (OperationalCharge expenses) discounts figures = charge_from expenses figures
rule (Absorbing benefits) discounts figures = absorbing_from benefits figures
rule (Taxed rate cap) discounts figures = taxed_from rate cap figures
rule Requirement discounts figures = requirement_from figures

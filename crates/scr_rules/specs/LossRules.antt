-- The rules of the Basic Solvency Capital Requirement, of operational risk, of the adjustments and of the Solvency Capital
-- Requirement, from the figures of their sources (Articles 87 and 203 to 207 of Delegated Regulation (EU) 2015/35 and
-- Article 103 of Directive 2009/138/EC; the rounding is this project's own).
use Rattle.std.specs.Prelude.{ℕ, List, [], ◌∷◌}
use Rattle.scr_num.specs.Rounding.{Ends}
use Rattle.scr_loss.specs.BscrEnds.{bscr_ends, known_diversification_ends}
use Rattle.scr_loss.specs.OperationalEnds.{cap_ends, op_ends}
use Rattle.scr_loss.specs.AbsorptionEnds.{adj_tp_ends, adj_dt_ends, scr_ends}
use Rattle.scr_rules.specs.Figures.{figure_at}

-- the five modules: market, default, life, health and non-life
abbrev pub modules_from : List Ends → List Ends
modules_from figures =
    figure_at figures 0 ∷ figure_at figures 1 ∷ figure_at figures 2 ∷ figure_at figures 3 ∷ figure_at figures 4 ∷ []

abbrev pub bscr_from : (intangible : ℕ) → List Ends → Ends
bscr_from intangible figures = bscr_ends (modules_from figures) intangible

-- the modules, and the Basic Solvency Capital Requirement
abbrev pub diversification_from : (intangible : ℕ) → List Ends → Ends
diversification_from intangible figures = known_diversification_ends (modules_from figures) (figure_at figures 5) intangible

-- of the Basic Solvency Capital Requirement
abbrev pub cap_from : List Ends → Ends
cap_from figures = cap_ends (figure_at figures 0)

-- by premiums, by provisions, and the cap
abbrev pub charge_from : (expenses : ℕ) → List Ends → Ends
charge_from expenses figures = op_ends (figure_at figures 2) (figure_at figures 0) (figure_at figures 1) expenses

-- the Basic Solvency Capital Requirement before and after absorption
abbrev pub absorbing_from : (benefits : ℕ) → List Ends → Ends
absorbing_from benefits figures = adj_tp_ends (figure_at figures 0) (figure_at figures 1) benefits

-- the Basic Solvency Capital Requirement, what technical provisions absorb, and operational risk
abbrev pub taxed_from : (rate cap : ℕ) → List Ends → Ends
taxed_from rate cap figures = adj_dt_ends (figure_at figures 0) (figure_at figures 1) (figure_at figures 2) rate cap

-- the Basic Solvency Capital Requirement, both adjustments, and operational risk
abbrev pub requirement_from : List Ends → Ends
requirement_from figures =
    scr_ends (figure_at figures 0) (figure_at figures 1) (figure_at figures 2) (figure_at figures 3)

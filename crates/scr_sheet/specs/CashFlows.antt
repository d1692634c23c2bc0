-- The payments of liabilities under their projections (this project's own).
pub use Rattle.scr_dates.specs.Payments.{total, last_day, years_of, greatest_years}
use Rattle.std.specs.Prelude.{ℤ, Bool, ◌||◌, true, false, List, [], ◌∷◌}
use Rattle.std.specs.List.{list_all}
use Rattle.scr_dates.specs.declared.day.Day.{Day}
use Rattle.scr_sheet.specs.declared.{keys.Projection.Projection, rows.LiabilityKind.LiabilityKind, rows.LiabilityFlows.LiabilityFlows}
use Rattle.scr_sheet.specs.declared.keys.Projection.TheVariants as projections
use Rattle.scr_sheet.specs.declared.rows.LiabilityKind.TheVariants as kinds

-- a liability's flows under a projection
abbrev pub flows_under : Projection → LiabilityFlows → List (Day × ℤ)
flows_under projections.Base flows = flows.base
flows_under projections.Mortality flows = flows.mortality
flows_under projections.Longevity flows = flows.longevity
flows_under projections.Disability flows = flows.disability
flows_under projections.Expense flows = flows.expense
flows_under projections.Revision flows = flows.revision
flows_under projections.LapseUp flows = flows.lapse_up
flows_under projections.LapseDown flows = flows.lapse_down
flows_under projections.LapseMass flows = flows.lapse_mass
flows_under projections.Catastrophe flows = flows.catastrophe

-- a liability's flows, with others under one projection
abbrev pub with_flows : Projection → List (Day × ℤ) → LiabilityFlows → LiabilityFlows
with_flows projections.Base new flows = record flows { base = new }
with_flows projections.Mortality new flows = record flows { mortality = new }
with_flows projections.Longevity new flows = record flows { longevity = new }
with_flows projections.Disability new flows = record flows { disability = new }
with_flows projections.Expense new flows = record flows { expense = new }
with_flows projections.Revision new flows = record flows { revision = new }
with_flows projections.LapseUp new flows = record flows { lapse_up = new }
with_flows projections.LapseDown new flows = record flows { lapse_down = new }
with_flows projections.LapseMass new flows = record flows { lapse_mass = new }
with_flows projections.Catastrophe new flows = record flows { catastrophe = new }

-- a liability for which nothing is handed in
abbrev pub no_flows : LiabilityFlows
no_flows = record { base = []; mortality = []; longevity = []; disability = []; expense = []; revision = []; lapse_up = []; lapse_down = []; lapse_mass = []; catastrophe = [] }

-- every projection
abbrev pub all_projections : List Projection
all_projections =
    projections.Base ∷ projections.Mortality ∷ projections.Longevity ∷ projections.Disability ∷ projections.Expense
    ∷ projections.Revision ∷ projections.LapseUp ∷ projections.LapseDown ∷ projections.LapseMass ∷ projections.Catastrophe ∷ []

-- The projections of a kind: the best estimate for each, the stresses of mortality, longevity, disability, expense,
-- revision and lapse for life (Delegated Regulation (EU) 2015/35, Articles 137 to 142) and for health similar to life
-- (Articles 152 to 159), and the catastrophe for life alone (Article 143).
abbrev pub has_projection : LiabilityKind → Projection → Bool
has_projection kind projections.Base = true
has_projection kinds.Life projection = true
has_projection kinds.Health projections.Catastrophe = false
has_projection kinds.Health projection = true
has_projection kinds.Other projection = false

abbrev pub is_empty : List (Day × ℤ) → Bool
is_empty [] = true
is_empty (flow ∷ flows) = false

-- there are flows under no projection that the kind lacks
abbrev pub suits : LiabilityKind → LiabilityFlows → Bool
suits kind flows = list_all (λ projection. has_projection kind projection || is_empty (flows_under projection flows)) all_projections

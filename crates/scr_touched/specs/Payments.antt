-- The figures that are reckoned from payments (this project's own).
use Rattle.std.specs.Prelude.{ℕ, ◌++◌, List, [], ◌∷◌, flat_map, map}
use Rattle.scr_sheet.specs.declared.keys.Projection.{Projection}
use Rattle.scr_sheet.specs.declared.keys.Projection.TheVariants as projections
use Rattle.scr_sheet.specs.declared.rows.Liability.{Liability}
use Rattle.scr_sheet.specs.declared.rows.Position.{Position}
use Rattle.scr_sheet.specs.declared.sheet.BalanceSheet.{BalanceSheet}
use Rattle.scr_nodes.specs.declared.node.Direction.TheVariants as directions
use Rattle.scr_nodes.specs.declared.node.Node.{Node}
use Rattle.scr_nodes.specs.declared.node.Node.TheVariants as nodes
use Rattle.scr_nodes.specs.declared.node.OfSecurity.TheVariants as of_securities
use Rattle.scr_nodes.specs.declared.node.OfLiability.TheVariants as of_liabilities

-- every projection but the best estimate
abbrev pub stresses : List Projection
stresses =
    projections.Mortality ∷ projections.Longevity ∷ projections.Disability ∷ projections.Expense ∷ projections.Revision
    ∷ projections.LapseUp ∷ projections.LapseDown ∷ projections.LapseMass ∷ projections.Catastrophe ∷ []

abbrev pub security_figures : Position → List Node
security_figures position =
    nodes.Security position.security.name (of_securities.UnitLoss directions.Up) ∷ nodes.Security position.security.name (of_securities.UnitLoss directions.Down) ∷ []

-- by the best estimate
abbrev pub value_figures : List ℕ → List Node
value_figures name =
    nodes.Liability name (of_liabilities.Rate directions.Up) ∷ nodes.Liability name (of_liabilities.Rate directions.Down) ∷ nodes.Liability name of_liabilities.Present ∷ []

-- under each stress
abbrev pub loss_figures : List ℕ → List Node
loss_figures name = map (λ projection. nodes.Liability name (of_liabilities.Loss projection)) stresses

abbrev pub liability_figures : Liability → List Node
liability_figures liability = value_figures liability.name ++ loss_figures liability.name

-- of all securities and liabilities
abbrev pub payment_figures : BalanceSheet → List Node
payment_figures sheet = flat_map security_figures sheet.securities ++ flat_map liability_figures sheet.liabilities

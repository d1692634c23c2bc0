-- The cells of the report in the order of its lines, with the figure that each shows (this project's own), after the
-- templates S.25.01 and S.26.01 to S.26.06 of supervisory reporting.
use Rattle.std.specs.Prelude.{ℕ, List, [], ◌∷◌, ◌++◌, codes}
use Rattle.scr_profile.specs.declared.set.Set.TheVariants as sets
use Rattle.scr_sheet.specs.declared.keys.Projection.TheVariants as projections
use Rattle.scr_nodes.specs.declared.node.Adjustment.TheVariants as adjustments
use Rattle.scr_nodes.specs.declared.node.Alternatives.TheVariants as alternatives
use Rattle.scr_nodes.specs.declared.node.Biometric.TheVariants as biometrics
use Rattle.scr_nodes.specs.declared.node.Direction.TheVariants as directions
use Rattle.scr_nodes.specs.declared.node.Equities.TheVariants as equities
use Rattle.scr_nodes.specs.declared.node.Measure.TheVariants as measures
use Rattle.scr_nodes.specs.declared.node.Node.{Node}
use Rattle.scr_nodes.specs.declared.node.Node.TheVariants as nodes
use Rattle.scr_nodes.specs.declared.node.Whole.{Whole}
use Rattle.scr_nodes.specs.declared.node.Whole.TheVariants as wholes
use Rattle.scr_nodes.specs.declared.node.Operational.TheVariants as operations
use Rattle.scr_nodes.specs.declared.node.Risk.TheVariants as risks
use Rattle.scr_cells.specs.declared.table.Entry.{Entry}

-- a cell's name and the figure that it shows
pub record NamedFigure : Type 0 where
  pub name : List ℕ
  pub node : Node

abbrev pub named : List ℕ → Whole → NamedFigure
named name figure = record { name = name; node = nodes.Whole figure }

-- the cell of the Solvency Capital Requirement itself
abbrev pub requirement_cell : NamedFigure
requirement_cell = named (codes "S2501.scr") wholes.Scr

-- S.25.01: the Solvency Capital Requirement
abbrev pub requirement_cells : List NamedFigure
requirement_cells =
    named (codes "S2501.market.gross") (wholes.Market measures.Gross)
    ∷ named (codes "S2501.market.net") (wholes.Market measures.Net)
    ∷ named (codes "S2501.default.gross") wholes.Default
    ∷ named (codes "S2501.default.net") (wholes.NetPart risks.Default)
    ∷ named (codes "S2501.life.gross") (wholes.Life measures.Gross)
    ∷ named (codes "S2501.life.net") (wholes.Life measures.Net)
    ∷ named (codes "S2501.health.gross") (wholes.Health measures.Gross)
    ∷ named (codes "S2501.health.net") (wholes.Health measures.Net)
    ∷ named (codes "S2501.nonlife") (wholes.Nonlife measures.Gross)
    ∷ named (codes "S2501.intangible") wholes.Intangible
    ∷ named (codes "S2501.diversification") wholes.Diversification
    ∷ named (codes "S2501.bscr.gross") (wholes.Bscr measures.Gross)
    ∷ named (codes "S2501.bscr.net") (wholes.Bscr measures.Net)
    ∷ named (codes "S2501.adj.tp") (wholes.Adjust adjustments.TechnicalProvisions)
    ∷ named (codes "S2501.adj.dt") (wholes.Adjust adjustments.DeferredTaxes)
    ∷ named (codes "S2501.op") (wholes.OpPart operations.Charge)
    ∷ requirement_cell ∷ []

-- S.26.01: market risk
abbrev pub market_cells : List NamedFigure
market_cells =
    named (codes "S2601.interest.up.gross") (wholes.InterestScenario directions.Up measures.Gross)
    ∷ named (codes "S2601.interest.up.net") (wholes.InterestScenario directions.Up measures.Net)
    ∷ named (codes "S2601.interest.down.gross") (wholes.InterestScenario directions.Down measures.Gross)
    ∷ named (codes "S2601.interest.down.net") (wholes.InterestScenario directions.Down measures.Net)
    ∷ named (codes "S2601.interest.gross") (wholes.Picked alternatives.Interest measures.Gross)
    ∷ named (codes "S2601.interest.net") (wholes.Picked alternatives.Interest measures.Net)
    ∷ named (codes "S2601.equity.type1") (wholes.EquityPart equities.Type1)
    ∷ named (codes "S2601.equity.type2") (wholes.EquityPart equities.Type2)
    ∷ named (codes "S2601.equity.infra") (wholes.EquityPart equities.Infrastructure)
    ∷ named (codes "S2601.equity.infracorp") (wholes.EquityPart equities.InfrastructureCorporate)
    ∷ named (codes "S2601.equity.gross") wholes.EquityRoot
    ∷ named (codes "S2601.equity.net") (wholes.NetPart risks.Equity)
    ∷ named (codes "S2601.property.gross") wholes.Property
    ∷ named (codes "S2601.property.net") (wholes.NetPart risks.Property)
    ∷ named (codes "S2601.spread.gross") wholes.Spread
    ∷ named (codes "S2601.spread.net") (wholes.NetPart risks.Spread)
    ∷ named (codes "S2601.concentration.gross") wholes.Concentration
    ∷ named (codes "S2601.concentration.net") (wholes.NetPart risks.Concentration)
    ∷ named (codes "S2601.currency.gross") (wholes.Currency measures.Gross)
    ∷ named (codes "S2601.currency.net") (wholes.Currency measures.Net)
    ∷ named (codes "S2601.market.gross") (wholes.Market measures.Gross)
    ∷ named (codes "S2601.market.net") (wholes.Market measures.Net) ∷ []

-- S.26.02: counterparty default risk
abbrev pub default_cells : List NamedFigure
default_cells =
    named (codes "S2602.type1") wholes.DefaultType1
    ∷ named (codes "S2602.type2") wholes.DefaultType2
    ∷ named (codes "S2602.default.gross") wholes.Default
    ∷ named (codes "S2602.default.net") (wholes.NetPart risks.Default) ∷ []

-- S.26.03: life underwriting risk
abbrev pub life_cells : List NamedFigure
life_cells =
    named (codes "S2603.mortality.gross") (wholes.BioScenario biometrics.Life projections.Mortality measures.Gross)
    ∷ named (codes "S2603.mortality.net") (wholes.BioScenario biometrics.Life projections.Mortality measures.Net)
    ∷ named (codes "S2603.longevity.gross") (wholes.BioScenario biometrics.Life projections.Longevity measures.Gross)
    ∷ named (codes "S2603.longevity.net") (wholes.BioScenario biometrics.Life projections.Longevity measures.Net)
    ∷ named (codes "S2603.disability.gross") (wholes.BioScenario biometrics.Life projections.Disability measures.Gross)
    ∷ named (codes "S2603.disability.net") (wholes.BioScenario biometrics.Life projections.Disability measures.Net)
    ∷ named (codes "S2603.expense.gross") (wholes.BioScenario biometrics.Life projections.Expense measures.Gross)
    ∷ named (codes "S2603.expense.net") (wholes.BioScenario biometrics.Life projections.Expense measures.Net)
    ∷ named (codes "S2603.revision.gross") (wholes.BioScenario biometrics.Life projections.Revision measures.Gross)
    ∷ named (codes "S2603.revision.net") (wholes.BioScenario biometrics.Life projections.Revision measures.Net)
    ∷ named (codes "S2603.lapse.up.gross") (wholes.BioScenario biometrics.Life projections.LapseUp measures.Gross)
    ∷ named (codes "S2603.lapse.up.net") (wholes.BioScenario biometrics.Life projections.LapseUp measures.Net)
    ∷ named (codes "S2603.lapse.down.gross") (wholes.BioScenario biometrics.Life projections.LapseDown measures.Gross)
    ∷ named (codes "S2603.lapse.down.net") (wholes.BioScenario biometrics.Life projections.LapseDown measures.Net)
    ∷ named (codes "S2603.lapse.mass.gross") (wholes.BioScenario biometrics.Life projections.LapseMass measures.Gross)
    ∷ named (codes "S2603.lapse.mass.net") (wholes.BioScenario biometrics.Life projections.LapseMass measures.Net)
    ∷ named (codes "S2603.lapse.gross") (wholes.Picked alternatives.LifeLapse measures.Gross)
    ∷ named (codes "S2603.lapse.net") (wholes.Picked alternatives.LifeLapse measures.Net)
    ∷ named (codes "S2603.cat.gross") (wholes.BioScenario biometrics.Life projections.Catastrophe measures.Gross)
    ∷ named (codes "S2603.cat.net") (wholes.BioScenario biometrics.Life projections.Catastrophe measures.Net)
    ∷ named (codes "S2603.life.gross") (wholes.Life measures.Gross)
    ∷ named (codes "S2603.life.net") (wholes.Life measures.Net) ∷ []

-- S.26.04: health underwriting risk
abbrev pub health_cells : List NamedFigure
health_cells =
    named (codes "S2604.mortality.gross") (wholes.BioScenario biometrics.Health projections.Mortality measures.Gross)
    ∷ named (codes "S2604.mortality.net") (wholes.BioScenario biometrics.Health projections.Mortality measures.Net)
    ∷ named (codes "S2604.longevity.gross") (wholes.BioScenario biometrics.Health projections.Longevity measures.Gross)
    ∷ named (codes "S2604.longevity.net") (wholes.BioScenario biometrics.Health projections.Longevity measures.Net)
    ∷ named (codes "S2604.disability.gross") (wholes.BioScenario biometrics.Health projections.Disability measures.Gross)
    ∷ named (codes "S2604.disability.net") (wholes.BioScenario biometrics.Health projections.Disability measures.Net)
    ∷ named (codes "S2604.expense.gross") (wholes.BioScenario biometrics.Health projections.Expense measures.Gross)
    ∷ named (codes "S2604.expense.net") (wholes.BioScenario biometrics.Health projections.Expense measures.Net)
    ∷ named (codes "S2604.revision.gross") (wholes.BioScenario biometrics.Health projections.Revision measures.Gross)
    ∷ named (codes "S2604.revision.net") (wholes.BioScenario biometrics.Health projections.Revision measures.Net)
    ∷ named (codes "S2604.lapse.up.gross") (wholes.BioScenario biometrics.Health projections.LapseUp measures.Gross)
    ∷ named (codes "S2604.lapse.up.net") (wholes.BioScenario biometrics.Health projections.LapseUp measures.Net)
    ∷ named (codes "S2604.lapse.down.gross") (wholes.BioScenario biometrics.Health projections.LapseDown measures.Gross)
    ∷ named (codes "S2604.lapse.down.net") (wholes.BioScenario biometrics.Health projections.LapseDown measures.Net)
    ∷ named (codes "S2604.lapse.mass.gross") (wholes.BioScenario biometrics.Health projections.LapseMass measures.Gross)
    ∷ named (codes "S2604.lapse.mass.net") (wholes.BioScenario biometrics.Health projections.LapseMass measures.Net)
    ∷ named (codes "S2604.lapse.gross") (wholes.Picked alternatives.HealthLapse measures.Gross)
    ∷ named (codes "S2604.lapse.net") (wholes.Picked alternatives.HealthLapse measures.Net)
    ∷ named (codes "S2604.slt.gross") (wholes.Slt measures.Gross)
    ∷ named (codes "S2604.slt.net") (wholes.Slt measures.Net)
    ∷ named (codes "S2604.nslt.pr") (wholes.PremiumReserve sets.Nslt)
    ∷ named (codes "S2604.nslt.lapse") (wholes.Lapse sets.Nslt)
    ∷ named (codes "S2604.nslt") (wholes.Nslt measures.Gross)
    ∷ named (codes "S2604.cat.gross") wholes.HealthCatastrophe
    ∷ named (codes "S2604.cat.net") (wholes.NetPart risks.HealthCatastrophe)
    ∷ named (codes "S2604.health.gross") (wholes.Health measures.Gross)
    ∷ named (codes "S2604.health.net") (wholes.Health measures.Net) ∷ []

-- S.26.05: non-life underwriting risk
abbrev pub nonlife_cells : List NamedFigure
nonlife_cells =
    named (codes "S2605.pr") (wholes.PremiumReserve sets.Nl)
    ∷ named (codes "S2605.lapse") (wholes.Lapse sets.Nl)
    ∷ named (codes "S2605.cat.nat") wholes.Natural
    ∷ named (codes "S2605.cat.manmade") wholes.ManMade
    ∷ named (codes "S2605.cat") wholes.NonlifeCatastrophe
    ∷ named (codes "S2605.nonlife") (wholes.Nonlife measures.Gross) ∷ []

-- S.26.06: operational risk
abbrev pub operational_cells : List NamedFigure
operational_cells =
    named (codes "S2606.prem") (wholes.OpPart operations.Premiums)
    ∷ named (codes "S2606.prov") (wholes.OpPart operations.Provisions)
    ∷ named (codes "S2606.cap") (wholes.OpPart operations.Cap)
    ∷ named (codes "S2606.op") (wholes.OpPart operations.Charge) ∷ []

-- all templates, one after another
unfoldable pub table : List NamedFigure
table =
    requirement_cells ++ (market_cells ++ (default_cells ++ (life_cells ++ (health_cells ++ (nonlife_cells
    ++ operational_cells)))))

-- a cell as the code lists it
abbrev pub seen : Entry → NamedFigure
seen entry = named entry.name.now entry.shown

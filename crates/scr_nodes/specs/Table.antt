-- What is read off the tables for a figure, at first and then; the words follow (this project's own).
use Rattle.scr_sheet.specs.declared.rows.Class.TheVariants as classes
use Rattle.scr_nodes.specs.declared.node.Measure.TheVariants as measures
use Rattle.scr_nodes.specs.declared.node.Node.{Node}
use Rattle.scr_nodes.specs.declared.node.Node.TheVariants as nodes
use Rattle.scr_nodes.specs.declared.node.OfCurrency.TheVariants as of_currencies
use Rattle.scr_nodes.specs.declared.node.OfFund.TheVariants as of_funds
use Rattle.scr_nodes.specs.declared.node.OfGroup.TheVariants as of_groups
use Rattle.scr_nodes.specs.declared.node.OfLiability.TheVariants as of_liabilities
use Rattle.scr_nodes.specs.declared.node.OfSecurity.TheVariants as of_securities
use Rattle.scr_nodes.specs.declared.node.Whole.TheVariants as wholes
use Rattle.scr_nodes.specs.declared.selections.Counterparties.TheVariants as counterparties
use Rattle.scr_nodes.specs.declared.selections.Currencies.TheVariants as currencies
use Rattle.scr_nodes.specs.declared.selections.Holders.TheVariants as holders
use Rattle.scr_nodes.specs.declared.selections.Holdings.TheVariants as holdings
use Rattle.scr_nodes.specs.declared.selections.Obligations.TheVariants as obligations
use Rattle.scr_nodes.specs.declared.selections.Selection.{Selection}
use Rattle.scr_nodes.specs.declared.selections.Selection.TheVariants as selections

abbrev pub first_of : Node → Selection
first_of (nodes.Fund name of_funds.Total) = selections.Funds (holders.Of name) of_funds.Total
first_of (nodes.Security name of_securities.Total) = selections.Funds (holders.Of name) of_funds.Total
first_of (nodes.Currency currency (of_currencies.Loss direction)) =
    selections.Securities (holdings.PayingIn currency) (of_securities.Rate direction)
first_of (nodes.Currency currency (of_currencies.Scenario direction measures.Gross)) =
    selections.Securities (holdings.In currency) of_securities.Total
first_of (nodes.Group name of_groups.Total) = selections.Securities (holdings.OfGroup name) of_securities.Total
first_of (nodes.Whole (wholes.InterestScenario direction measures.Gross)) =
    selections.Currencies currencies.All (of_currencies.Loss direction)
first_of (nodes.Whole (wholes.Currency measure)) =
    selections.Currencies currencies.Foreign (of_currencies.Picked measure)
first_of (nodes.Whole (wholes.ClassSum class)) = selections.Securities (holdings.OfClass class) of_securities.Total
first_of (nodes.Whole wholes.Spread) = selections.Securities (holdings.OfClass classes.Bond) of_securities.Spread
first_of (nodes.Whole wholes.Assets) = selections.Securities holdings.Grouped of_securities.Total
first_of (nodes.Whole wholes.Concentration) = selections.Groups counterparties.All of_groups.ConcentrationSquare
first_of (nodes.Whole (wholes.ClassLoss class)) = selections.Groups (counterparties.OfClass class) of_groups.Loss
first_of (nodes.Whole (wholes.ClassSquare class)) = selections.Groups (counterparties.OfClass class) of_groups.Loss
first_of (nodes.Whole (wholes.BioScenario biometric projection measures.Gross)) =
    selections.Liabilities (obligations.Stressed biometric projection) (of_liabilities.Loss projection)
first_of node = selections.None

abbrev pub second_of : Node → Selection
second_of (nodes.Currency currency (of_currencies.Loss direction)) =
    selections.Liabilities (obligations.In currency) (of_liabilities.Rate direction)
second_of (nodes.Currency currency (of_currencies.Scenario direction measures.Gross)) =
    selections.Liabilities (obligations.In currency) of_liabilities.Present
second_of (nodes.Whole (wholes.ClassSum classes.Type2Equity)) = selections.Funds holders.Closed of_funds.Total
second_of node = selections.None

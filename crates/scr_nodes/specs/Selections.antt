-- The figures that are read off one table (this project's own).
use Rattle.std.specs.Prelude.{Bool, true, List, [], filter, map}
use Rattle.scr_sheet.specs.declared.rows.Curve.{Curve}
use Rattle.scr_sheet.specs.declared.rows.Group.{Group}
use Rattle.scr_sheet.specs.declared.rows.Liability.{Liability}
use Rattle.scr_sheet.specs.declared.rows.Position.{Position}
use Rattle.scr_sheet.specs.declared.rows.Stake.{Stake}
use Rattle.scr_sheet.specs.declared.sheet.BalanceSheet.{BalanceSheet}
use Rattle.scr_nodes.specs.declared.node.Node.{Node}
use Rattle.scr_nodes.specs.declared.node.Node.TheVariants as nodes
use Rattle.scr_nodes.specs.declared.node.OfCurrency.{OfCurrency}
use Rattle.scr_nodes.specs.declared.node.OfFund.{OfFund}
use Rattle.scr_nodes.specs.declared.node.OfGroup.{OfGroup}
use Rattle.scr_nodes.specs.declared.node.OfLiability.{OfLiability}
use Rattle.scr_nodes.specs.declared.node.OfSecurity.{OfSecurity}
use Rattle.scr_nodes.specs.declared.selections.Counterparties.{Counterparties}
use Rattle.scr_nodes.specs.declared.selections.Counterparties.TheVariants as counterparties
use Rattle.scr_nodes.specs.declared.selections.Currencies.{Currencies}
use Rattle.scr_nodes.specs.declared.selections.Currencies.TheVariants as currencies
use Rattle.scr_nodes.specs.declared.selections.Holders.{Holders}
use Rattle.scr_nodes.specs.declared.selections.Holders.TheVariants as holders
use Rattle.scr_nodes.specs.declared.selections.Holdings.{Holdings}
use Rattle.scr_nodes.specs.declared.selections.Holdings.TheVariants as holdings
use Rattle.scr_nodes.specs.declared.selections.Obligations.{Obligations}
use Rattle.scr_nodes.specs.declared.selections.Obligations.TheVariants as obligations
use Rattle.scr_nodes.specs.declared.selections.Selection.{Selection}
use Rattle.scr_nodes.specs.declared.selections.Selection.TheVariants as selections
use Rattle.scr_nodes.specs.Rows.{holds, is_closed, is_paying, is_paying_in, is_owed_in, has_class, is_held_in, is_foreign, is_of_group, has_group, is_of_default_class, has_flows, is_stressed}

-- ---- which rows

abbrev pub is_holder : Holders → Stake → Bool
is_holder (holders.Of name) stake = holds name stake
is_holder holders.Closed stake = is_closed stake

abbrev pub is_counted : Holdings → Position → Bool
is_counted (holdings.OfClass class) position = has_class class position
is_counted (holdings.In currency) position = is_held_in currency position
is_counted holdings.Paying position = is_paying position
is_counted (holdings.PayingIn currency) position = is_paying_in currency position
is_counted (holdings.OfGroup name) position = is_of_group name position
is_counted holdings.Grouped position = has_group position

abbrev pub is_obligation : Obligations → Liability → Bool
is_obligation obligations.All liability = true
is_obligation (obligations.In currency) liability = is_owed_in currency liability
is_obligation (obligations.Under projection) liability = has_flows projection liability
is_obligation (obligations.Stressed biometric projection) liability = is_stressed biometric projection liability

abbrev pub is_currency : BalanceSheet → Currencies → Curve → Bool
is_currency sheet currencies.All curve = true
is_currency sheet currencies.Foreign curve = is_foreign sheet curve

abbrev pub is_counterparty : Counterparties → Group → Bool
is_counterparty counterparties.All group = true
is_counterparty (counterparties.OfClass class) group = is_of_default_class class group

-- ---- which figure of a row

abbrev pub fund_figure : OfFund → Stake → Node
fund_figure what stake = nodes.Fund stake.fund.name what

abbrev pub security_figure : OfSecurity → Position → Node
security_figure what position = nodes.Security position.security.name what

abbrev pub liability_figure : OfLiability → Liability → Node
liability_figure what liability = nodes.Liability liability.name what

abbrev pub currency_figure : OfCurrency → Curve → Node
currency_figure what curve = nodes.Currency curve.currency what

abbrev pub group_figure : OfGroup → Group → Node
group_figure what group = nodes.Group group.name what

-- ---- the figures

abbrev pub selected : BalanceSheet → Selection → List Node
selected sheet selections.None = []
selected sheet (selections.Funds which what) = map (fund_figure what) (filter (is_holder which) sheet.funds)
selected sheet (selections.Securities which what) = map (security_figure what) (filter (is_counted which) sheet.securities)
selected sheet (selections.Liabilities obligations.All what) = map (liability_figure what) sheet.liabilities
selected sheet (selections.Liabilities which what) = map (liability_figure what) (filter (is_obligation which) sheet.liabilities)
selected sheet (selections.Currencies currencies.All what) = map (currency_figure what) sheet.curves
selected sheet (selections.Currencies which what) = map (currency_figure what) (filter (is_currency sheet which) sheet.curves)
selected sheet (selections.Groups counterparties.All what) = map (group_figure what) sheet.groups
selected sheet (selections.Groups which what) = map (group_figure what) (filter (is_counterparty which) sheet.groups)

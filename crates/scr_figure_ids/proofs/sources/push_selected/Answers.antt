use Rattle.std.proofs.Common.{ap, sym, ◌∙◌, arith}
use Rattle.scr_ids.specs.declared.table.Table.TheVariants as tables
use Rattle.scr_nodes.specs.Selections.{is_counted, is_counterparty, is_currency, is_holder, is_obligation}
use Rattle.scr_figure_ids.specs.Places.{places_where}
use Rattle.scr_figure_ids.specs.SourceNumbers.{numbers_at, selected_numbers}
use Rattle.scr_figure_ids.proofs.Live.{currency-few, group-few, security-few}
use Rattle.scr_figure_ids.proofs.SourceRows.{fund-family, liability-few, read-alike}
use Rattle.scr_figure_ids.proofs.sources.push_selected.Goals as goal

pub returns-in-Funds : goal.returns-in-Funds
returns-in-Funds c =
    let sheet = c.args.view.sheet.now in
    let places = c.args.view.places.now in
    let rows = places_where (is_holder c.in-Funds.holders) 0 sheet.funds in
    read-alike c.push_of_funds.result c.push_of_funds.new.list.items c.args.list.now.items _ _
    (ap (λ own. numbers_at places tables.Fund own rows) (sym (fund-family c.in-Funds.field-1))
    ∙ ap (selected_numbers sheet places) (sym c.in-Funds.is))
    c.push_of_funds.ensures

pub push_of_securities-requires-clause-own : goal.push_of_securities-requires-clause-own
push_of_securities-requires-clause-own c =
    let few = security-few c.in-Securities.what in
    omega (arith, few, c.security_family.ensures)

pub returns-in-Securities : goal.returns-in-Securities
returns-in-Securities c =
    let sheet = c.args.view.sheet.now in
    let places = c.args.view.places.now in
    let rows = places_where (is_counted c.in-Securities.holdings) 0 sheet.securities in
    read-alike c.push_of_securities.result c.push_of_securities.new.list.items c.args.list.now.items _ _
    (ap (λ own. numbers_at places tables.Security own rows) c.security_family.ensures ∙ ap (selected_numbers sheet places) (sym c.in-Securities.is))
    c.push_of_securities.ensures

pub push_of_liabilities-requires-clause-own : goal.push_of_liabilities-requires-clause-own
push_of_liabilities-requires-clause-own c =
    let few = liability-few c.in-Liabilities.what in
    omega (arith, few, c.liability_family.ensures)

pub returns-in-Liabilities : goal.returns-in-Liabilities
returns-in-Liabilities c =
    let sheet = c.args.view.sheet.now in
    let places = c.args.view.places.now in
    let rows = places_where (is_obligation c.in-Liabilities.obligations) 0 sheet.liabilities in
    read-alike c.push_of_liabilities.result c.push_of_liabilities.new.list.items c.args.list.now.items _ _
    (ap (λ own. numbers_at places tables.Liability own rows) c.liability_family.ensures ∙ ap (selected_numbers sheet places) (sym c.in-Liabilities.is))
    c.push_of_liabilities.ensures

pub push_of_currencies-requires-clause-own : goal.push_of_currencies-requires-clause-own
push_of_currencies-requires-clause-own c =
    let few = currency-few c.in-Currencies.what in
    omega (arith, few, c.currency_family.ensures)

pub returns-in-Currencies : goal.returns-in-Currencies
returns-in-Currencies c =
    let sheet = c.args.view.sheet.now in
    let places = c.args.view.places.now in
    let rows = places_where (is_currency sheet c.in-Currencies.currencies) 0 sheet.curves in
    read-alike c.push_of_currencies.result c.push_of_currencies.new.list.items c.args.list.now.items _ _
    (ap (λ own. numbers_at places tables.Currency own rows) c.currency_family.ensures ∙ ap (selected_numbers sheet places) (sym c.in-Currencies.is))
    c.push_of_currencies.ensures

pub push_of_groups-requires-clause-own : goal.push_of_groups-requires-clause-own
push_of_groups-requires-clause-own c =
    let few = group-few c.in-Groups.what in
    omega (arith, few, c.group_family.ensures)

pub returns-in-Groups : goal.returns-in-Groups
returns-in-Groups c =
    let sheet = c.args.view.sheet.now in
    let places = c.args.view.places.now in
    let rows = places_where (is_counterparty c.in-Groups.counterparties) 0 sheet.groups in
    read-alike c.push_of_groups.result c.push_of_groups.new.list.items c.args.list.now.items _ _
    (ap (λ own. numbers_at places tables.Group own rows) c.group_family.ensures ∙ ap (selected_numbers sheet places) (sym c.in-Groups.is))
    c.push_of_groups.ensures

use Rattle.std.proofs.Common.{◌≡◌, IfSome, Some, map, slice_get, subst, sym, ap, ◌∙◌}
use Rattle.scr_sheet.specs.BalanceSheet.{stake_name}
use Rattle.scr_nodes.specs.Rows.{holds}
use Rattle.scr_nodes.specs.Table.{first_of}
use Rattle.scr_figure_ids.specs.Families.{name_of, table_of}
use Rattle.scr_figure_ids.specs.Numbers.{names_in}
use Rattle.scr_figure_ids.specs.SourceNumbers.{selected_rows}
use Rattle.scr_figure_ids.proofs.SourceRows.{fund-first, key-found, key-within}
use Rattle.scr_figure_ids.proofs.sources.first_rows.Goals as goal

pub at-requires : goal.at-requires
at-requires c =
    let sheet = c.args.from.sheet.now in
    key-within holds (map stake_name sheet.funds) sheet.funds c.args.from.members.now.funds.holding_funds
    c.requires.members.funds.holding_funds c.args.from.row c.in-Fund.field-0
    (subst (λ n. slice_get (names_in sheet (table_of n)) c.args.from.row ≡ Some (name_of n)) c.in-Fund.is c.requires.row)

pub returns-in-Fund : goal.returns-in-Fund
returns-in-Fund c =
    let sheet = c.args.from.sheet.now in
    key-found holds (map stake_name sheet.funds) sheet.funds c.args.from.members.now.funds.holding_funds
    c.requires.members.funds.holding_funds c.args.from.row c.in-Fund.field-0
    (subst (λ n. slice_get (names_in sheet (table_of n)) c.args.from.row ≡ Some (name_of n)) c.in-Fund.is c.requires.row)
    c.at.result.now c.at.ensures
    ∙ ap (selected_rows sheet) (sym (ap first_of c.in-Fund.is ∙ fund-first c.in-Fund.field-0 c.in-Fund.field-1))

pub holding_rows-requires-clause-row : goal.holding_rows-requires-clause-row
holding_rows-requires-clause-row c =
    subst (λ n. slice_get (names_in c.args.from.sheet.now (table_of n)) c.args.from.row ≡ Some (name_of n)) c.in-Security.is c.requires.row

pub returns-in-Security : goal.returns-in-Security
returns-in-Security c =
    subst (λ n. IfSome c.holding_rows.result (λ rows. rows.now ≡ selected_rows c.args.from.sheet.now (first_of n))) (sym c.in-Security.is)
    c.holding_rows.ensures

pub returns-in_default : goal.returns-in_default
returns-in_default c =
    subst (λ s. IfSome c.gathered_rows.result (λ rows. rows.now ≡ selected_rows c.args.from.sheet.now s)) c.first_of.ensures
    c.gathered_rows.ensures

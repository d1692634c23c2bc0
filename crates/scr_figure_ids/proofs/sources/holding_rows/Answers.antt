use Rattle.std.proofs.Common.{map, sym, ap, ◌∙◌}
use Rattle.scr_sheet.specs.BalanceSheet.{position_name}
use Rattle.scr_nodes.specs.Rows.{holds}
use Rattle.scr_nodes.specs.Table.{first_of}
use Rattle.scr_nodes.specs.declared.node.Node.TheVariants as nodes
use Rattle.scr_figure_ids.specs.SourceNumbers.{selected_rows}
use Rattle.scr_figure_ids.proofs.SourceRows.{key-found, key-within}
use Rattle.scr_figure_ids.proofs.sources.holding_rows.Goals as goal

pub at-requires : goal.at-requires
at-requires c =
    let sheet = c.args.from.sheet.now in
    key-within holds (map position_name sheet.securities) sheet.funds c.args.from.members.now.funds.holding_securities
    c.requires.members.funds.holding_securities c.args.from.row c.args.name.now c.requires.row

pub returns-in-Total : goal.returns-in-Total
returns-in-Total c =
    let sheet = c.args.from.sheet.now in
    key-found holds (map position_name sheet.securities) sheet.funds c.args.from.members.now.funds.holding_securities
    c.requires.members.funds.holding_securities c.args.from.row c.args.name.now c.requires.row c.at.result.now c.at.ensures
    ∙ ap (λ w. selected_rows sheet (first_of (nodes.Security c.args.name.now w))) (sym c.in-Total.is)

use Rattle.std.proofs.Common.{◌==◌, not, length, map, ap, ◌∙◌}
use Rattle.scr_sheet.specs.BalanceSheet.{position_name}
use Rattle.scr_nodes.specs.Rows.{holds}
use Rattle.scr_figure_ids.proofs.SourceRows.{key-found, key-within}
use Rattle.scr_tree.proofs.FirstRows.{got-map, got-row}
use Rattle.scr_tree.proofs.Unheld.{some-where}
use Rattle.scr_tree.proofs.first_links.is_held.Goals as goal

pub at-holders-requires : goal.at-holders-requires
at-holders-requires c =
    let sheet = c.args.ground.book.now.sheet in
    let row = got-row sheet.securities c.args.k c.requires.row in
    key-within holds (map position_name sheet.securities) sheet.funds c.args.ground.members.now.funds.holding_securities
    c.requires.ground.members.funds.holding_securities c.args.k (position_name row.0)
    (got-map position_name sheet.securities c.args.k row.0 row.1)

pub returns : goal.returns
returns c = λ position there.
    let sheet = c.args.ground.book.now.sheet in
    let found =
    key-found holds (map position_name sheet.securities) sheet.funds c.args.ground.members.now.funds.holding_securities
    c.requires.ground.members.funds.holding_securities c.args.k (position_name position)
    (got-map position_name sheet.securities c.args.k position there) c.at-holders.result.now c.at-holders.ensures in
    ap not (c.is_empty.ensures ∙ ap (λ rows. length rows == 0) found) ∙ some-where (holds (position_name position)) 0 sheet.funds

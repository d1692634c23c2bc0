use Rattle.std.proofs.Common.{◌≡◌, ap, subst, sym, ◌∙◌, arith}
use Rattle.std.proofs.lemmas.Option.{slice_get_within}
use Rattle.scr_ids.specs.Ranges.{count, first, stride}
use Rattle.scr_ids.specs.declared.table.Table.{Table}
use Rattle.scr_figure_ids.specs.Families.{name_of, table_of}
use Rattle.scr_figure_ids.specs.Numbers.{StandsAt, names_in}
use Rattle.scr_figure_ids.proofs.RowNames.{placed-nowhere, placed-some}
use Rattle.scr_figure_ids.proofs.Standing.{of-sheet, stands}
use Rattle.scr_figure_ids.proofs.finding.find.Goals as goal

pub returns-in_err-row-clause-absent : goal.returns-in_err-row-clause-absent
returns-in_err-row-clause-absent c = λ _ number x.
    placed-nowhere (name_of c.args.node.now) (names_in c.args.sheet.now (table_of c.args.node.now)) (sym c.in_err-row.ensures) x.k x.row

pub first-requires : goal.first-requires
first-requires c =
    let node = c.args.node.now in
    let names = names_in c.args.sheet.now (table_of node) in
    let room = slice_get_within names c.in_ok-row.row (name_of node) (placed-some (name_of node) names c.in_ok-row.row (sym c.in_ok-row.ensures)) in
    let rows = c.requires.rows (table_of node) (of-sheet node) in
    let same = ap (count c.args.places.now) c.table-table.ensures in
    omega (arith, room, rows, same)

pub returns-clause-there : goal.returns-clause-there
returns-clause-there c =
    let node = c.args.node.now in
    let names = names_in c.args.sheet.now (table_of node) in
    let row = placed-some (name_of node) names c.in_ok-row.row (sym c.in_ok-row.ensures) in
    let most = ap stride c.table-table.ensures in
    let start : c.first.result ≡ first c.args.places.now (table_of node) c.in_ok-row.row = c.first.ensures.first
    ∙ ap (λ (t : Table). first c.args.places.now t c.in_ok-row.row) c.table-table.ensures in
    subst (StandsAt c.args.sheet.now c.args.places.now node) (omega (arith, start, c.family-family.ensures))
    (stands c.args.sheet.now c.args.places.now c.requires node (omega (arith, most, c.stride.ensures, c.family-family.ensures))
    c.in_ok-row.row row)

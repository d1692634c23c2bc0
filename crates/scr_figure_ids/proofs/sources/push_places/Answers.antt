use Rattle.std.proofs.Common.{◌≡◌, ◌<◌, ap, subst, sym, ◌∙◌, arith}
use Rattle.std.specs.List.{AllByRecursion}
use Rattle.scr_ids.specs.Ranges.{count, stride}
use Rattle.scr_figure_ids.specs.SourceNumbers.{numbers_at, selected_family, selected_rows, selected_table}
use Rattle.scr_figure_ids.proofs.SourceRows.{read-alike, selected-few, selected-within, some-is}
use Rattle.scr_figure_ids.proofs.sources.push_places.Goals as goal

pub push_rows-requires-clause-rows : goal.push_rows-requires-clause-rows
push_rows-requires-clause-rows c =
    let sheet = c.args.view.sheet.now in
    let places = c.args.view.places.now in
    let selection = c.args.selection.now in
    let found = some-is c.args.rows c.in-Some.found (λ rows. rows.now ≡ selected_rows sheet selection) c.in-Some.is c.requires.rows in
    subst (λ table. AllByRecursion (λ k. k < count places table) c.in-Some.found.now) (sym c.selected_table-table.ensures)
    (subst (λ rows. AllByRecursion (λ k. k < count places (selected_table selection)) rows) (sym found)
    (selected-within sheet places c.requires.numbered selection))

pub push_rows-requires-clause-own : goal.push_rows-requires-clause-own
push_rows-requires-clause-own c =
    let few = selected-few c.args.selection.now in
    omega (arith, few, c.selected_family.ensures, ap stride c.selected_table-table.ensures)

pub returns-in-Some : goal.returns-in-Some
returns-in-Some c =
    let sheet = c.args.view.sheet.now in
    let places = c.args.view.places.now in
    let selection = c.args.selection.now in
    let found = some-is c.args.rows c.in-Some.found (λ rows. rows.now ≡ selected_rows sheet selection) c.in-Some.is c.requires.rows in
    read-alike c.push_rows.result c.push_rows.new.list.items c.args.list.now.items _ _
    (ap (λ table. numbers_at places table c.selected_family.result c.in-Some.found.now) c.selected_table-table.ensures
    ∙ ap (λ own. numbers_at places (selected_table selection) own c.in-Some.found.now) c.selected_family.ensures
    ∙ ap (λ rows. numbers_at places (selected_table selection) (selected_family selection) rows) found)
    c.push_rows.ensures

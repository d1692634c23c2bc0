use Rattle.std.proofs.Common.{◌≡◌, ◌++◌, take}
use Rattle.scr_ids.specs.declared.table.Table.TheVariants as tables
use Rattle.scr_nodes.specs.Selections.{is_currency}
use Rattle.scr_figure_ids.specs.Places.{places_where}
use Rattle.scr_figure_ids.specs.SourceNumbers.{numbers_at}
use Rattle.scr_figure_ids.proofs.sources.push_of_currencies.Given as goal

-- what the rows so far give stands behind what stood there
abbrev pub invariant-loop-k : goal.invariant-loop-k
invariant-loop-k l = l.list.items ≡ l.initial.list.items
    ++ numbers_at l.view.places.now tables.Currency l.own (places_where (is_currency l.view.sheet.now l.currencies) 0 (take l.k l.view.sheet.now.curves))

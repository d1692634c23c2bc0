use Rattle.std.proofs.Common.{◌+◌, refl, sym, ◌∙◌, arith}
use Rattle.std.proofs.lemmas.List.{length-map}
use Rattle.scr_ids.specs.Ranges.{first}
use Rattle.scr_ids.specs.declared.table.Table.TheVariants as tables
use Rattle.scr_sheet.specs.BalanceSheet.{position_name}
use Rattle.scr_nodes.specs.Selections.{is_counted}
use Rattle.scr_figure_ids.proofs.SourceRows.{place-passed, place-read}
use Rattle.scr_figure_ids.proofs.sources.push_of_securities.Goals as goal
use Rattle.scr_figure_ids.proofs.sources.push_of_securities.Goals.{then-is_counted+in_ok-push, else-is_counted}

pub first-requires : goal.first-requires
first-requires c =
    let rows = c.requires.numbered.rows tables.Security refl in
    let same = length-map c.args.view.sheet.now.securities position_name in
    omega (arith, rows, same, c.loop-k-test.true, c.len-k-end.ensures.count)

pub loop-k-preserved : goal.loop-k-preserved
loop-k-preserved c =
    elim c.if-is_counted.branch [
      | then-is_counted+in_ok-push w ↦ place-read (is_counted c.args.holdings.now) (λ row. first c.args.view.places.now tables.Security row + c.args.own)
          c.args.view.sheet.now.securities c.loop-k.k c.at-position.result.now c.loop-k.list.items c.args.list.now.items
          c.if-is_counted.list.items c.at-position.ensures (sym c.is_counted.ensures ∙ w.if-is_counted.true) c.loop-k.invariant
          (cc (w.list-is, w.in_ok-push.ensures.items, w.first.ensures.first))
      | else-is_counted w ↦ place-passed (is_counted c.args.holdings.now) (λ row. first c.args.view.places.now tables.Security row + c.args.own)
          c.args.view.sheet.now.securities c.loop-k.k c.at-position.result.now c.loop-k.list.items c.args.list.now.items
          c.if-is_counted.list.items c.at-position.ensures (sym c.is_counted.ensures ∙ w.if-is_counted.false) c.loop-k.invariant (cc (w.list-is))
    ]

use Rattle.std.proofs.Common.{◌+◌, refl, sym, ◌∙◌, arith}
use Rattle.std.proofs.lemmas.List.{length-map}
use Rattle.scr_ids.specs.Ranges.{first}
use Rattle.scr_ids.specs.declared.table.Table.TheVariants as tables
use Rattle.scr_sheet.specs.BalanceSheet.{curve_name}
use Rattle.scr_nodes.specs.Selections.{is_currency}
use Rattle.scr_figure_ids.proofs.SourceRows.{place-passed, place-read}
use Rattle.scr_figure_ids.proofs.sources.push_of_currencies.Goals as goal
use Rattle.scr_figure_ids.proofs.sources.push_of_currencies.Goals.{then-is_currency+in_ok-push, else-is_currency}

pub first-requires : goal.first-requires
first-requires c =
    let rows = c.requires.numbered.rows tables.Currency refl in
    let same = length-map c.args.view.sheet.now.curves curve_name in
    omega (arith, rows, same, c.loop-k-test.true, c.len-k-end.ensures.count)

pub loop-k-preserved : goal.loop-k-preserved
loop-k-preserved c =
    elim c.if-is_currency.branch [
      | then-is_currency+in_ok-push w ↦ place-read (is_currency c.args.view.sheet.now c.args.currencies) (λ row. first c.args.view.places.now tables.Currency row + c.args.own)
          c.args.view.sheet.now.curves c.loop-k.k c.at-curve.result.now c.loop-k.list.items c.args.list.now.items
          c.if-is_currency.list.items c.at-curve.ensures (sym c.is_currency.ensures ∙ w.if-is_currency.true) c.loop-k.invariant
          (cc (w.list-is, w.in_ok-push.ensures.items, w.first.ensures.first))
      | else-is_currency w ↦ place-passed (is_currency c.args.view.sheet.now c.args.currencies) (λ row. first c.args.view.places.now tables.Currency row + c.args.own)
          c.args.view.sheet.now.curves c.loop-k.k c.at-curve.result.now c.loop-k.list.items c.args.list.now.items
          c.if-is_currency.list.items c.at-curve.ensures (sym c.is_currency.ensures ∙ w.if-is_currency.false) c.loop-k.invariant (cc (w.list-is))
    ]

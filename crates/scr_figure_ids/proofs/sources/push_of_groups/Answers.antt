use Rattle.std.proofs.Common.{◌+◌, refl, sym, ◌∙◌, arith}
use Rattle.std.proofs.lemmas.List.{length-map}
use Rattle.scr_ids.specs.Ranges.{first}
use Rattle.scr_ids.specs.declared.table.Table.TheVariants as tables
use Rattle.scr_sheet.specs.BalanceSheet.{group_name}
use Rattle.scr_nodes.specs.Selections.{is_counterparty}
use Rattle.scr_figure_ids.proofs.SourceRows.{place-passed, place-read}
use Rattle.scr_figure_ids.proofs.sources.push_of_groups.Goals as goal
use Rattle.scr_figure_ids.proofs.sources.push_of_groups.Goals.{then-is_counterparty+in_ok-push, else-is_counterparty}

pub first-requires : goal.first-requires
first-requires c =
    let rows = c.requires.numbered.rows tables.Group refl in
    let same = length-map c.args.view.sheet.now.groups group_name in
    omega (arith, rows, same, c.loop-k-test.true, c.len-k-end.ensures.count)

pub loop-k-preserved : goal.loop-k-preserved
loop-k-preserved c =
    elim c.if-is_counterparty.branch [
      | then-is_counterparty+in_ok-push w ↦ place-read (is_counterparty c.args.counterparties) (λ row. first c.args.view.places.now tables.Group row + c.args.own)
          c.args.view.sheet.now.groups c.loop-k.k c.at-group.result.now c.loop-k.list.items c.args.list.now.items
          c.if-is_counterparty.list.items c.at-group.ensures (sym c.is_counterparty.ensures ∙ w.if-is_counterparty.true) c.loop-k.invariant
          (cc (w.list-is, w.in_ok-push.ensures.items, w.first.ensures.first))
      | else-is_counterparty w ↦ place-passed (is_counterparty c.args.counterparties) (λ row. first c.args.view.places.now tables.Group row + c.args.own)
          c.args.view.sheet.now.groups c.loop-k.k c.at-group.result.now c.loop-k.list.items c.args.list.now.items
          c.if-is_counterparty.list.items c.at-group.ensures (sym c.is_counterparty.ensures ∙ w.if-is_counterparty.false) c.loop-k.invariant (cc (w.list-is))
    ]

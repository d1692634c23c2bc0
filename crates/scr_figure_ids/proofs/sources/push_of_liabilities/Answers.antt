use Rattle.std.proofs.Common.{◌+◌, refl, sym, ◌∙◌, arith}
use Rattle.std.proofs.lemmas.List.{length-map}
use Rattle.scr_ids.specs.Ranges.{first}
use Rattle.scr_ids.specs.declared.table.Table.TheVariants as tables
use Rattle.scr_sheet.specs.BalanceSheet.{liability_name}
use Rattle.scr_nodes.specs.Selections.{is_obligation}
use Rattle.scr_figure_ids.proofs.SourceRows.{place-passed, place-read}
use Rattle.scr_figure_ids.proofs.sources.push_of_liabilities.Goals as goal
use Rattle.scr_figure_ids.proofs.sources.push_of_liabilities.Goals.{then-is_obligation+in_ok-push, else-is_obligation}

pub first-requires : goal.first-requires
first-requires c =
    let rows = c.requires.numbered.rows tables.Liability refl in
    let same = length-map c.args.view.sheet.now.liabilities liability_name in
    omega (arith, rows, same, c.loop-k-test.true, c.len-k-end.ensures.count)

pub loop-k-preserved : goal.loop-k-preserved
loop-k-preserved c =
    elim c.if-is_obligation.branch [
      | then-is_obligation+in_ok-push w ↦ place-read (is_obligation c.args.obligations.now) (λ row. first c.args.view.places.now tables.Liability row + c.args.own)
          c.args.view.sheet.now.liabilities c.loop-k.k c.at-liability.result.now c.loop-k.list.items c.args.list.now.items
          c.if-is_obligation.list.items c.at-liability.ensures (sym c.is_obligation.ensures ∙ w.if-is_obligation.true) c.loop-k.invariant
          (cc (w.list-is, w.in_ok-push.ensures.items, w.first.ensures.first))
      | else-is_obligation w ↦ place-passed (is_obligation c.args.obligations.now) (λ row. first c.args.view.places.now tables.Liability row + c.args.own)
          c.args.view.sheet.now.liabilities c.loop-k.k c.at-liability.result.now c.loop-k.list.items c.args.list.now.items
          c.if-is_obligation.list.items c.at-liability.ensures (sym c.is_obligation.ensures ∙ w.if-is_obligation.false) c.loop-k.invariant (cc (w.list-is))
    ]

use Rattle.std.proofs.Common.{◌≡◌, ◌+◌, refl, sym, ◌∙◌, arith}
use Rattle.std.proofs.lemmas.List.{length-map}
use Rattle.scr_ids.specs.Ranges.{first}
use Rattle.scr_ids.specs.declared.table.Table.TheVariants as tables
use Rattle.scr_sheet.specs.BalanceSheet.{stake_name}
use Rattle.scr_nodes.specs.Selections.{is_holder}
use Rattle.scr_figure_ids.proofs.SourceRows.{place-passed, place-read}
use Rattle.scr_figure_ids.proofs.sources.push_of_funds.Goals as goal
use Rattle.scr_figure_ids.proofs.sources.push_of_funds.Goals.{then-is_holder+in_ok-push, else-is_holder}

pub first-requires : goal.first-requires
first-requires c =
    let rows = c.requires.numbered.rows tables.Fund refl in
    let same = length-map c.args.view.sheet.now.funds stake_name in
    omega (arith, rows, same, c.loop-k-test.true, c.len-k-end.ensures.count)

pub loop-k-preserved : goal.loop-k-preserved
loop-k-preserved c =
    let e : first c.args.view.places.now tables.Fund c.loop-k.k ≡ first c.args.view.places.now tables.Fund c.loop-k.k + 0 = omega arith in
    elim c.if-is_holder.branch [
      | then-is_holder+in_ok-push w ↦ place-read (is_holder c.args.holders.now) (λ row. first c.args.view.places.now tables.Fund row + 0)
          c.args.view.sheet.now.funds c.loop-k.k c.at-stake.result.now c.loop-k.list.items c.args.list.now.items
          c.if-is_holder.list.items c.at-stake.ensures (sym c.is_holder.ensures ∙ w.if-is_holder.true) c.loop-k.invariant
          (cc (w.list-is, w.in_ok-push.ensures.items, w.first.ensures.first, e))
      | else-is_holder w ↦ place-passed (is_holder c.args.holders.now) (λ row. first c.args.view.places.now tables.Fund row + 0)
          c.args.view.sheet.now.funds c.loop-k.k c.at-stake.result.now c.loop-k.list.items c.args.list.now.items
          c.if-is_holder.list.items c.at-stake.ensures (sym c.is_holder.ensures ∙ w.if-is_holder.false) c.loop-k.invariant (cc (w.list-is))
    ]

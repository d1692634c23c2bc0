use Rattle.std.proofs.Common.{◌≡◌, ◌<◌, ◌||◌, Bool, Some, length, slice_get, sym, ap, subst, ◌∙◌, arith}
use Rattle.scr_num.specs.Rounding.{ends}
use Rattle.scr_nodes.specs.Sources.{concentration_square}
use Rattle.scr_sheet.specs.declared.sheet.BalanceSheet.{BalanceSheet}
use Rattle.scr_block_graph.specs.declared.point.Point.TheVariants as points
use Rattle.scr_tree.specs.Ready.{reckoning_on}
use Rattle.scr_tree.proofs.SquareRow.{square-fits, square-right, square-row, square-stands, square-within}
use Rattle.scr_tree.proofs.reckoning.square_at.Goals as goal

pub at-group-requires : goal.at-group-requires
at-group-requires c = subst (λ (s : BalanceSheet). c.args.row < length s.groups) (sym c.sheet.ensures.sheet) c.requires.row

pub figure_of-total-requires : goal.figure_of-total-requires
figure_of-total-requires c =
    let b = c.args.basis in
    let group = c.at-group.result.now in
    let got = subst (λ (s : BalanceSheet). slice_get s.groups c.args.row ≡ Some group) c.sheet.ensures.sheet c.at-group.ensures in
    square-within b c.requires.basis c.args.row group got c.args.number (c.requires.row, c.requires.own) c.args.figures.now c.requires.ready 1 0 (omega arith)

pub concentration_square-span-requires-clause-row : goal.concentration_square-span-requires-clause-row
concentration_square-span-requires-clause-row c =
    let b = c.args.basis in
    let group = c.at-group.result.now in
    let got = subst (λ (s : BalanceSheet). slice_get s.groups c.args.row ≡ Some group) c.sheet.ensures.sheet c.at-group.ensures in
    square-row b c.requires.basis c.args.row group got c.args.number (c.requires.row, c.requires.own)

pub concentration_square-span-requires-clause-fits : goal.concentration_square-span-requires-clause-fits
concentration_square-span-requires-clause-fits c =
    let b = c.args.basis in
    let m = c.requires.scale in
    let group = c.at-group.result.now in
    let got = subst (λ (s : BalanceSheet). slice_get s.groups c.args.row ≡ Some group) c.sheet.ensures.sheet c.at-group.ensures in (
      ends m.assets.span,
      m.cents,
      square-fits b c.requires.basis c.args.row group got c.args.number (c.requires.row, c.requires.own) c.args.figures.now c.requires.ready
          m.assets c.figure_of-total.result m.worth c.figure_of-total.ensures c.known.ensures,
    )

pub returns : goal.returns
returns c = λ point at.
    let b = c.args.basis in
    let m = c.requires.scale in
    let group = c.at-group.result.now in
    let got = subst (λ (s : BalanceSheet). slice_get s.groups c.args.row ≡ Some group) c.sheet.ensures.sheet c.at-group.ensures in
    let total = c.figure_of-total.result in
    square-right b c.requires.basis c.args.row group got c.args.number (c.requires.row, c.requires.own) c.args.figures.now c.requires.ready
    m.assets total m.worth c.figure_of-total.ensures c.known.ensures
    c.concentration_square-span.result (c.args.assets.now.close || total.close) (c.concentration_square-span.ensures (ends m.assets.span) m.cents)
    (ap (λ (t : Bool). t || total.close) m.close)
    ∙ ap (reckoning_on b).worth (c.requires.basis.graph.numbers_of.numbers.exact c.args.number (points.Figure (concentration_square group)) point
    (square-stands b c.requires.basis c.args.row group got c.args.number (c.requires.row, c.requires.own)) at)

use Rattle.std.proofs.Common.{◌≡◌, get_or, length, ap, ◌∙◌, arith}
use Rattle.std.proofs.lemmas.Option.{slice_get-get_or}
use Rattle.scr_num.specs.Rounding.{ends}
use Rattle.scr_sheet.specs.declared.sheet.BalanceSheet.{BalanceSheet}
use Rattle.scr_nodes.specs.declared.node.Node.TheVariants as nodes
use Rattle.scr_nodes.specs.declared.node.Whole.TheVariants as wholes
use Rattle.scr_partial_sums.specs.Tables.{nothing}
use Rattle.scr_look_through.proofs.SeenThrough.{rest-totals}
use Rattle.scr_tree.specs.Figures.{Worth, worth_at}
use Rattle.scr_tree.proofs.AllMade.{assets-known}
use Rattle.scr_tree.proofs.FigureRead.{known-there, known-within}
use Rattle.scr_tree.proofs.first.row_ground.Goals as goal

pub span-requires : goal.span-requires
span-requires c =
    let ground = c.args.ground in
    let low = known-within c.args.figures.now 153 (worth_at ground.inputs.factors.now ground.inputs.book.now.sheet (nodes.Whole wholes.Assets))
    (assets-known ground c.requires.ground c.args.figures.now c.requires.done) in
    omega (arith, low)

pub returns-clause-rows : goal.returns-clause-rows
returns-clause-rows c =
    let ground = c.args.ground in
    let figures = c.args.figures.now in
    let low = known-within figures 153 (worth_at ground.inputs.factors.now ground.inputs.book.now.sheet (nodes.Whole wholes.Assets))
    (assets-known ground c.requires.ground figures c.requires.done) in
    let is : c.span.result ≡ (get_or figures 153 nothing).span =
    c.span.ensures (get_or figures 153 nothing) (slice_get-get_or figures 153 nothing (omega (arith, low))) in
    record {
      ground = c.requires.ground;
      totals = rest-totals ground.inputs.book.now.sheet c.args.totals.now c.len.result c.requires.totals
          (c.len.ensures.count ∙ ap (λ (s : BalanceSheet). length s.funds) c.sheet.ensures.sheet);
      assets = ap ends is ∙ ap (λ (w : Worth). w.worked)
          (known-there c.args.figures.now 153 (worth_at ground.inputs.factors.now ground.inputs.book.now.sheet (nodes.Whole wholes.Assets))
          nothing (assets-known ground c.requires.ground c.args.figures.now c.requires.done));
    }

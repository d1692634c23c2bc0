use Rattle.std.proofs.Common.{◌+◌, ◌++◌, ◌∷◌, [], ap, ◌∙◌, arith}
use Rattle.std.proofs.lemmas.List.{take_all}
use Rattle.scr_ids.specs.Ranges.{count, first}
use Rattle.scr_figure_ids.specs.SourceNumbers.{numbers_at}
use Rattle.scr_figure_ids.proofs.SourceRows.{mapped-next, within-at}
use Rattle.scr_figure_ids.proofs.sources.push_rows.Goals as goal

pub first-requires : goal.first-requires
first-requires c =
    within-at (count c.args.places.now c.args.table) c.args.rows.now c.loop-row.row-index _ c.requires.rows c.loop-row-test.true

pub loop-row-preserved : goal.loop-row-preserved
loop-row-preserved c =
    mapped-next (λ row. first c.args.places.now c.args.table row + c.args.own) c.args.rows.now c.loop-row.list.items
    c.args.list.now.items c.push.new.self.items c.loop-row.row-index 0 c.loop-row-test.true c.loop-row.invariant
    (c.in_ok-push.ensures.items ∙ ap (λ n. c.loop-row.list.items ++ (n + c.args.own) ∷ []) c.first.ensures.first)

pub returns : goal.returns
returns c =
    c.loop-row.invariant
    ∙ ap (λ rows. c.args.list.now.items ++ numbers_at c.args.places.now c.args.table c.args.own rows)
    (take_all c.loop-row.row-index c.args.rows.now (omega (arith, c.loop-row-test.false)))

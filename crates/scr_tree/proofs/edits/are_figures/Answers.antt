use Rattle.std.proofs.Common.{arith}
use Rattle.scr_tree.proofs.TouchedBlocks.{block-found, no-block-at-all, no-block-more}
use Rattle.scr_tree.proofs.edits.are_figures.Goals as goal

pub loop-point-init : goal.loop-point-init
loop-point-init c = λ k block low. absurd (omega (arith, low))

pub loop-point-preserved : goal.loop-point-preserved
loop-point-preserved c =
    no-block-more c.args.touched.now c.loop-point.point-index c.loop-point-test.true c.in-Figure.field-0 c.point-item.result c.point-item.is
    c.in-Figure.is c.loop-point.invariant

pub returns-in-Block-clause-not : goal.returns-in-Block-clause-not
returns-in-Block-clause-not c = λ told none.
    block-found c.args.touched.now c.loop-point.point-index c.loop-point-test.true c.in-Block.field-0 c.point-item.result c.point-item.is
    c.in-Block.is none

pub returns-clause-yes : goal.returns-clause-yes
returns-clause-yes c =
    let past = c.loop-point-test.false in
    λ told. no-block-at-all c.args.touched.now c.loop-point.point-index (omega (arith, past)) c.loop-point.invariant

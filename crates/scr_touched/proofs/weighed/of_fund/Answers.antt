use Rattle.std.proofs.Common.{refl, arith}
use Rattle.scr_touched.proofs.Weights.{room-next, weighed-next, weighed-none, weights-more}
use Rattle.scr_touched.proofs.weighed.of_fund.Goals as goal

pub loop-component-init : goal.loop-component-init
loop-component-init c = (weighed-none _ c.new-rows.ensures, refl, omega arith)

pub loop-component-preserved : goal.loop-component-preserved
loop-component-preserved c = (
  weighed-next c.as_slice-components.result.now c.loop-component.component-index c.component-item.result
      c.loop-component-test.true c.component-item.is c.loop-component.rows c.put_first.new.rows c.loop-component.all
      c.weight_of-all.result c.loop-component.invariant.0 c.loop-component.invariant.1 c.weight_of-all.ensures.weight
      c.in_ok-put_first.ensures,
  weights-more c.as_slice-components.result.now c.loop-component.component-index c.component-item.result
      c.loop-component-test.true c.component-item.is c.loop-component.all c.weight_of-all.result
      c.loop-component.invariant.1 c.weight_of-all.ensures.weight,
  room-next c.loop-component.all c.weight_of-all.result c.loop-component.component-index c.loop-component.invariant.2
      c.weight_of-all.ensures.fits,
)

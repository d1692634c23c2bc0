use Rattle.std.proofs.Common.{◌∙◌, sym, arith}
use Rattle.scr_tables.proofs.TableRows.{same_name-flip}
use Rattle.scr_rules.proofs.CodeLemmas.{item-weight, summed-small, found-here, passed-over}
use Rattle.scr_rules.proofs.held.weights.Goals as goal

pub returns-then-eq : goal.returns-then-eq
returns-then-eq c =
    let item = c.loop-component-item.result in
    let size = c.unsigned_abs.ensures.value ∙ item-weight c.args.components.now c.loop-component.component-index item c.requires c.loop-component-test.true c.loop-component-item.is in
    found-here c.args.name.now c.args.components.now c.loop-component.component-index c.loop-component.before c.unsigned_abs.result item c.loop-component-test.true c.loop-component-item.is size c.loop-component.invariant
    (same_name-flip c.args.name.now item.0 ∙ sym c.eq.ensures ∙ c.if-eq.true)

pub overflow_add-before : goal.overflow_add-before
overflow_add-before c =
    let item = c.loop-component-item.result in
    let size = c.unsigned_abs-before.ensures.value ∙ item-weight c.args.components.now c.loop-component.component-index item c.requires c.loop-component-test.true c.loop-component-item.is in
    let small = summed-small c.args.components.now c.loop-component.component-index c.loop-component.before c.unsigned_abs-before.result item c.requires c.loop-component-test.true c.loop-component-item.is size
    c.loop-component.invariant.summed in
    omega (arith, small)

pub loop-component-preserved : goal.loop-component-preserved
loop-component-preserved c =
    let item = c.loop-component-item.result in
    let size = c.unsigned_abs-before.ensures.value ∙ item-weight c.args.components.now c.loop-component.component-index item c.requires c.loop-component-test.true c.loop-component-item.is in
    passed-over c.args.name.now c.args.components.now c.loop-component.component-index c.loop-component.before c.unsigned_abs-before.result item c.loop-component-test.true c.loop-component-item.is size c.loop-component.invariant
    (same_name-flip c.args.name.now item.0 ∙ sym c.eq.ensures ∙ c.if-eq.false)

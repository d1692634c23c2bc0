use Rattle.std.proofs.Common.{arith, get_or, pos, rules, w16, FitsSigned, to_z-of_z}
use Rattle.std.proofs.lemmas.Int.{ints}
use Rattle.scr_agg.specs.declared.form.Side.TheVariants.{Low, High}
use Rattle.scr_agg.specs.Forms.{end_of, weighed}
use Rattle.scr_agg.proofs.Sums.{row_done}
use Rattle.scr_agg.proofs.PartSums.{part_within, small_product, row_next, row_skip}
use Rattle.scr_agg.proofs.form.row.Goals as goal
use Rattle.scr_agg.proofs.form.row.Goals.{then-weight-ne0, else-weight-ne0}

pub end-requires-clause-not_negative : goal.end-requires-clause-not_negative
end-requires-clause-not_negative c =
    (part_within c.args.parts.now c.loop-j.j c.index-parts-j.result c.requires.lows (omega arith) c.index-parts-j.is).0

pub end-requires-clause-small : goal.end-requires-clause-small
end-requires-clause-small c =
    let within =
    part_within c.args.parts.now c.loop-j.j c.index-parts-j.result c.requires.lows (omega arith) c.index-parts-j.is in
    omega (arith, ints, within.1)

pub end-requires-then-weight-ne0-clause-not_negative : goal.end-requires-then-weight-ne0-clause-not_negative
end-requires-then-weight-ne0-clause-not_negative c =
    (part_within c.args.parts.now c.loop-j.j c.index-parts-j.result c.requires.lows (omega arith) c.index-parts-j.is).0

pub end-requires-then-weight-ne0-clause-small : goal.end-requires-then-weight-ne0-clause-small
end-requires-then-weight-ne0-clause-small c =
    let within =
    part_within c.args.parts.now c.loop-j.j c.index-parts-j.result c.requires.lows (omega arith) c.index-parts-j.is in
    omega (arith, ints, within.1)

pub overflow_mul-low : goal.overflow_mul-low
overflow_mul-low c =
    omega (arith, small_product c.weight-weight.result c.end.result c.weight-weight.ensures.bound c.end.ensures.bound)

pub overflow_add-low : goal.overflow_add-low
overflow_add-low c =
    let most = c.loop-j.invariant.2 in
    omega (arith, small_product c.weight-weight.result c.end.result c.weight-weight.ensures.bound c.end.ensures.bound)

pub overflow_mul-high : goal.overflow_mul-high
overflow_mul-high c =
    omega (arith, small_product c.weight-weight.result c.end-then-weight-ne0.result c.weight-weight.ensures.bound c.end-then-weight-ne0.ensures.bound)

pub overflow_add-high : goal.overflow_add-high
overflow_add-high c =
    let most = c.loop-j.invariant.3 in
    omega (arith, small_product c.weight-weight.result c.end-then-weight-ne0.result c.weight-weight.ensures.bound c.end-then-weight-ne0.ensures.bound)

pub loop-j-preserved : goal.loop-j-preserved
loop-j-preserved c =
    let cell_fits : FitsSigned w16 (get_or c.args.cells.now c.loop-j.j (pos 0)) = search rules in
    let weight = simp to_z-of_z at c.weight-weight.ensures.value in
    let bound = c.weight-weight.ensures.bound in
    elim c.if-weight-ne0.branch [
      | then-weight-ne0 w ↦
          let low = row_next Low c.args.sign c.args.parts.now c.args.cells.now c.loop-j.j c.loop-j.low
          c.weight-weight.result w.end.result w.index-parts-j.result (omega arith) (omega arith) w.index-parts-j.is weight
          w.end.ensures.value bound w.end.ensures.bound c.loop-j.invariant.0 c.loop-j.invariant.2 in
          let high = row_next High c.args.sign c.args.parts.now c.args.cells.now c.loop-j.j c.loop-j.high
          c.weight-weight.result w.end-then-weight-ne0.result w.index-parts-j.result (omega arith) (omega arith)
          w.index-parts-j.is weight w.end-then-weight-ne0.ensures.value bound w.end-then-weight-ne0.ensures.bound
          c.loop-j.invariant.1 c.loop-j.invariant.3 in
          rw (w.low-is, w.high-is) (low.0, high.0, low.1, high.1)
      | else-weight-ne0 w ↦
          let low = row_skip Low c.args.sign c.args.parts.now c.args.cells.now c.loop-j.j c.loop-j.low
          c.weight-weight.result (omega arith) (omega arith) weight w.if-weight-ne0.false c.loop-j.invariant.0 in
          let high = row_skip High c.args.sign c.args.parts.now c.args.cells.now c.loop-j.j c.loop-j.high
          c.weight-weight.result (omega arith) (omega arith) weight w.if-weight-ne0.false c.loop-j.invariant.1 in
          let low_most = c.loop-j.invariant.2 in
          let high_most = c.loop-j.invariant.3 in
          rw (w.low-is, w.high-is) (low, high, omega arith, omega arith)
    ]

pub returns-clause-low : goal.returns-clause-low
returns-clause-low c =
    let done = row_done (weighed c.args.sign) 1 c.args.cells.now (end_of Low) c.args.parts.now c.loop-j.j (omega arith)
    in
    let so_far = c.loop-j.invariant.0 in
    omega arith

pub returns-clause-high : goal.returns-clause-high
returns-clause-high c =
    let done = row_done (weighed c.args.sign) 1 c.args.cells.now (end_of High) c.args.parts.now c.loop-j.j (omega arith)
    in
    let so_far = c.loop-j.invariant.1 in
    omega arith

use Rattle.std.proofs.Common.{◌≡◌, sym, ◌∙◌, arith}
use Rattle.std.proofs.lemmas.Int.{ints}
use Rattle.scr_agg.specs.declared.form.Side.TheVariants.{Low, High}
use Rattle.scr_agg.specs.Forms.{end_of, weighed}
use Rattle.scr_agg.proofs.Sums.{sum_done}
use Rattle.scr_agg.proofs.PartSums.{part_within, no_low_end, form_next, form_skip}
use Rattle.scr_agg.proofs.form.forms.Goals as goal
use Rattle.scr_agg.proofs.form.forms.Goals.{then-x-ne0, else-x-ne0}

pub end-x-requires-clause-not_negative : goal.end-x-requires-clause-not_negative
end-x-requires-clause-not_negative c =
    (part_within c.args.parts.now c.loop-i.i c.index-parts-i.result c.requires.lows (omega arith) c.index-parts-i.is).0

pub end-x-requires-clause-small : goal.end-x-requires-clause-small
end-x-requires-clause-small c =
    let within =
    part_within c.args.parts.now c.loop-i.i c.index-parts-i.result c.requires.lows (omega arith) c.index-parts-i.is in
    omega (arith, ints, within.1)

pub end-requires-clause-not_negative : goal.end-requires-clause-not_negative
end-requires-clause-not_negative c =
    (part_within c.args.parts.now c.loop-i.i c.index-parts-i.result c.requires.lows (omega arith) c.index-parts-i.is).0

pub end-requires-clause-small : goal.end-requires-clause-small
end-requires-clause-small c =
    let within =
    part_within c.args.parts.now c.loop-i.i c.index-parts-i.result c.requires.lows (omega arith) c.index-parts-i.is in
    omega (arith, ints, within.1)

pub overflow_mul-low : goal.overflow_mul-low
overflow_mul-low c =
    let next = form_next Low c.args.sign c.args.parts.now c.args.m.now.cells c.loop-i.i c.loop-i.low c.row-row.result.low
    c.end.result c.index-parts-i.result (omega arith) (omega arith) c.index-parts-i.is c.row-row.ensures.low
    c.end.ensures.value c.loop-i.invariant.0 in
    let fits = c.requires.low_fits in
    omega arith

pub overflow_add-low : goal.overflow_add-low
overflow_add-low c =
    let next = form_next Low c.args.sign c.args.parts.now c.args.m.now.cells c.loop-i.i c.loop-i.low c.row-row.result.low
    c.end.result c.index-parts-i.result (omega arith) (omega arith) c.index-parts-i.is c.row-row.ensures.low
    c.end.ensures.value c.loop-i.invariant.0 in
    let fits = c.requires.low_fits in
    omega arith

pub overflow_mul-high : goal.overflow_mul-high
overflow_mul-high c =
    let next = form_next High c.args.sign c.args.parts.now c.args.m.now.cells c.loop-i.i c.loop-i.high
    c.row-row.result.high c.end-x.result c.index-parts-i.result (omega arith) (omega arith) c.index-parts-i.is
    c.row-row.ensures.high c.end-x.ensures.value c.loop-i.invariant.1 in
    let fits = c.requires.high_fits in
    omega arith

pub overflow_add-high : goal.overflow_add-high
overflow_add-high c =
    let next = form_next High c.args.sign c.args.parts.now c.args.m.now.cells c.loop-i.i c.loop-i.high
    c.row-row.result.high c.end-x.result c.index-parts-i.result (omega arith) (omega arith) c.index-parts-i.is
    c.row-row.ensures.high c.end-x.ensures.value c.loop-i.invariant.1 in
    let fits = c.requires.high_fits in
    omega arith

pub loop-i-preserved : goal.loop-i-preserved
loop-i-preserved c =
    let within =
    part_within c.args.parts.now c.loop-i.i c.index-parts-i.result c.requires.lows (omega arith) c.index-parts-i.is in
    elim c.if-x-ne0.branch [
      | then-x-ne0 w ↦
          let low = form_next Low c.args.sign c.args.parts.now c.args.m.now.cells c.loop-i.i c.loop-i.low
          w.row-row.result.low w.end.result c.index-parts-i.result (omega arith) (omega arith) c.index-parts-i.is
          w.row-row.ensures.low w.end.ensures.value c.loop-i.invariant.0 in
          let high = form_next High c.args.sign c.args.parts.now c.args.m.now.cells c.loop-i.i c.loop-i.high
          w.row-row.result.high c.end-x.result c.index-parts-i.result (omega arith) (omega arith) c.index-parts-i.is
          w.row-row.ensures.high c.end-x.ensures.value c.loop-i.invariant.1 in
          rw (w.low-is, w.high-is) (low, high)
      | else-x-ne0 w ↦
          let none : end_of High c.index-parts-i.result ≡ 0 = sym c.end-x.ensures.value ∙ w.if-x-ne0.false in
          let low = form_skip Low c.args.sign c.args.parts.now c.args.m.now.cells c.loop-i.i c.loop-i.low
          c.index-parts-i.result (omega arith) (omega arith) c.index-parts-i.is
          (no_low_end c.index-parts-i.result within.0 none) c.loop-i.invariant.0 in
          let high = form_skip High c.args.sign c.args.parts.now c.args.m.now.cells c.loop-i.i c.loop-i.high
          c.index-parts-i.result (omega arith) (omega arith) c.index-parts-i.is none c.loop-i.invariant.1 in
          rw (w.low-is, w.high-is) (low, high)
    ]

pub returns-clause-low : goal.returns-clause-low
returns-clause-low c =
    let done = sum_done (weighed c.args.sign) c.args.m.now.cells (end_of Low) c.args.parts.now c.loop-i.i (omega arith)
    in
    let so_far = c.loop-i.invariant.0 in
    omega arith

pub returns-clause-high : goal.returns-clause-high
returns-clause-high c =
    let done = sum_done (weighed c.args.sign) c.args.m.now.cells (end_of High) c.args.parts.now c.loop-i.i (omega arith)
    in
    let so_far = c.loop-i.invariant.1 in
    omega arith

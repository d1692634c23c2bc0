use Rattle.std.proofs.Common.{length, sym, ◌∙◌, ap, arith}
use Rattle.scr_agg.specs.Unbeaten.{alternatives, unbeaten_below}
use Rattle.scr_agg.proofs.Alternatives.{length-alternatives, count-skip, count-next, count-le, unbeaten_below-zero}
use Rattle.scr_agg.proofs.choice.unbeaten_count.Goals as goal
use Rattle.scr_agg.proofs.choice.unbeaten_count.Goals.{then-not-is_beaten, else-not-is_beaten}

pub loop-i-init : goal.loop-i-init
loop-i-init c = rw unbeaten_below-zero (omega arith)

pub overflow_add-count : goal.overflow_add-count
overflow_add-count c =
    let below = count-le (alternatives c.args.list.now) c.loop-i.i in
    let so_far = c.loop-i.invariant in
    omega arith

pub loop-i-preserved : goal.loop-i-preserved
loop-i-preserved c =
    let so_far = c.loop-i.invariant in
    elim c.if-not-is_beaten.branch [
      | then-not-is_beaten w ↦
          let next = count-next (alternatives c.args.list.now) c.loop-i.i
          (sym c.is_beaten.ensures ∙ w.if-not-is_beaten.true) in omega arith
      | else-not-is_beaten w ↦
          let skip = count-skip (alternatives c.args.list.now) c.loop-i.i
          (sym c.is_beaten.ensures ∙ w.if-not-is_beaten.false) in omega arith
    ]

pub returns : goal.returns
returns c =
    c.loop-i.invariant
    ∙ ap (λ n. length (unbeaten_below (alternatives c.args.list.now) n))
    (let all = length-alternatives c.args.list.now in omega arith)

use Rattle.std.proofs.Common.{◌+◌, ◌^◌, ◌≤◌, sym, ◌∙◌, ap, arith, lit<}
use Rattle.std.proofs.Math.Nat.{pow-le-pow_right}
use Rattle.scr_agg.specs.Unbeaten.{alternatives}
use Rattle.scr_agg.proofs.Alternatives.{length-alternatives, mask_below, mask-skip, mask-next, mask_below-lt}
use Rattle.scr_agg.proofs.Alternatives.{unbeaten_below-zero, twice}
use Rattle.scr_agg.proofs.choice.mask.Goals as goal
use Rattle.scr_agg.proofs.choice.mask.Goals.{then-not-is_beaten, else-not-is_beaten}

pub loop-i-init : goal.loop-i-init
loop-i-init c = rw unbeaten_below-zero (omega arith)

pub overflow_add-mask : goal.overflow_add-mask
overflow_add-mask c =
    let below = mask_below-lt (alternatives c.args.list.now) c.loop-i.i in
    let so_far = c.loop-i.invariant in
    let room : c.loop-i.i + 1 ≤ 8 = omega arith in
    let most : 2 ^ (c.loop-i.i + 1) ≤ 2 ^ 8 = pow-le-pow_right (lit< tt) room in
    omega (arith, twice c.loop-i.i)

pub loop-i-preserved : goal.loop-i-preserved
loop-i-preserved c =
    let so_far = c.loop-i.invariant in
    elim c.if-not-is_beaten.branch [
      | then-not-is_beaten w ↦
          let next = mask-next (alternatives c.args.list.now) c.loop-i.i
          (sym c.is_beaten.ensures ∙ w.if-not-is_beaten.true) in omega arith
      | else-not-is_beaten w ↦
          let skip = mask-skip (alternatives c.args.list.now) c.loop-i.i
          (sym c.is_beaten.ensures ∙ w.if-not-is_beaten.false) in omega arith
    ]

pub returns : goal.returns
returns c =
    c.loop-i.invariant
    ∙ ap (mask_below (alternatives c.args.list.now)) (let all = length-alternatives c.args.list.now in omega arith)

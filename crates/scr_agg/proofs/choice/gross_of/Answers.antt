use Rattle.std.proofs.Common.{◌≡◌, length, sym, ap, ◌∙◌, arith}
use Rattle.scr_agg.specs.Unbeaten.{alternatives, unbeaten_below}
use Rattle.scr_agg.proofs.Alternatives.{length-alternatives, alternative_of}
use Rattle.scr_agg.proofs.Hulls.{hull_below, so_far-start, so_far-skip, so_far-next}
use Rattle.scr_agg.proofs.Enclosed.{one_unbeaten}
use Rattle.scr_agg.proofs.choice.gross_of.Goals as goal
use Rattle.scr_agg.proofs.choice.gross_of.Goals.{then-not-is_beaten, else-not-is_beaten}

pub loop-i-init : goal.loop-i-init
loop-i-init c = so_far-start (alternatives c.args.list.now)

pub loop-i-preserved : goal.loop-i-preserved
loop-i-preserved c =
    elim c.if-not-is_beaten.branch [
      | then-not-is_beaten w ↦
          rw w.gross-is
          (so_far-next (alternatives c.args.list.now) c.loop-i.i c.loop-i.gross w.index-list-i.result.gross
          w.joined.result
          (sym c.is_beaten.ensures ∙ w.if-not-is_beaten.true)
          (ap (λ a. a.gross)
          (sym (alternative_of c.args.list.now c.loop-i.i w.index-list-i.result c.loop-i-test.true
          w.index-list-i.is)))
          (rw (← w.index-list-i.is) at w.joined.ensures.some) (rw (← w.index-list-i.is) at w.joined.ensures.none)
          c.loop-i.invariant)
      | else-not-is_beaten w ↦
          rw w.gross-is
          (so_far-skip (alternatives c.args.list.now) c.loop-i.i c.loop-i.gross
          (sym c.is_beaten.ensures ∙ w.if-not-is_beaten.false) c.loop-i.invariant)
    ]

pub unreachable-requires : goal.unreachable-requires
unreachable-requires c =
    let none = rw c.in-None.is at c.loop-i.invariant in
    let all = length-alternatives c.args.list.now in
    let last : c.loop-i.i ≡ length (alternatives c.args.list.now) = omega arith in
    let some = one_unbeaten c.args.list.now c.requires in
    omega (arith, ap length none, ap (λ n. length (unbeaten_below (alternatives c.args.list.now) n)) last)

pub returns : goal.returns
returns c =
    let so_far = rw c.in-Some.is at c.loop-i.invariant in
    let all = length-alternatives c.args.list.now in
    so_far.0 ∙ ap (hull_below (alternatives c.args.list.now)) (omega arith)

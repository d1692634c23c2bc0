use Rattle.std.proofs.Common.{◌≡◌, ℕ, ◌+◌, ◌≤◌, arith, subst, sym, ◌∙◌}
use Rattle.scr_member_index.specs.Parting.{AreCut, HaveLost}
use Rattle.scr_member_index.proofs.Seated.{CutTo, cut-none, cut-one, cut-passed}
use Rattle.scr_member_index.proofs.parting.cut.Goals.{then-number, else-number}
use Rattle.scr_member_index.proofs.parting.cut.Goals as goal

pub loop-seat-init : goal.loop-seat-init
loop-seat-init c = cut-none c.args.table c.args.firsts.now c.args.at.now c.args.parts.now

pub loop-seat-preserved : goal.loop-seat-preserved
loop-seat-preserved c =
    let table = c.args.table in
    let firsts = c.args.firsts.now in
    let at = c.args.at.now in
    elim c.if-number.branch [
      | then-number w ↦
          subst (CutTo table firsts at (c.loop-seat.seat + 1) c.args.parts.now) (sym w.parts-is)
          (cut-one table firsts at c.requires.0 c.requires.1 c.loop-seat.seat c.loop-seat-test.true c.args.parts.now c.loop-seat.parts c.loop-seat.invariant
          w.shrink.new.parts c.roll-number.result w.list.result.now c.roll-number.ensures w.if-number.true w.list.ensures
          w.shrink.ensures.cut w.shrink.ensures.others w.shrink.ensures.kept w.shrink.ensures.room w.shrink.ensures.size w.shrink.ensures.lost)
      | else-number w ↦
          cut-passed table firsts at c.requires.0 c.requires.1 c.loop-seat.seat c.loop-seat-test.true c.args.parts.now c.loop-seat.parts c.loop-seat.invariant
          c.if-number.parts (sym c.roll-number.ensures ∙ w.if-number.false) w.parts-is
    ]

pub returns-clause-cut : goal.returns-clause-cut
returns-clause-cut c =
    subst (λ (s : ℕ). AreCut c.args.table c.args.firsts.now c.args.at.now s c.args.parts.now c.loop-seat.parts)
    (all c.loop-seat-test.false c.loop-seat.auto.seat-end) c.loop-seat.invariant.cut
  where
    all : 11 ≤ c.loop-seat.seat → c.loop-seat.seat ≤ 11 → c.loop-seat.seat ≡ 11
    all low high = omega (arith, low, high)

pub returns-clause-lost : goal.returns-clause-lost
returns-clause-lost c =
    subst (λ (s : ℕ). HaveLost c.args.table c.args.at.now s c.args.parts.now c.loop-seat.parts)
    (all c.loop-seat-test.false c.loop-seat.auto.seat-end) c.loop-seat.invariant.lost
  where
    all : 11 ≤ c.loop-seat.seat → c.loop-seat.seat ≤ 11 → c.loop-seat.seat ≡ 11
    all low high = omega (arith, low, high)

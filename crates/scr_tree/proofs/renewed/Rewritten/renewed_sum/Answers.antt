use Rattle.std.proofs.Common.{rules, ◌+◌, ◌<◌, FitsSigned, get_or, length, subst, ◌∙◌, arith}
use mir.Syntax.{w128}
use Rattle.std.proofs.lemmas.Int.{to_z-of_z}
use Rattle.scr_tree.specs.Renewed.{family_numbers}
use Rattle.scr_tree.proofs.RenewedSums.{all-over, all-settled, moved-over, passed-over, sides-ordered, taken-over}
use Rattle.scr_tree.proofs.renewed.Rewritten.renewed_sum.Goals.{then-is_among+else-now+in_ok-low+in_ok-high, else-is_among}
use Rattle.scr_tree.proofs.renewed.Rewritten.renewed_sum.Goals as goal

pub figure_before-now-requires-clause-within : goal.figure_before-now-requires-clause-within
figure_before-now-requires-clause-within c =
    let has = c.is_among.ensures.yes c.if-is_among.true in
    let was = get_or c.args.self.now.former.now c.loop-place.place c.index-self-place.result in
    subst (λ n. n < length c.args.self.now.figures.now) has.2 (c.requires.members has.0 was.number has.1)

pub loop-place-preserved : goal.loop-place-preserved
loop-place-preserved c =
    let former = c.args.self.now.former.now in
    let figures = c.args.self.now.figures.now in
    let ns = family_numbers c.args.family c.args.firsts.now in
    let place = c.loop-place.place in
    let d = c.index-self-place.result in
    let was = get_or former place d in
    elim c.if-is_among.branch [
      | then-is_among+else-now+in_ok-low+in_ok-high w ↦
          (let has = c.is_among.ensures.yes w.if-is_among.true in
          let within = subst (λ n. n < length figures) has.2 (c.requires.members has.0 was.number has.1) in
          let fits_low : FitsSigned w128 w.in_ok-low.low = search rules in
          let fits_high : FitsSigned w128 w.in_ok-high.high = search rules in
          moved-over former figures ns (place + 1) w.in_ok-low.low w.in_ok-high.high _ _
          (w.low-is ∙ to_z-of_z w128 w.in_ok-low.low fits_low) (w.high-is ∙ to_z-of_z w128 w.in_ok-high.high fits_high)
          (taken-over former figures ns place d _ _ c.loop-place-test.true c.loop-place.invariant c.requires.once w.figure_before-now.result
          w.in_ok-low.low w.in_ok-high.high has within w.figure_before-now.ensures w.if-now.false w.in_ok-low.ensures w.in_ok-high.ensures))
      | else-is_among w ↦
          moved-over former figures ns (place + 1) _ _ _ _ w.low-is w.high-is
          (passed-over former figures ns place d _ _ c.loop-place-test.true c.loop-place.invariant (c.is_among.ensures.not w.if-is_among.false))
    ]

pub invariant_of-result : goal.invariant_of-result
invariant_of-result c =
    let past = c.loop-place-test.false in
    record {
      ordered = sides-ordered c.args.self.now.former.now c.args.self.now.figures.now (family_numbers c.args.family c.args.firsts.now)
          c.loop-place.place _ _ (omega (arith, past)) c.loop-place.invariant;
    }

pub returns-clause-sum : goal.returns-clause-sum
returns-clause-sum c =
    let past = c.loop-place-test.false in
    all-over c.args.self.now.former.now c.args.self.now.figures.now (family_numbers c.args.family c.args.firsts.now) c.loop-place.place _ _
    (omega (arith, past)) c.loop-place.invariant

pub returns-clause-settled : goal.returns-clause-settled
returns-clause-settled c =
    let past = c.loop-place-test.false in
    all-settled c.args.self.now.former.now c.args.self.now.figures.now (family_numbers c.args.family c.args.firsts.now) c.loop-place.place _ _
    (omega (arith, past)) c.loop-place.invariant

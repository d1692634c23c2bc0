use Rattle.std.proofs.Common.{slice_get, ap, ◌∙◌, arith}
use Rattle.scr_tree.proofs.RenewedSums.{since-all, stood-here, stood-later}
use Rattle.scr_tree.proofs.renewed.Rewritten.figure_before.Goals as goal

pub returns-then-was-number : goal.returns-then-was-number
returns-then-was-number c =
    let at = c.loop-at-test.true in
    c.loop-at.invariant
    ∙ stood-here c.args.self.now.former.now c.args.self.now.figures.now c.loop-at.at c.index-self-at.result c.args.number (omega (arith, at))
    c.requires.within c.if-was-number.true

pub loop-at-preserved : goal.loop-at-preserved
loop-at-preserved c =
    let at = c.loop-at-test.true in
    c.loop-at.invariant
    ∙ stood-later c.args.self.now.former.now c.args.self.now.figures.now c.loop-at.at c.index-self-at.result c.args.number (omega (arith, at))
    c.if-was-number.false

pub returns : goal.returns
returns c =
    let past = c.loop-at-test.false in
    c.loop-at.invariant
    ∙ ap (λ table. slice_get table c.args.number)
    (since-all c.args.self.now.former.now c.args.self.now.figures.now c.loop-at.at (omega (arith, past))) ∙ c.figure.ensures

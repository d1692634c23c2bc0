use Rattle.std.proofs.Common.{◌≡◌, List, Some, set, slice_get, sym, ap, subst, ◌∙◌}
use Rattle.scr_partial_sums.specs.declared.figure.Figure.{Figure}
use Rattle.scr_tree.specs.Order.{IsJournaled}
use Rattle.scr_tree.specs.declared.journal.Former.{Former}
use Rattle.scr_tree.proofs.Journaled.{kept-written, one-figure, same-written}
use Rattle.scr_tree.proofs.journal.Journal.write.Goals as goal

pub returns-then-both_nothing-clause-written : goal.returns-then-both_nothing-clause-written
returns-then-both_nothing-clause-written c =
    sym (same-written c.args.figures.now c.args.number c.args.figure (c.both_nothing.ensures c.if-both_nothing.true))

pub returns-then-is_same-clause-written : goal.returns-then-is_same-clause-written
returns-then-is_same-clause-written c =
    let figures = c.args.figures.now in
    let number = c.args.number in
    let was = c.figure-was.result in
    let here : slice_get figures number ≡ Some was = c.figure-was.ensures in
    let same = c.is_same.ensures.yes c.if-is_same.true in
    let one : was ≡ c.args.figure = one-figure was c.args.figure same.0 same.1 in
    sym (same-written figures number c.args.figure (here ∙ ap Some one))

pub returns-clause-journaled : goal.returns-clause-journaled
returns-clause-journaled c = λ before is.
    let figures = c.args.figures.now in
    let number = c.args.number in
    let was = c.figure-was.result in
    let here : slice_get figures number ≡ Some was = c.figure-was.ensures in
    subst (λ (now : List Figure). IsJournaled c.push_reserved.new.self.items before now) (sym c.set.ensures)
    (subst (λ former. IsJournaled former before (set figures number c.args.figure)) (sym {A = List Former} c.push_reserved.ensures.items)
    (kept-written c.args.self.now.former.items figures number was c.args.figure here before is))

pub returns-clause-short : goal.returns-clause-short
returns-clause-short c = λ there.
    let figures = c.args.figures.now in
    let number = c.args.number in
    let was = c.figure-was.result in
    let here : slice_get figures number ≡ Some was = c.figure-was.ensures in
    let both : Some was ≡ Some c.args.figure = sym here ∙ there in
    let one : was ≡ c.args.figure = cc in
    absurd {A = c.push_reserved.new.self.items ≡ c.args.self.now.former.items} (c.is_same.ensures.not c.if-is_same.false one)

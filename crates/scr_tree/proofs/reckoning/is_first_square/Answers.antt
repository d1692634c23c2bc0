use Rattle.std.proofs.Common.{◌≡◌, ◌+◌, ◌<◌, true, false, length, sym, ap, ◌∙◌, arith}
use Rattle.std.proofs.lemmas.Bool.{eq-eqb, eqb-true}
use Rattle.scr_sheet.specs.declared.sheet.BalanceSheet.{BalanceSheet}
use Rattle.scr_tree.proofs.SquaresEntered.{rows}
use Rattle.scr_tree.proofs.reckoning.is_first_square.Goals as goal

pub first-requires : goal.first-requires
first-requires c =
    let b = c.args.basis in
    let there = rows b.inputs.book.now b.places.now b.lists.now c.requires.graph.numbers_of in
    let count : c.len-count.result ≡ length b.inputs.book.now.sheet.groups = c.len-count.ensures.count ∙ ap (λ (s : BalanceSheet). length s.groups) c.sheet.ensures.sheet in
    omega (arith, there, count, c.if-count-eq0.false)

pub returns-then-count-eq0-clause-not : goal.returns-then-count-eq0-clause-not
returns-then-count-eq0-clause-not c = λ no on.
    let b = c.args.basis in
    let count : c.len-count.result ≡ length b.inputs.book.now.sheet.groups = c.len-count.ensures.count ∙ ap (λ (s : BalanceSheet). length s.groups) c.sheet.ensures.sheet in
    let low : 0 < length b.inputs.book.now.sheet.groups = on.0 in
    omega (arith, low, count, c.if-count-eq0.true)

pub returns-clause-yes : goal.returns-clause-yes
returns-clause-yes c = λ same.
    let b = c.args.basis in
    let count : c.len-count.result ≡ length b.inputs.book.now.sheet.groups = c.len-count.ensures.count ∙ ap (λ (s : BalanceSheet). length s.groups) c.sheet.ensures.sheet in
    (omega (arith, count, c.if-count-eq0.false), sym (ap (λ n. n + 1) c.first.ensures.first) ∙ eqb-true (c.first.result + 1) c.args.number same)

pub returns-clause-not : goal.returns-clause-not
returns-clause-not c = λ no on.
    let clash : true ≡ false = sym (eq-eqb (c.first.result + 1) c.args.number (ap (λ n. n + 1) c.first.ensures.first ∙ on.1)) ∙ no in absurd (cc)

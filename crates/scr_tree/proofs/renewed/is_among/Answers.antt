use Rattle.std.proofs.Common.{◌-◌, nat_eq, ap, ◌∙◌, arith}
use Rattle.std.specs.List.{list_any}
use Rattle.std.proofs.lemmas.List.{take_all}
use Rattle.scr_tree.proofs.RenewedSums.{among-none, among-not, among-yes}
use Rattle.scr_tree.proofs.renewed.is_among.Goals as goal

pub returns-then-number-family-clause-not : goal.returns-then-number-family-clause-not
returns-then-number-family-clause-not c = λ no. among-none c.args.firsts.now c.args.family c.args.number c.if-number-family.true

pub returns-clause-yes : goal.returns-clause-yes
returns-clause-yes c =
    let firsts = c.args.firsts.now in
    let past = c.loop-first-test.false in
    let up = c.if-number-family.false in
    among-yes firsts c.args.family c.args.number (c.args.number - c.args.family) (omega (arith, up)) c.loop-first.found
    (c.loop-first.invariant ∙ ap (list_any (λ first. nat_eq first (c.args.number - c.args.family))) (take_all c.loop-first.first-index firsts (omega (arith, past))))

pub returns-clause-not : goal.returns-clause-not
returns-clause-not c =
    let firsts = c.args.firsts.now in
    let past = c.loop-first-test.false in
    let up = c.if-number-family.false in
    among-not firsts c.args.family c.args.number (c.args.number - c.args.family) (omega (arith, up)) c.loop-first.found
    (c.loop-first.invariant ∙ ap (list_any (λ first. nat_eq first (c.args.number - c.args.family))) (take_all c.loop-first.first-index firsts (omega (arith, past))))

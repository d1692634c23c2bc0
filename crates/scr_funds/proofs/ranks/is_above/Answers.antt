use Rattle.std.proofs.Common.{◌≡◌, ◌<◌, All, get_or, subst, arith}
use Rattle.std.proofs.lemmas.List.{take_all}
use Rattle.std.proofs.lemmas.List.Elements.{All-more}
use Rattle.scr_funds.specs.Ranks.{rank_of}
use Rattle.scr_funds.proofs.ranks.is_above.Goals as goal

pub loop-component-preserved : goal.loop-component-preserved
loop-component-preserved c =
    let components = c.args.components.now in
    let i = c.loop-component.component-index in
    let item : c.rank_of.result ≡ rank_of c.args.ranks.now (get_or components i 0) = c.rank_of.ensures in
    let own : c.rank_of-rank.result ≡ rank_of c.args.ranks.now c.args.fund = c.rank_of-rank.ensures in
    All-more (λ component. rank_of c.args.ranks.now component < rank_of c.args.ranks.now c.args.fund) components i 0
    c.loop-component-test.true c.loop-component.invariant (omega (arith, item, own, c.if-rank_of-rank.false))

pub returns : goal.returns
returns c = λ same.
    subst (All (λ component. rank_of c.args.ranks.now component < rank_of c.args.ranks.now c.args.fund))
    (take_all c.loop-component.component-index c.args.components.now (omega (arith, c.loop-component-test.false)))
    c.loop-component.invariant

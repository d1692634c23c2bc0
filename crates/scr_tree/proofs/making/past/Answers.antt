use Rattle.std.proofs.Common.{◌≡◌, ◌≤◌, All, get_or, max, take, subst, arith}
use Rattle.std.proofs.lemmas.List.{take_all}
use Rattle.std.proofs.lemmas.List.Elements.{All-more, All-weaker}
use Rattle.scr_tree.proofs.LinkRoom.{above-last, all-above, least-above}
use Rattle.scr_tree.proofs.making.past.Goals as goal

pub loop-source-preserved : goal.loop-source-preserved
loop-source-preserved c =
    let sources = c.args.sources.now in
    let i = c.loop-source.source-index in
    let before = c.loop-source.invariant in
    let most : c.max-last.result ≡ max c.loop-source.last (get_or sources i 0) = c.max-last.ensures in
    record {
      number = let low = before.number in omega (arith, low, most);
      sources =
          All-more (λ source. source ≤ c.max-last.result) sources i 0 c.loop-source-test.true
          (All-weaker (λ source. source ≤ c.loop-source.last) (λ source. source ≤ c.max-last.result) (λ source l. omega (arith, l, most))
          (take i sources) before.sources) (omega (arith, most));
      least = λ size above all.
          let one = before.least size above all in
          let own = all i 0 c.loop-source-test.true in
          omega (arith, one, own, most);
    }

pub returns-clause-number : goal.returns-clause-number
returns-clause-number c = above-last c.loop-source.last c.checked_add.result c.checked_add.ensures c.args.number c.loop-source.invariant.number

pub returns-clause-sources : goal.returns-clause-sources
returns-clause-sources c =
    let sources = c.args.sources.now in
    all-above c.loop-source.last c.checked_add.result c.checked_add.ensures sources
    (subst (All (λ source. source ≤ c.loop-source.last)) (take_all c.loop-source.source-index sources (omega (arith, c.loop-source-test.false)))
    c.loop-source.invariant.sources)

pub returns-clause-least : goal.returns-clause-least
returns-clause-least c =
    least-above c.loop-source.last c.checked_add.result c.checked_add.ensures c.args.number c.args.sources.now c.loop-source.invariant.least

use Rattle.std.proofs.Common.{◌<◌, All, List, ℕ, length, sym, ap, subst, arith}
use Rattle.std.proofs.lemmas.List.{length-drop}
use Rattle.scr_tree.specs.Still.{ArePassed}
use Rattle.scr_tree.proofs.reckoning.pass_still.Goals as goal

pub still_from-still-requires-clause-within : goal.still_from-still-requires-clause-within
still_from-still-requires-clause-within g c =
    subst (All (λ number. number < length c.args.figures.now)) (sym c.left.ensures) c.requires.within

pub still_from-still-requires-clause-ceiling : goal.still_from-still-requires-clause-ceiling
still_from-still-requires-clause-ceiling g c = tt

pub pass_next-requires : goal.pass_next-requires
pass_next-requires g c =
    let left = c.still_from-still.ensures.still.left in
    let long = length-drop c.args.journal.now.next c.args.journal.now.numbers.items in
    let is = ap length c.left.ensures in
    let within = c.args.journal.now.left in
    omega (arith, left, long, is, within)

pub returns-clause-passed : goal.returns-clause-passed
returns-clause-passed g c =
    let stood = c.still_from-still.result in (
      stood.most,
      subst (λ (ns : List ℕ). ArePassed c.args.assets.now c.args.figures.now c.args.firsts.now ns stood) c.left.ensures c.still_from-still.ensures,
    )

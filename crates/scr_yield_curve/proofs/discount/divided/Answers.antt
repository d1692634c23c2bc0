use Rattle.std.proofs.Common.{◌*◌, arith}
use Rattle.std.proofs.lemmas.Nat.{mod_below}
use Rattle.scr_yield_curve.specs.Parts.{parts}
use Rattle.scr_yield_curve.proofs.TwoSteps.{two-steps}
use Rattle.scr_yield_curve.proofs.discount.divided.Goals as goal

pub returns-clause-quotient : goal.returns-clause-quotient
returns-clause-quotient c = (two-steps c.args.discount c.args.growth c.requires.small c.requires.least c.requires.most).quotient

pub returns-clause-rest : goal.returns-clause-rest
returns-clause-rest c = (two-steps c.args.discount c.args.growth c.requires.small c.requires.least c.requires.most).rest

pub returns-clause-size : goal.returns-clause-size
returns-clause-size c = (two-steps c.args.discount c.args.growth c.requires.small c.requires.least c.requires.most).size

pub returns-clause-less : goal.returns-clause-less
returns-clause-less c =
    let rest = (two-steps c.args.discount c.args.growth c.requires.small c.requires.least c.requires.most).rest in
    rw rest (mod_below (c.args.discount * parts) c.args.growth (omega (arith, c.requires.least)))

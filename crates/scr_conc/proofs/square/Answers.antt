use Rattle.std.proofs.Common.{◌≡◌, ◌∙◌}
use Rattle.scr_conc.specs.ConcentrationEnds.{requirement_units}
use Rattle.scr_conc.proofs.Squares.{square-exact}
use Rattle.scr_conc.proofs.square.Goals as goal

pub returns-clause-exact : goal.returns-clause-exact
returns-clause-exact c =
    let required : c.from-required.result ≡ requirement_units c.args.base c.args.exposure c.args.ct c.args.g =
    c.from-required.ensures ∙ c.requirement.ensures.value in
    λ threshold factor h k. rw required
    (square-exact c.args.base c.args.exposure c.args.ct c.args.g threshold factor h k)

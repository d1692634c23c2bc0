use Rattle.std.proofs.Common.{ℕ, ap, ◌∙◌}
use Rattle.scr_conc.specs.Thresholds.{threshold_units, factor_units}
use Rattle.scr_conc.specs.ConcentrationEnds.{square_units}
use Rattle.scr_conc.proofs.Scales.{free-square}
use Rattle.scr_conc.proofs.scale.Scale.square.Goals as goal

-- of what is above no threshold
pub returns-then-exposure-self-clause-value : goal.returns-then-exposure-self-clause-value
returns-then-exposure-self-clause-value c =
    free-square c.self.inside.assets c.self.inside.free c.args.exposure c.args.kind c.args.step c.self.invariant.free.free
    c.if-exposure-self.true c.requires.step
    ∙ ap (λ (assets : ℕ). square_units assets c.args.exposure (threshold_units c.args.kind c.args.step) (factor_units c.args.kind c.args.step)) c.self.view_is

use Rattle.std.proofs.Common.{ℤ, ap, ap₂, ◌∙◌, FitsSigned, to_z-of_z, rules}
use Rattle.std.specs.Int.{w128}
use Rattle.scr_num.specs.Rounding.{add_ends}
use Rattle.scr_loss.specs.OperationalEnds.{counted_ends, or_nil_ends}
use Rattle.scr_loss.proofs.operational_risk.growth.Goals as goal

pub returns-clause-ends : goal.returns-clause-ends
returns-clause-ends c =
    let life_fits : FitsSigned w128 c.life_beyond.result = search rules in
    let nonlife_fits : FitsSigned w128 c.beyond.result = search rules in
    c.add.ensures.ends
    ∙ ap₂ add_ends
    (c.or_nil.ensures.ends
    ∙ ap or_nil_ends (simp to_z-of_z at c.counted-life.ensures.ends ∙ ap (λ (x : ℤ). counted_ends x 8) c.life_beyond.ensures.value))
    (c.or_nil-2.ensures.ends
    ∙ ap or_nil_ends (simp to_z-of_z at c.counted-nonlife.ensures.ends ∙ ap (λ (x : ℤ). counted_ends x 6) c.beyond.ensures.value))

use Rattle.std.proofs.Common.{FitsSigned, w64, to_z-of_z, rules}
use Rattle.scr_flow.proofs.loss.lost_at.Goals as goal

pub returns-clause-ends : goal.returns-clause-ends
returns-clause-ends c = λ d.
    let flow_fits : FitsSigned w64 c.args.flow = search rules in
    let base_fits : FitsSigned w64 c.yearly_at-base.result = search rules in
    let stressed_fits : FitsSigned w64 c.yearly_at-stressed.result = search rules in
    let fall = simp to_z-of_z at c.fall_of.ensures.ends in
    let term = simp to_z-of_z at c.weighted.ensures.ends in
    rw (c.yearly_at-base.ensures d, c.yearly_at-stressed.ensures d) at (rw fall at term)

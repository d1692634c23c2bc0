use Rattle.std.proofs.Common.{pos, ◌*ℤ◌, ◌≤ℤ◌, FitsSigned, to_z-of_z, rules}
use Rattle.std.specs.Int.{w128}
use Rattle.scr_num.specs.Rounding.{floor_div, ceil_div}
use Rattle.scr_num.proofs.Quotients.{floor_div-le-ceil_div, times_le}
use Rattle.scr_num.proofs.Enclosing.{Encloses-same, Encloses-scale}
use Rattle.scr_num.proofs.scale.Goals as goal

pub invariant_of-result : goal.invariant_of-result
invariant_of-result c =
    let num = c.args.num in
    let in_order : floor_div (c.args.a.low *ℤ pos num) c.args.den ≤ℤ ceil_div (c.args.a.high *ℤ pos num) c.args.den =
    floor_div-le-ceil_div _ _ c.args.den c.requires.positive (times_le _ _ num c.args.a.ordered) in
    let low_fits : FitsSigned w128 c.args.a.low = search rules in
    let high_fits : FitsSigned w128 c.args.a.high = search rules in
    let down_fits : FitsSigned w128 c.scaled_down.result = search rules in
    let up_fits : FitsSigned w128 c.scaled_up.result = search rules in
    let down = simp to_z-of_z at c.scaled_down.ensures.value in
    let up = simp to_z-of_z at c.scaled_up.ensures.value in
    record { ordered = simp to_z-of_z (rw (down, up) in_order) }

pub returns-clause-encloses : goal.returns-clause-encloses
returns-clause-encloses c =
    λ old new f share converts in_a. Encloses-same new _ _ _ _ _ (search rules) (search rules)
    (Encloses-scale old new c.args.num c.args.den c.args.a.low c.args.a.high f share c.requires.positive converts in_a)

use Rattle.std.proofs.Common.{◌+◌, FitsSigned, w32, w64, to_z-of_z, rules}
use Rattle.scr_yield_curve.proofs.StressLemmas.{raised_exact, raised_in_range, lowered_exact, lowered_in_range}
use Rattle.scr_yield_curve.proofs.rate.stressed_rate.Goals as goal

pub returns-in-Up-clause-exact : goal.returns-in-Up-clause-exact
returns-in-Up-clause-exact c =
    let base_fits : FitsSigned w32 c.args.base = search rules in
    let fits : FitsSigned w64 c.raised.result = search rules in
    simp (to_z-of_z, c.in-Up.is)
    (raised_exact c.args.base c.raised.result (c.args.place + 1) c.rise_at.result c.rise_at.ensures.value (simp to_z-of_z at c.raised.ensures))

pub returns-in-Up-clause-in_range : goal.returns-in-Up-clause-in_range
returns-in-Up-clause-in_range c =
    let base_fits : FitsSigned w32 c.args.base = search rules in
    let fits : FitsSigned w64 c.raised.result = search rules in
    simp to_z-of_z (raised_in_range c.args.base c.raised.result c.rise_at.result c.requires.base_in c.rise_at.ensures.share (simp to_z-of_z at c.raised.ensures))

pub returns-in-Down-clause-exact : goal.returns-in-Down-clause-exact
returns-in-Down-clause-exact c =
    let base_fits : FitsSigned w32 c.args.base = search rules in
    let fits : FitsSigned w64 c.lowered.result = search rules in
    simp (to_z-of_z, c.in-Down.is)
    (lowered_exact c.args.base c.lowered.result (c.args.place + 1) c.fall_at.result c.fall_at.ensures.value (simp to_z-of_z at c.lowered.ensures))

pub returns-in-Down-clause-in_range : goal.returns-in-Down-clause-in_range
returns-in-Down-clause-in_range c =
    let base_fits : FitsSigned w32 c.args.base = search rules in
    let fits : FitsSigned w64 c.lowered.result = search rules in
    simp to_z-of_z (lowered_in_range c.args.base c.lowered.result c.fall_at.result c.requires.base_in c.fall_at.ensures.share (simp to_z-of_z at c.lowered.ensures))

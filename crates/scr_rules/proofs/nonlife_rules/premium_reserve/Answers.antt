use Rattle.std.proofs.Common.{ap, sym, ◌∙◌}
use Rattle.scr_num.specs.Rounding.{or_zero}
use Rattle.scr_profile.specs.declared.{matrix.Matrix.Matrix, set.Set.Set}
use Rattle.scr_nodes.specs.OwnOf.{segment_correlations}
use Rattle.scr_rules.proofs.NonlifeCode.{lows-of, small-of}
use Rattle.scr_rules.proofs.nonlife_rules.premium_reserve.Goals as goal

pub premium_reserve-requires-clause-lows : goal.premium_reserve-requires-clause-lows
premium_reserve-requires-clause-lows c = lows-of c.args.spans.now c.requires.lows

pub premium_reserve-requires-clause-small : goal.premium_reserve-requires-clause-small
premium_reserve-requires-clause-small c =
    small-of _ _ c.args.spans.now
    (ap (λ (set : Set). or_zero (segment_correlations c.args.factors.now set).den) c.in-Nl.is ∙ ap (λ (m : Matrix). or_zero m.den) (sym c.corr.ensures.value))
    c.requires.small

pub premium_reserve-requires-in-Nslt-clause-lows : goal.premium_reserve-requires-in-Nslt-clause-lows
premium_reserve-requires-in-Nslt-clause-lows c = lows-of c.args.spans.now c.requires.lows

pub premium_reserve-requires-in-Nslt-clause-small : goal.premium_reserve-requires-in-Nslt-clause-small
premium_reserve-requires-in-Nslt-clause-small c =
    small-of _ _ c.args.spans.now (ap (λ (set : Set). or_zero (segment_correlations c.args.factors.now set).den) c.in-Nslt.is) c.requires.small

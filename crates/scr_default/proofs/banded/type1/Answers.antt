use Rattle.std.proofs.Common.{◌^◌, ◌∙◌, ap, sym, subst}
use Rattle.scr_num.specs.Rounding.{Ends, ends, root_ends}
use Rattle.scr_num.proofs.AmountBounds.{is_amount}
use Rattle.scr_num.proofs.Enclosing.{Encloses-same}
use Rattle.scr_default.specs.Type1Ends.{is_possible, charge_ends}
use Rattle.scr_default.proofs.Band.{hull-is, mask-is, mask-positive, third_possible, rises, type1-encloses, type1-bit, type1-size}
use Rattle.scr_agg.specs.Unbeaten.{HasSeveral}
use Rattle.scr_default.proofs.Widths.{narrow-type1, type1-near}
use Rattle.scr_default.proofs.banded.type1.Goals as goal

pub returns-clause-charge : goal.returns-clause-charge
returns-clause-charge c =
    let e = ends c.args.variance in
    let total = c.args.total in
    let deviation = c.root_of-deviation.ensures in
    let bands = c.possible_bands-bands in
    c.hull_of.ensures
    ∙ rw (bands.ensures.first, bands.ensures.second, bands.ensures.third, deviation.low, deviation.high)
    (hull-is (charge_ends (root_ends e) total) (is_possible (root_ends e) total 0) (is_possible (root_ends e) total 1)
    (is_possible (root_ends e) total 2)
    (third_possible (root_ends e) total (rises e c.args.variance.ordered)))

pub returns-clause-mask : goal.returns-clause-mask
returns-clause-mask c =
    let e = ends c.args.variance in
    let total = c.args.total in
    let bands = c.possible_bands-bands in
    c.mask_of.ensures
    ∙ rw (
      bands.ensures.first,
      bands.ensures.second,
      bands.ensures.third,
      c.root_of-deviation.ensures.low,
      c.root_of-deviation.ensures.high,
    )
    (mask-is (is_possible (root_ends e) total 0) (is_possible (root_ends e) total 1)
    (is_possible (root_ends e) total 2))

pub returns-clause-encloses : goal.returns-clause-encloses
returns-clause-encloses c =
    let e = returns-clause-charge c in
    λ exact h. Encloses-same 1000 _ _ _ _ _ (ap (λ (x : Ends). x.low) e) (ap (λ (x : Ends). x.high) e)
    (type1-encloses c.args.total (ends c.args.variance) exact h)

pub returns-clause-band : goal.returns-clause-band
returns-clause-band c = λ exact h. rw (returns-clause-mask c) (type1-bit c.args.total (ends c.args.variance) exact h)

pub returns-clause-one_at_least : goal.returns-clause-one_at_least
returns-clause-one_at_least c = rw (returns-clause-mask c)
    (mask-positive c.args.total (ends c.args.variance) c.args.variance.ordered)

pub returns-clause-size : goal.returns-clause-size
returns-clause-size c =
    rw (returns-clause-charge c)
    (type1-size c.args.total (ends c.args.variance) c.requires.total
    (is_amount (10 ^ 33) (ends c.args.variance) c.requires.low c.args.variance.ordered c.requires.high))

pub returns-clause-narrow : goal.returns-clause-narrow
returns-clause-narrow c =
    λ h one. rw (returns-clause-charge c)
    (narrow-type1 c.args.total (ends c.args.variance) c.requires.low h
    (λ more. one (subst HasSeveral (sym (returns-clause-mask c)) more)))

pub returns-clause-gap : goal.returns-clause-gap
returns-clause-gap c =
    λ h more. type1-near c.args.total (ends c.args.variance) c.requires.low h
    (subst HasSeveral (returns-clause-mask c) more)

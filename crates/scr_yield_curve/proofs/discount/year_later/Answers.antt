use Rattle.std.proofs.Common.{◌≡◌, FitsSigned, w64, ap, ◌∙◌, to_z-of_z, add-one, arith, rules}
use Rattle.scr_num.specs.Rounding.{ends, scale_ends}
use Rattle.scr_yield_curve.specs.Parts.{parts}
use Rattle.scr_yield_curve.specs.DiscountEnds.{discount_ends}
use Rattle.scr_yield_curve.proofs.DiscountWidths.{narrow-discount}
use Rattle.scr_yield_curve.proofs.PowerLemmas.{in_range, grown}
use Rattle.scr_yield_curve.proofs.discount.year_later.Goals as goal

pub lessened-requires-clause-discount : goal.lessened-requires-clause-discount
lessened-requires-clause-discount c =
    rw c.requires.span (in_range c.args.rate c.args.years c.requires.rate_in (omega (arith, c.requires.years_in)))

pub lessened-requires-clause-narrow : goal.lessened-requires-clause-narrow
lessened-requires-clause-narrow c =
    rw c.requires.span (narrow-discount c.args.rate c.args.years c.requires.rate_in (omega (arith, c.requires.years_in)))

pub returns : goal.returns
unfolding discount_ends
returns c =
    let fits : FitsSigned w64 c.args.rate = search rules in
    let growth : c.growth_of.result ≡ grown c.args.rate = simp to_z-of_z at c.growth_of.ensures.value in
    rw add-one (c.lessened.ensures ∙ ap (λ e. scale_ends e parts c.growth_of.result) c.requires.span ∙ ap (λ g. scale_ends (discount_ends c.args.rate c.args.years) parts g) growth)

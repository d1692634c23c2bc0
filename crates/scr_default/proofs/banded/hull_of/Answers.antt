use Rattle.std.proofs.Common.{◌≡◌, ◌∙◌, ap, ap₂, cond, pos}
use Rattle.scr_num.specs.Rounding.{Ends, ends, exact_ends}
use Rattle.scr_default.specs.Type1Ends.{widened}
use Rattle.scr_default.proofs.banded.hull_of.Goals as goal

whole_is : (c : goal.After-widened-2) → ends c.number-whole.result ≡ exact_ends (pos c.args.total)
whole_is c = c.number-whole.ensures.ends ∙ ap (λ n. exact_ends (pos n)) c.from.ensures

pub returns : goal.returns
returns c =
    let five = c.scale-five.ensures.ends in
    let lowest = c.chosen-lowest.ensures ∙ ap₂ (λ (a : Ends) (b : Ends). cond c.args.bands.first a b)
    c.scale-three.ensures.ends
    (c.chosen.ensures ∙ ap₂ (λ (a : Ends) (b : Ends). cond c.args.bands.second a b) five (whole_is c)) in
    c.widened-2.ensures
    ∙ ap₂ (λ (a : Ends) (b : Ends). widened a c.args.bands.third b)
    (c.widened.ensures ∙ ap₂ (λ (a : Ends) (b : Ends). widened a c.args.bands.second b) lowest five) (whole_is c)

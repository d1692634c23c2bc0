use Rattle.std.proofs.Common.{◌≡◌, ◌^◌, ◌∙◌, ap, ap₂, arith, length}
use Rattle.std.proofs.lemmas.List.{length-map}
use Rattle.scr_num.specs.Rounding.{Ends, ends, sub_ends}
use Rattle.scr_num.proofs.Enclosing.{Encloses-same}
use Rattle.scr_agg.specs.Correlated.{all_ends}
use Rattle.scr_loss.specs.BscrEnds.{bscr_ends, diversification_ends, known_diversification_ends}
use Rattle.scr_loss.proofs.BscrBounds.{lows_of, together, known-same, known-encloses}
use Rattle.scr_loss.proofs.basic.known_diversification.Goals as goal

pub total-requires : goal.total-requires
total-requires c = record { together = together (2 ^ 124) c.args.parts.now c.requires.lows (omega (arith, c.requires.highs)) }

pub sub-requires-clause-a_low : goal.sub-requires-clause-a_low
sub-requires-clause-a_low c =
    let size = c.total.ensures.size 6000000000000000000 (together 6000000000000000000 c.args.parts.now c.requires.lows c.requires.highs) in
    omega (arith, size.low)

pub sub-requires-clause-a_high : goal.sub-requires-clause-a_high
sub-requires-clause-a_high c =
    let size = c.total.ensures.size 6000000000000000000 (together 6000000000000000000 c.args.parts.now c.requires.lows c.requires.highs) in
    omega (arith, size.high)

pub returns-clause-encloses : goal.returns-clause-encloses
returns-clause-encloses c =
    λ figures h is.
    let modules = all_ends c.args.parts.now in
    let count : length modules ≡ 5 = length-map c.args.parts.now ends ∙ c.told-parts in
    let e : ends c.sub.result ≡ known_diversification_ends modules (bscr_ends modules c.args.intangible) c.args.intangible =
    c.sub.ensures.ends ∙ ap₂ sub_ends c.total.ensures.ends (c.sub-root.ensures.ends ∙ ap₂ sub_ends is c.intangible_assets.ensures.ends) in
    Encloses-same 1000 _ _ _ _ _ (ap (λ (x : Ends). x.low) e) (ap (λ (x : Ends). x.high) e)
    (known-encloses modules figures c.args.intangible count (lows_of c.args.parts.now c.requires.lows) h)

pub returns-clause-same : goal.returns-clause-same
returns-clause-same c =
    λ is.
    let modules = all_ends c.args.parts.now in
    c.sub.ensures.ends ∙ ap₂ sub_ends c.total.ensures.ends (c.sub-root.ensures.ends ∙ ap₂ sub_ends is c.intangible_assets.ensures.ends)
    ∙ known-same modules c.args.intangible

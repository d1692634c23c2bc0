-- What payments lose lies within the ends of it, where the discounts of both curves do.
use Rattle.std.proofs.Common.{◌≡◌, ℕ, sym, ◌∙◌, List, length, ℤ, lit<}
use Rattle.scr_num.specs.Fraction.{Fraction}
use Rattle.scr_num.specs.Figure.{Frac}
use Rattle.scr_num.specs.Rounding.{Ends}
use Rattle.scr_num.specs.Enclosure.{Encloses}
use Rattle.scr_dates.specs.declared.day.Day.{Day}
use Rattle.scr_yield_curve.specs.Parts.{AreRates}
use Rattle.scr_yield_curve.specs.DiscountEnds.{one, EncloseDiscounts}
use Rattle.scr_flow.specs.Due.{dues, AreNear}
use Rattle.scr_flow.specs.Loss.{loss_exact, discount_fall}
use Rattle.scr_flow.specs.LossEnds.{loss_ends}
use Rattle.scr_flow.specs.Payments.{payments_loss_exact}
use Rattle.scr_yield_curve.specs.Falls.{differences}
use Rattle.scr_flow.proofs.LossLemmas.{differences_enclose}
use Rattle.scr_flow.proofs.OneValue.{Encloses-one, by-maturity}
use Rattle.scr_flow.proofs.SizeLemmas.{length-dues}
use Rattle.scr_flow.proofs.SumLemmas.{Encloses-weighted}
use Rattle.scr_yield_curve.proofs.FallLemmas.{length-differences}

pub loss-encloses : (flows base stressed : List ℤ) (from to : List Ends) (before after : ℕ → Fraction)
    → length from ≡ length base → length stressed ≡ length base → length to ≡ length base → length flows ≡ length base
    → AreRates base before → AreRates stressed after → EncloseDiscounts before from → EncloseDiscounts after to
    → Encloses one (loss_ends flows base from stressed to).low (loss_ends flows base from stressed to).high (Frac (loss_exact flows before after))
loss-encloses flows base stressed from to before after a b c d rates rates' h k =
    Encloses-weighted one (lit< tt) (discount_fall before after) 1 flows (differences base from stressed to)
    (d ∙ sym (length-differences base from stressed to a b c))
    (differences_enclose base from stressed to before after rates rates' h k)

pub payments-encloses : (asof : ℤ) (payments : List (Day × ℤ)) (base stressed : List ℤ) (from to : List Ends) (before after : ℕ → Fraction) → AreNear asof payments
    → length base ≡ 100 → length from ≡ 100 → length stressed ≡ 100 → length to ≡ 100
    → AreRates base before → AreRates stressed after → EncloseDiscounts before from → EncloseDiscounts after to
    → Encloses one (loss_ends (dues asof payments) base from stressed to).low (loss_ends (dues asof payments) base from stressed to).high
    (Frac (payments_loss_exact asof payments before after))
payments-encloses asof payments base stressed from to before after near a b c d rates rates' h k =
    Encloses-one one _ _ _ _ (by-maturity (discount_fall before after) asof payments near)
    (loss-encloses (dues asof payments) base stressed from to before after (b ∙ sym a) (c ∙ sym a) (d ∙ sym a) (length-dues asof payments ∙ sym a) rates rates' h k)

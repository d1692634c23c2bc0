-- What payments lose and what they are worth is enclosed, at any tables that enclose the discounts at their rates.
use Rattle.std.proofs.Common.{◌≡◌, ℕ, ◌+◌, ℤ, List, length, get_or, ◌-ℤ◌, sym, subst, ◌∙◌, arith, lit<}
use Rattle.std.proofs.lemmas.List.FromFn.{length-map-range_with_len}
use Rattle.scr_num.specs.Enclosure.{Encloses}
use Rattle.scr_num.specs.Figure.{Frac}
use Rattle.scr_num.specs.Fraction.{Fraction, minus}
use Rattle.scr_dates.specs.declared.day.Day.{Day}
use Rattle.scr_yield_curve.specs.Discount.{discount_exact}
use Rattle.scr_yield_curve.specs.DiscountEnds.{one}
use Rattle.scr_yield_curve.specs.Parts.{IsCurveInMillionths, rates_in_parts}
use Rattle.scr_yield_curve.specs.Rate.{rate}
use Rattle.scr_yield_curve.specs.declared.tilt.Tilt.TheVariants as tilts
use Rattle.scr_yield_curve.proofs.RateLemmas.{rates_are, length-rates_in_parts}
use Rattle.scr_flow.specs.Due.{dues, due_in, AreNear}
use Rattle.scr_flow.specs.LossEnds.{present_ends}
use Rattle.scr_flow.specs.Payments.{payments_exact, payments_loss_exact}
use Rattle.scr_flow.proofs.LossesEnclosed.{payments-encloses}
use Rattle.scr_flow.proofs.OneValue.{Encloses-one, by-maturity}
use Rattle.scr_flow.proofs.SizeLemmas.{length-dues}
use Rattle.scr_flow.proofs.SumLemmas.{Encloses-weighted}
use Rattle.scr_nodes.specs.Own.{Paid, Valued}
use Rattle.scr_nodes.specs.declared.node.Direction.{Direction}
use Rattle.scr_nodes.specs.declared.node.Direction.TheVariants as directions
use Rattle.scr_discounts.specs.Discounts.{CurrencyDiscounts}
use Rattle.scr_discounts.specs.Kept.{AreDiscountsAt, IsTable}
use Rattle.scr_rules.specs.Discounts.{tilt_of, changed}
use Rattle.scr_rules.specs.LifeRules.{excess_dues}
use Rattle.scr_rules.specs.MarketRules.{worth_ends}
use Rattle.scr_rules.specs.Rules.{paid_ends}
use Rattle.scr_rules.proofs.ExcessValues.{apart-worth, equals-trans, equals-minus}

changed-table : (direction : Direction) (rates : List ℤ) (row : CurrencyDiscounts) → AreDiscountsAt rates row
    → IsTable (rate rates (tilt_of direction)) (changed direction row)
changed-table directions.Up rates row at = at.up
changed-table directions.Down rates row at = at.down

-- what is lost where rates change
pub paid-encloses : (paid : Paid) (row : CurrencyDiscounts) → AreDiscountsAt paid.rates row → AreNear paid.asof paid.payments → IsCurveInMillionths paid.rates
    → Encloses one (paid_ends paid row).low (paid_ends paid row).high
    (Frac (payments_loss_exact paid.asof paid.payments (rate paid.rates tilts.Base) (rate paid.rates (tilt_of paid.direction))))
unfolding paid_ends
paid-encloses paid row at near curve =
    let after = changed-table paid.direction paid.rates row at in
    payments-encloses paid.asof paid.payments (rates_in_parts paid.rates tilts.Base) (rates_in_parts paid.rates (tilt_of paid.direction))
    row.base (changed paid.direction row) (rate paid.rates tilts.Base) (rate paid.rates (tilt_of paid.direction)) near
    (length-rates_in_parts paid.rates tilts.Base) at.base.count (length-rates_in_parts paid.rates (tilt_of paid.direction)) after.count
    (rates_are paid.rates tilts.Base curve) (rates_are paid.rates (tilt_of paid.direction) curve) at.base.encloses after.encloses

-- what one is worth that is paid after so many years
abbrev pub worth_at : List ℤ → ℕ → Fraction
worth_at rates years = discount_exact (rate rates tilts.Base years) years

pub worth-encloses : (valued : Valued) (row : CurrencyDiscounts) → IsTable (rate valued.rates tilts.Base) row.base → AreNear valued.asof valued.payments
    → Encloses one (worth_ends valued row).low (worth_ends valued row).high (Frac (payments_exact (worth_at valued.rates) valued.asof valued.payments))
unfolding worth_ends
worth-encloses valued row at near =
    let worth = worth_at valued.rates in
    let table = row.base in
    let count : length (dues valued.asof valued.payments) ≡ length table = length-dues valued.asof valued.payments ∙ sym at.count in
    Encloses-one one _ _ _ _ (by-maturity worth valued.asof valued.payments near)
    (Encloses-weighted one (lit< tt) worth 1 (dues valued.asof valued.payments) table count
    (λ k d within. subst (λ (j : ℕ). Encloses one (get_or table k d).low (get_or table k d).high (Frac (worth j))) (turned k) (at.encloses.each k d within)))
  where
    turned : (k : ℕ) → k + 1 ≡ 1 + k
    turned k = omega arith

-- by how much payments are worth more than others
module _ (asof : ℤ) (stressed base : List (Day × ℤ)) (rates : List ℤ) (row : CurrencyDiscounts) (at : IsTable (rate rates tilts.Base) row.base) where
  pub difference-encloses : AreNear asof stressed → AreNear asof base
      → Encloses one (present_ends (excess_dues asof stressed base) row.base).low (present_ends (excess_dues asof stressed base) row.base).high
      (Frac (minus (payments_exact (worth_at rates) asof stressed) (payments_exact (worth_at rates) asof base)))
  difference-encloses near near' =
      let worth = worth_at rates in
      let flows = excess_dues asof stressed base in
      let table = row.base in
      let count : length flows ≡ 100 = length-map-range_with_len (λ years. due_in asof stressed years -ℤ due_in asof base years) 1 100 in
      let all = Encloses-weighted one (lit< tt) worth 1 flows table (count ∙ sym at.count)
      (λ k d within. subst (λ (j : ℕ). Encloses one (get_or table k d).low (get_or table k d).high (Frac (worth j))) (omega arith) (at.encloses.each k d within)) in
      Encloses-one one _ _ _ _
      (equals-trans _ _ _ (apart-worth worth (due_in asof stressed) (due_in asof base) 1 100)
      (equals-minus _ _ _ _ (by-maturity worth asof stressed near) (by-maturity worth asof base near')))
      all

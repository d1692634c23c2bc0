-- When the rules of biometric stresses keep to 128 bits (this project's own).
use Rattle.std.specs.Prelude.{◌≤◌, ℤ, All, List, length}
use Rattle.scr_dates.specs.Civil.{IsDay}
use Rattle.scr_dates.specs.declared.day.Day.{Day}
use Rattle.scr_yield_curve.specs.Parts.{IsCurveInMillionths}
use Rattle.scr_dates.specs.Payments.{total}
use Rattle.scr_flow.specs.Due.{AreNear}
use Rattle.scr_nodes.specs.Own.{Valued}

-- payments that can be sorted by their maturities
pub record AreSortable (asof : ℤ) (payments : List (Day × ℤ)) : Type 0 where
  pub days : All (λ payment. IsDay payment.0.number) payments
  pub near : AreNear asof payments
  pub small : total payments ≤ 50_000_000_000_000

pub record FitsExcess (valued : Valued) (stressed : List (Day × ℤ)) : Type 0 where
  pub asof : IsDay valued.asof
  pub base : AreSortable valued.asof valued.payments
  pub stressed_flows : AreSortable valued.asof stressed
  pub rates : IsCurveInMillionths valued.rates
  pub count : length valued.rates ≤ 100

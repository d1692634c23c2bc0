-- When the rules of market risk besides interest rate and equity risk keep to 128 bits (this project's own).
use Rattle.std.specs.Prelude.{ℕ, ◌^◌, ◌≤◌, ◌<◌, pos, ◌≤ℤ◌, All, List, Option, length, take, drop}
use Rattle.scr_num.specs.Amounts.{IsAmount}
use Rattle.scr_num.specs.Rounding.{Ends}
use Rattle.scr_num.specs.Sizes.{AreTogether}
use Rattle.scr_num.specs.Sums.{sum_ends}
use Rattle.scr_dates.specs.Civil.{IsDay}
use Rattle.scr_yield_curve.specs.Parts.{IsCurveInMillionths}
use Rattle.scr_dates.specs.Payments.{total}
use Rattle.scr_flow.specs.Due.{AreNear}
use Rattle.scr_market.specs.Spread.{row_of}
use Rattle.scr_conc.specs.Thresholds.{step_of}
use Rattle.scr_conc.specs.declared.TheConstants.{MAX_SQUARES}
use Rattle.scr_profile.specs.declared.limits.TheConstants.{MAX_HELD, MAX_DURATION}
use Rattle.scr_nodes.specs.Own.{Valued}
use Rattle.scr_rules.specs.RootFits.{FitsRoot}
use Rattle.scr_rules.specs.Rules.{figure_at, amount_at}

pub record FitsWorth (valued : Valued) : Type 0 where
  pub asof : IsDay valued.asof
  pub days : All (λ payment. IsDay payment.0.number) valued.payments
  pub near : AreNear valued.asof valued.payments
  pub small : total valued.payments ≤ 50_000_000_000_000
  pub rates : IsCurveInMillionths valued.rates
  pub count : length valued.rates ≤ 100

pub record FitsForeign (securities : ℕ) (figures : List Ends) : Type 0 where
  pub count : securities ≤ length figures
  pub held : AreTogether (10 ^ 33) (take securities figures)
  pub assets : IsAmount MAX_HELD (sum_ends (take securities figures))
  pub owed : AreTogether (10 ^ 33) (drop securities figures)

pub record FitsMultiple (figures : List Ends) : Type 0 where
  pub cents : IsAmount MAX_HELD (figure_at figures 0)

pub record FitsStressed (step : Option ℕ) (duration : ℕ) (figures : List Ends) : Type 0 where
  pub row : row_of step < 8
  pub long : pos duration ≤ℤ MAX_DURATION
  pub cents : IsAmount MAX_HELD (figure_at figures 0)

-- nothing is exposed to a group that does not count among the assets
pub record FitsSquare (step : Option ℕ) (figures : List Ends) : Type 0 where
  pub at_most_6 : step_of step ≤ 6
  pub assets : IsAmount MAX_HELD (figure_at figures 0)
  pub exposure : IsAmount MAX_HELD (figure_at figures 1)
  pub part : amount_at figures 1 ≤ amount_at figures 0

pub record FitsSquareRoot (figures : List Ends) : Type 0 where
  pub together : AreTogether MAX_SQUARES figures
  pub sum : IsAmount MAX_SQUARES (sum_ends figures)

-- one of the two interest scenarios may decide
pub record FitsMarket (figures : List Ends) : Type 0 where
  pub parts : FitsRoot 6 figures
  pub mask : IsAmount 3 (figure_at figures 6)
  pub some : 1 ≤ amount_at figures 6

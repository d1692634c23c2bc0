-- When a figure's rule keeps to 128 bits: what the rule asks of the figure's own data and of the figures of its sources
-- (this project's own).
use Rattle.std.specs.Prelude.{ℕ, ◌+◌, ◌^◌, ◌≤◌, ◌<◌, ℤ, pos, negsuc, ◌≤ℤ◌, All, List, length}
use Rattle.scr_num.specs.Amounts.{IsAmount}
use Rattle.scr_num.specs.Rounding.{Ends}
use Rattle.scr_dates.specs.Civil.{IsDay}
use Rattle.scr_yield_curve.specs.Parts.{IsCurveInMillionths}
use Rattle.scr_dates.specs.Payments.{total}
use Rattle.scr_flow.specs.Due.{AreNear}
use Rattle.scr_num.specs.Sizes.{IsWithin, AreTogether}
use Rattle.scr_nodes.specs.Own.{Own, Paid, Share}
use Rattle.scr_nodes.specs.Own.Own.{Held, Loss, Cost, Scaled, Lost, Converted, Net, Choice, Picked, Added, Fall, EquityRoot}
use Rattle.scr_nodes.specs.Own.Own.{Worth, Foreign, Multiple, Stressed, Spread, Square, SquareRoot, Market}
use Rattle.scr_nodes.specs.Own.Own.{Excess, Losses, Squares, Variance, Band, Banded, Due, Correlated}
use Rattle.scr_nodes.specs.Own.Own.{Charged, CorrelatedWith, Segment, PremiumReserve, Catastrophes, Bscr, Diversified}
use Rattle.scr_nodes.specs.Own.Own.{Premiums, Provisions, Cap, OperationalCharge, Absorbing, Taxed, Requirement}
use Rattle.scr_nodes.specs.Own.Root.{DefaultRoot, LifeRoot, SltRoot, HealthRoot, NaturalRoot, ManMadeRoot, HealthCatastropheRoot}
use Rattle.scr_nodes.specs.Own.ChargedRoot.{NsltRoot, NonlifeRoot}
use Rattle.scr_loss.specs.Operational.{IsWithinLimits}
use Rattle.scr_profile.specs.declared.limits.TheConstants.{MAX_HELD, MAX_AMOUNT}
use Rattle.scr_rules.specs.RootFits.{FitsRoot}
use Rattle.scr_rules.specs.MarketFits.{FitsWorth, FitsForeign, FitsMultiple, FitsStressed, FitsSquare, FitsSquareRoot, FitsMarket}
use Rattle.scr_rules.specs.LifeFits.{FitsExcess}
use Rattle.scr_rules.specs.DefaultFits.{FitsLosses, FitsSquares, FitsVariance, FitsBand, FitsDue}
use Rattle.scr_rules.specs.LossFits.{FitsBscr, FitsDiversified, IsRequirement, FitsCharge, FitsAbsorbing, FitsTaxed, FitsRequirement}
use Rattle.scr_rules.specs.NonlifeFits.{FitsCharged, FitsSegment, FitsPremiumReserve, FitsNonlife, FitsNslt}
use Rattle.scr_rules.specs.Rules.{figure_at, parts_held}

-- a share by weights, of which there are some
pub record IsShare (share : Share) : Type 0 where
  pub in_order : share.before ≤ share.through
  pub within : share.through ≤ share.all
  pub some : 0 < share.all
  pub small : share.all ≤ 10 ^ 12

pub record FitsHeld (cents : ℕ) (shares : List Share) (figures : List Ends) : Type 0 where
  pub by_weights : All IsShare shares
  pub totals : All (IsAmount MAX_HELD) figures
  pub all : cents + parts_held shares figures ≤ MAX_HELD

pub record FitsPaid (paid : Paid) : Type 0 where
  pub asof : IsDay paid.asof
  pub days : All (λ payment. IsDay payment.0.number) paid.payments
  pub near : AreNear paid.asof paid.payments
  pub small : total paid.payments ≤ 50_000_000_000_000
  pub rates : IsCurveInMillionths paid.rates
  pub count : length paid.rates ≤ 100

pub record FitsScaled (figures : List Ends) : Type 0 where
  pub cents : IsAmount MAX_HELD (figure_at figures 0)
  pub unit : IsWithin 13_700_000_000_000_000_000_000_000 (figure_at figures 1)

pub record FitsNet (absorb : ℕ) (figures : List Ends) : Type 0 where
  pub absorbed : absorb ≤ MAX_AMOUNT
  pub gross : IsWithin (2 ^ 100) (figure_at figures 0)

-- one to eight alternatives
pub record FitsChoice (figures : List Ends) : Type 0 where
  pub some : 2 ≤ length figures
  pub few : length figures ≤ 17

pub record FitsFall (sym : ℤ) (figures : List Ends) : Type 0 where
  pub cents : IsAmount MAX_HELD (figure_at figures 0)
  pub strategic : IsAmount MAX_HELD (figure_at figures 1)
  pub least : negsuc 99_999 ≤ℤ sym
  pub most : sym ≤ℤ pos 100_000

abbrev pub Fits : Own → List Ends → Type 0
Fits (Held cents shares) figures = FitsHeld cents shares figures
Fits (Loss paid) figures = FitsPaid paid
Fits (Cost paid) figures = FitsPaid paid
Fits Scaled figures = FitsScaled figures
Fits Lost figures = AreTogether (10 ^ 33) figures
Fits Converted figures = AreTogether (10 ^ 33) figures
Fits (Net absorb) figures = FitsNet absorb figures
Fits Choice figures = FitsChoice figures
Fits (Picked measure) figures = FitsChoice figures
Fits Added figures = AreTogether (10 ^ 33) figures
Fits (Fall kind sym) figures = FitsFall sym figures
Fits EquityRoot figures = FitsRoot 4 figures
Fits (Worth valued) figures = FitsWorth valued
Fits (Foreign direction securities) figures = FitsForeign securities figures
Fits (Multiple times) figures = FitsMultiple figures
Fits (Stressed factors step duration) figures = FitsStressed step duration figures
Fits Spread figures = AreTogether (10 ^ 33) figures
Fits (Square kind step) figures = FitsSquare step figures
Fits SquareRoot figures = FitsSquareRoot figures
Fits Market figures = FitsMarket figures
Fits (Excess valued stressed) figures = FitsExcess valued stressed
Fits (Losses banks reinsurers) figures = FitsLosses banks reinsurers
Fits Squares figures = FitsSquares figures
Fits Variance figures = FitsVariance figures
Fits Band figures = FitsBand figures
Fits Banded figures = FitsBand figures
Fits (Due overdue other) figures = FitsDue overdue other
Fits (Correlated DefaultRoot) figures = FitsRoot 2 figures
Fits (Correlated LifeRoot) figures = FitsRoot 7 figures
Fits (Correlated SltRoot) figures = FitsRoot 6 figures
Fits (Charged times cents) figures = FitsCharged times cents
Fits (Segment volumes premium reserve) figures = FitsSegment volumes premium reserve
Fits (PremiumReserve correlations) figures = FitsPremiumReserve correlations figures
Fits (Correlated NaturalRoot) figures = FitsRoot 5 figures
Fits (Correlated ManMadeRoot) figures = FitsRoot 6 figures
Fits Catastrophes figures = FitsRoot 4 figures
Fits (Correlated HealthCatastropheRoot) figures = FitsRoot 3 figures
Fits (CorrelatedWith NonlifeRoot lapse) figures = FitsNonlife lapse figures
Fits (CorrelatedWith NsltRoot lapse) figures = FitsNslt lapse figures
Fits (Correlated HealthRoot) figures = FitsRoot 3 figures
Fits (Bscr intangible) figures = FitsBscr intangible figures
Fits (Diversified intangible) figures = FitsDiversified intangible figures
Fits (Premiums operation) figures = IsWithinLimits operation
Fits (Provisions operation) figures = IsWithinLimits operation
Fits Cap figures = IsRequirement (figure_at figures 0)
Fits (OperationalCharge expenses) figures = FitsCharge expenses figures
Fits (Absorbing benefits) figures = FitsAbsorbing benefits figures
Fits (Taxed rate cap) figures = FitsTaxed rate cap figures
Fits Requirement figures = FitsRequirement figures

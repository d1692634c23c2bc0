-- What a figure reads of the balance sheet and the factors, besides other figures (this project's own). Figures that
-- are reckoned alike share one variant, whatever family they are of, so each variant is one rule.
use Rattle.std.specs.Prelude.{ℕ, ℤ, List, Option}
use Rattle.scr_dates.specs.declared.day.Day.{Day}
use Rattle.scr_factors.specs.Values.{FactorValues}
use Rattle.scr_profile.specs.declared.group_kind.GroupKind.{GroupKind}
use Rattle.scr_profile.specs.declared.matrix.Matrix.{Matrix}
use Rattle.scr_profile.specs.declared.operational.OpInput.{OpInput}
use Rattle.scr_nodes.specs.declared.node.Direction.{Direction}
use Rattle.scr_nodes.specs.declared.node.Measure.{Measure}
use Rattle.scr_nodes.specs.declared.node.Equities.{Equities}

-- payments, the day from which they are discounted, the rates of their currency in millionths, and how the rates change
pub record Paid : Type 0 where
  pub asof : ℤ
  pub payments : List (Day × ℤ)
  pub rates : List ℤ
  pub direction : Direction

-- payments, the day from which they are discounted, and the rates of their currency in millionths
pub record Valued : Type 0 where
  pub asof : ℤ
  pub payments : List (Day × ℤ)
  pub rates : List ℤ

-- the share of a component in a fund, by weights: those of the components before it, those up to and with it, and all
pub record Share : Type 0 where
  pub before : ℕ
  pub through : ℕ
  pub all : ℕ

-- what a reinsurer owes, what the arrangement saves in risk, and the collateral, in cents
pub record Reinsured : Type 0 where
  pub recoverables : ℕ
  pub mitigation : ℕ
  pub collateral : ℕ

-- the sub-modules and modules that are the root over a table of correlations, of nothing but other figures
pub data Root : Type 0 where
  DefaultRoot : Root
  LifeRoot : Root
  SltRoot : Root
  HealthRoot : Root
  NaturalRoot : Root
  ManMadeRoot : Root
  HealthCatastropheRoot : Root

-- those in which a handed-in charge is the last
pub data ChargedRoot : Type 0 where
  NsltRoot : ChargedRoot
  NonlifeRoot : ChargedRoot

pub data Own : Type 0 where
  -- so many cents held directly, and a share in each fund whose total is a source (Article 84)
  Held : ℕ → List Share → Own
  -- what payments lose where their rates change, and what they cost more (Article 165)
  Loss : Paid → Own
  Cost : Paid → Own
  -- so many cents of a unit that loses so much per 1,000,000
  Scaled : Own
  -- a sum in which a gain counts as nil
  Lost : Own
  -- a sum in another unit
  Converted : Own
  -- what an absorption of so many cents leaves (Article 206(2))
  Net : ℕ → Own
  -- which of the alternatives may decide, and what the one that does comes to
  Choice : Own
  Picked : Measure → Own
  -- a plain sum
  Added : Own
  -- the fall of one kind of equities, by the symmetric adjustment in millionths (Articles 169, 171 and 172)
  Fall : Equities → ℤ → Own
  -- the root over type 1 equities and all others (Article 168(4))
  EquityRoot : Own
  -- what payments are worth, and by how much payments under a stress are worth more, a gain counting as nil
  -- (Articles 137 to 143 and 152 to 159)
  Worth : Valued → Own
  Excess : Valued → List (Day × ℤ) → Own
  -- so many grains for each cent of a figure (Article 174), and for each of so many cents
  Multiple : ℕ → Own
  Charged : (times cents : ℕ) → Own
  -- what a bond loses, by the factors of its credit quality step, or none, and its duration in thousandths of a year
  -- (Article 176), and the sum over bonds in another unit
  Stressed : FactorValues → (step : Option ℕ) → (duration : ℕ) → Own
  Spread : Own
  -- what a foreign currency costs by a change of it: of so many securities, the first figures, and of liabilities, the
  -- others (Article 188)
  Foreign : Direction → (securities : ℕ) → Own
  -- the square of the excess over the threshold of a group by its kind and its step, or none (Articles 184 to 187), and
  -- the root of the sum of squares (Article 183)
  Square : GroupKind → (step : Option ℕ) → Own
  SquareRoot : Own
  -- the root over the sub-modules of market risk, by the mask of the interest scenario, the last figure (Article 164)
  Market : Own
  -- what banks and reinsurers of a group owe, in the order of their tables (Article 192)
  Losses : (banks : List ℕ) → (reinsurers : List Reinsured) → Own
  -- a sum of squares
  Squares : Own
  -- the variance by the sums of six classes and then their sums of squares (Article 201)
  Variance : Own
  -- by the sums of six classes and then the variance: which bands may decide, and what the one that does charges
  -- (Article 200)
  Band : Own
  Banded : Own
  -- what is due for more than three months, and all else that is due (Article 202)
  Due : (overdue other : ℕ) → Own
  -- the root over a table of correlations, and with so many cents of a handed-in charge as the last
  Correlated : Root → Own
  CorrelatedWith : ChargedRoot → (cents : ℕ) → Own
  -- the standard deviation of a segment times its volume: the volumes by region, and the standard deviations of premium
  -- and of reserve risk in millionths (Articles 116 and 117)
  Segment : (volumes : List (ℕ × ℕ)) → (premium reserve : ℕ) → Own
  -- three times the root over segments, by their correlations (Articles 115 and 146)
  PremiumReserve : Matrix → Own
  -- natural and man-made catastrophes, non-proportional property reinsurance, which is added to the first, and others
  -- (Article 119)
  Catastrophes : Own
  -- the root over the modules, and so many cents of intangible assets besides (Articles 87 and 203)
  Bscr : (intangible : ℕ) → Own
  -- by how much the sum of the modules, the first figures, exceeds the Basic Solvency Capital Requirement, the last,
  -- without so many cents of intangible assets
  Diversified : (intangible : ℕ) → Own
  -- operational risk by earned premiums and by technical provisions, of which nothing else is read; its cap; and by
  -- these three and the expenses of unit-linked business (Article 204)
  Premiums : OpInput → Own
  Provisions : OpInput → Own
  Cap : Own
  OperationalCharge : (expenses : ℕ) → Own
  -- what technical provisions absorb, up to so many cents of future discretionary benefits (Article 206)
  Absorbing : (benefits : ℕ) → Own
  -- what deferred taxes absorb at a rate in millionths, up to a cap in cents (Article 207)
  Taxed : (rate cap : ℕ) → Own
  -- the sum of all (Article 103 of Directive 2009/138/EC)
  Requirement : Own

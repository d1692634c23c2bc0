-- The articles of figures of one family, by what they are told apart by (Delegated Regulation (EU) 2015/35).
use Rattle.std.specs.Prelude.{ℕ, List, codes}
use Rattle.scr_nodes.specs.declared.node.Adjustment.{Adjustment}
use Rattle.scr_nodes.specs.declared.node.Adjustment.TheVariants as adjustments
use Rattle.scr_nodes.specs.declared.node.Biometric.{Biometric}
use Rattle.scr_nodes.specs.declared.node.Biometric.TheVariants as biometrics
use Rattle.scr_nodes.specs.declared.node.Direction.{Direction}
use Rattle.scr_nodes.specs.declared.node.Direction.TheVariants as directions
use Rattle.scr_profile.specs.declared.set.Set.{Set}
use Rattle.scr_profile.specs.declared.set.Set.TheVariants as sets
use Rattle.scr_sheet.specs.declared.keys.CatKey.{CatKey}
use Rattle.scr_sheet.specs.declared.keys.CatKey.TheVariants as cats
use Rattle.scr_sheet.specs.declared.keys.Projection.{Projection}
use Rattle.scr_sheet.specs.declared.keys.Projection.TheVariants as projections

abbrev pub direction_article : Direction → List ℕ
direction_article directions.Up = codes "Article 166"
direction_article directions.Down = codes "Article 167"

-- stresses of life insurance
abbrev pub life_article : Projection → List ℕ
life_article projections.Base = codes "Article 136"
life_article projections.Mortality = codes "Article 137"
life_article projections.Longevity = codes "Article 138"
life_article projections.Disability = codes "Article 139"
life_article projections.Expense = codes "Article 140"
life_article projections.Revision = codes "Article 141"
life_article projections.LapseUp = codes "Article 142"
life_article projections.LapseDown = codes "Article 142"
life_article projections.LapseMass = codes "Article 142"
life_article projections.Catastrophe = codes "Article 143"

-- and of health insurance similar to life, whose catastrophes are those of all health insurance
abbrev pub health_article : Projection → List ℕ
health_article projections.Base = codes "Article 151"
health_article projections.Mortality = codes "Article 152"
health_article projections.Longevity = codes "Article 153"
health_article projections.Disability = codes "Article 154"
health_article projections.Expense = codes "Article 157"
health_article projections.Revision = codes "Article 158"
health_article projections.LapseUp = codes "Article 159"
health_article projections.LapseDown = codes "Article 159"
health_article projections.LapseMass = codes "Article 159"
health_article projections.Catastrophe = codes "Article 160"

abbrev pub stress_article : Biometric → Projection → List ℕ
stress_article biometrics.Life projection = life_article projection
stress_article biometrics.Health projection = health_article projection

-- stresses of a line, which is of either
abbrev pub line_article : Projection → List ℕ
line_article projections.Base = codes "Articles 136 and 151"
line_article projections.Mortality = codes "Articles 137 and 152"
line_article projections.Longevity = codes "Articles 138 and 153"
line_article projections.Disability = codes "Articles 139 and 154"
line_article projections.Expense = codes "Articles 140 and 157"
line_article projections.Revision = codes "Articles 141 and 158"
line_article projections.LapseUp = codes "Articles 142 and 159"
line_article projections.LapseDown = codes "Articles 142 and 159"
line_article projections.LapseMass = codes "Articles 142 and 159"
line_article projections.Catastrophe = codes "Article 143"

-- the volume measure and the standard deviation of a segment
abbrev pub segment_article : Set → List ℕ
segment_article sets.Nl = codes "Articles 116 and 117"
segment_article sets.Nslt = codes "Articles 147 and 148"

abbrev pub premium_article : Set → List ℕ
premium_article sets.Nl = codes "Article 115"
premium_article sets.Nslt = codes "Article 146"

abbrev pub lapse_article : Set → List ℕ
lapse_article sets.Nl = codes "Article 118"
lapse_article sets.Nslt = codes "Article 150"

abbrev pub catastrophe_article : CatKey → List ℕ
catastrophe_article cats.Windstorm = codes "Article 121"
catastrophe_article cats.Earthquake = codes "Article 122"
catastrophe_article cats.Flood = codes "Article 123"
catastrophe_article cats.Hail = codes "Article 124"
catastrophe_article cats.Subsidence = codes "Article 125"
catastrophe_article cats.NonProportionalProperty = codes "Article 127"
catastrophe_article cats.Motor = codes "Article 129"
catastrophe_article cats.Marine = codes "Article 130"
catastrophe_article cats.Aviation = codes "Article 131"
catastrophe_article cats.Fire = codes "Article 132"
catastrophe_article cats.Liability = codes "Article 133"
catastrophe_article cats.Credit = codes "Article 134"
catastrophe_article cats.Other = codes "Article 135"
catastrophe_article cats.MassAccident = codes "Article 161"
catastrophe_article cats.AccidentConcentration = codes "Article 162"
catastrophe_article cats.Pandemic = codes "Article 163"

abbrev pub adjustment_article : Adjustment → List ℕ
adjustment_article adjustments.TechnicalProvisions = codes "Article 206"
adjustment_article adjustments.DeferredTaxes = codes "Article 207"

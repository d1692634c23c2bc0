-- The closed lists of words that fields choose from (this project's own): the word of each value, and the value of a
-- word.
use Rattle.std.specs.Prelude.{ℕ, ◌∷◌, List, [], Option, codes, find, nat_eq, Bool}
use Rattle.std.specs.Cmp.Lexicographic.{pointwise}
use Rattle.scr_sheet.specs.declared.{keys.Table.Table, rows.Class.Class, rows.LiabilityKind.LiabilityKind, keys.Projection.Projection, keys.CatKey.CatKey, keys.AbsorbKey.AbsorbKey}
use Rattle.scr_sheet.specs.declared.keys.Table.TheVariants as tables
use Rattle.scr_profile.specs.declared.{group_kind.GroupKind.GroupKind, set.Set.Set}
use Rattle.scr_profile.specs.declared.group_kind.GroupKind.TheVariants as groups
use Rattle.scr_sheet.specs.declared.rows.Class.TheVariants as classes
use Rattle.scr_sheet.specs.declared.rows.LiabilityKind.TheVariants as liabilities
use Rattle.scr_sheet.specs.declared.keys.Projection.TheVariants as projections
use Rattle.scr_profile.specs.declared.set.Set.TheVariants as sets
use Rattle.scr_sheet.specs.declared.keys.CatKey.TheVariants as cats
use Rattle.scr_sheet.specs.declared.keys.AbsorbKey.TheVariants as absorb

abbrev pub is_text : List ℕ → List ℕ → Bool
is_text word field = pointwise nat_eq word field

-- the first of these values whose word the field is
unfoldable pub value_of : {A : Type 0} → (A → List ℕ) → List A → List ℕ → Option A
value_of word values field = find (λ value. is_text (word value) field) values

abbrev pub table_word : Table → List ℕ
table_word tables.Group = codes "group"
table_word tables.Security = codes "sec"
table_word tables.Fund = codes "fund"
table_word tables.Liability = codes "line"
table_word tables.Bank = codes "bank"
table_word tables.Rein = codes "rein"
table_word tables.Curve = codes "curve"

abbrev pub all_tables : List Table
all_tables =
    tables.Group ∷ tables.Security ∷ tables.Fund ∷ tables.Liability ∷ tables.Bank ∷ tables.Rein ∷ tables.Curve ∷ []

abbrev pub group_kind_word : GroupKind → List ℕ
group_kind_word groups.Name = codes "name"
group_kind_word groups.Covered = codes "covered"
group_kind_word groups.Property = codes "property"
group_kind_word groups.State = codes "state"

abbrev pub all_group_kinds : List GroupKind
all_group_kinds =
    groups.Name ∷ groups.Covered ∷ groups.Property ∷ groups.State ∷ []

abbrev pub class_word : Class → List ℕ
class_word classes.Type1Equity = codes "eq1"
class_word classes.Type1Strategic = codes "eq1s"
class_word classes.Type2Equity = codes "eq2"
class_word classes.Type2Strategic = codes "eq2s"
class_word classes.Infrastructure = codes "infra"
class_word classes.InfrastructureCorporate = codes "infracorp"
class_word classes.Property = codes "property"
class_word classes.Bond = codes "bond"
class_word classes.Government = codes "gov"
class_word classes.Other = codes "other"

abbrev pub all_classes : List Class
all_classes =
    classes.Type1Equity ∷ classes.Type1Strategic ∷ classes.Type2Equity ∷ classes.Type2Strategic ∷
    classes.Infrastructure ∷ classes.InfrastructureCorporate ∷ classes.Property ∷ classes.Bond ∷
    classes.Government ∷ classes.Other ∷ []

abbrev pub liability_kind_word : LiabilityKind → List ℕ
liability_kind_word liabilities.Life = codes "life"
liability_kind_word liabilities.Health = codes "health"
liability_kind_word liabilities.Other = codes "other"

abbrev pub all_liability_kinds : List LiabilityKind
all_liability_kinds =
    liabilities.Life ∷ liabilities.Health ∷ liabilities.Other ∷ []

abbrev pub projection_word : Projection → List ℕ
projection_word projections.Base = codes "base"
projection_word projections.Mortality = codes "mort"
projection_word projections.Longevity = codes "long"
projection_word projections.Disability = codes "dis"
projection_word projections.Expense = codes "exp"
projection_word projections.Revision = codes "rev"
projection_word projections.LapseUp = codes "up"
projection_word projections.LapseDown = codes "down"
projection_word projections.LapseMass = codes "mass"
projection_word projections.Catastrophe = codes "cat"

abbrev pub all_projections : List Projection
all_projections =
    projections.Base ∷ projections.Mortality ∷ projections.Longevity ∷ projections.Disability ∷
    projections.Expense ∷ projections.Revision ∷ projections.LapseUp ∷ projections.LapseDown ∷
    projections.LapseMass ∷ projections.Catastrophe ∷ []

abbrev pub set_word : Set → List ℕ
set_word sets.Nl = codes "nl"
set_word sets.Nslt = codes "nslt"

abbrev pub all_sets : List Set
all_sets =
    sets.Nl ∷ sets.Nslt ∷ []

abbrev pub cat_key_word : CatKey → List ℕ
cat_key_word cats.Windstorm = codes "windstorm"
cat_key_word cats.Earthquake = codes "earthquake"
cat_key_word cats.Flood = codes "flood"
cat_key_word cats.Hail = codes "hail"
cat_key_word cats.Subsidence = codes "subsidence"
cat_key_word cats.NonProportionalProperty = codes "npproperty"
cat_key_word cats.Motor = codes "motor"
cat_key_word cats.Marine = codes "marine"
cat_key_word cats.Aviation = codes "aviation"
cat_key_word cats.Fire = codes "fire"
cat_key_word cats.Liability = codes "liability"
cat_key_word cats.Credit = codes "credit"
cat_key_word cats.Other = codes "other"
cat_key_word cats.MassAccident = codes "massaccident"
cat_key_word cats.AccidentConcentration = codes "accidentconc"
cat_key_word cats.Pandemic = codes "pandemic"

abbrev pub all_cat_keys : List CatKey
all_cat_keys =
    cats.Windstorm ∷ cats.Earthquake ∷ cats.Flood ∷ cats.Hail ∷ cats.Subsidence ∷
    cats.NonProportionalProperty ∷ cats.Motor ∷ cats.Marine ∷ cats.Aviation ∷ cats.Fire ∷ cats.Liability ∷
    cats.Credit ∷ cats.Other ∷ cats.MassAccident ∷ cats.AccidentConcentration ∷ cats.Pandemic ∷ []

-- the word of a scenario; none for those of a currency, which have the currency in their texts
abbrev pub scenario_word : AbsorbKey → List ℕ
scenario_word absorb.InterestUp = codes "interest.up"
scenario_word absorb.InterestDown = codes "interest.down"
scenario_word absorb.Equity = codes "equity"
scenario_word absorb.Property = codes "property"
scenario_word absorb.Spread = codes "spread"
scenario_word absorb.Concentration = codes "concentration"
scenario_word absorb.Default = codes "default"
scenario_word absorb.LifeMortality = codes "life.mortality"
scenario_word absorb.LifeLongevity = codes "life.longevity"
scenario_word absorb.LifeDisability = codes "life.disability"
scenario_word absorb.LifeExpense = codes "life.expense"
scenario_word absorb.LifeRevision = codes "life.revision"
scenario_word absorb.LifeLapseUp = codes "life.lapse.up"
scenario_word absorb.LifeLapseDown = codes "life.lapse.down"
scenario_word absorb.LifeLapseMass = codes "life.lapse.mass"
scenario_word absorb.LifeCatastrophe = codes "life.cat"
scenario_word absorb.HealthMortality = codes "health.mortality"
scenario_word absorb.HealthLongevity = codes "health.longevity"
scenario_word absorb.HealthDisability = codes "health.disability"
scenario_word absorb.HealthExpense = codes "health.expense"
scenario_word absorb.HealthRevision = codes "health.revision"
scenario_word absorb.HealthLapseUp = codes "health.lapse.up"
scenario_word absorb.HealthLapseDown = codes "health.lapse.down"
scenario_word absorb.HealthLapseMass = codes "health.lapse.mass"
scenario_word absorb.HealthCatastrophe = codes "health.cat"
scenario_word (absorb.CurrencyUp currency) = []
scenario_word (absorb.CurrencyDown currency) = []

-- those that have a word
abbrev pub all_scenarios : List AbsorbKey
all_scenarios =
    absorb.InterestUp ∷ absorb.InterestDown ∷ absorb.Equity ∷ absorb.Property ∷ absorb.Spread ∷
    absorb.Concentration ∷ absorb.Default ∷ absorb.LifeMortality ∷ absorb.LifeLongevity ∷
    absorb.LifeDisability ∷ absorb.LifeExpense ∷ absorb.LifeRevision ∷ absorb.LifeLapseUp ∷
    absorb.LifeLapseDown ∷ absorb.LifeLapseMass ∷ absorb.LifeCatastrophe ∷ absorb.HealthMortality ∷
    absorb.HealthLongevity ∷ absorb.HealthDisability ∷ absorb.HealthExpense ∷ absorb.HealthRevision ∷
    absorb.HealthLapseUp ∷ absorb.HealthLapseDown ∷ absorb.HealthLapseMass ∷ absorb.HealthCatastrophe ∷ []

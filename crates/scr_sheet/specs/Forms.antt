-- The form of each field of a record (this project's own).
use Rattle.std.specs.Prelude.{ℕ, ℤ, ◌^◌, ◌<◌, ◌≤◌, List, Option, Some, None, IsTrue, unsigned_abs}
use Rattle.std.specs.List.{AllByRecursion}
use Rattle.scr_dates.specs.declared.day.Day.{Day}
use Rattle.scr_dates.specs.Civil.{IsDay}
pub use Rattle.scr_dates.specs.Payments.{AreOnDays}
use Rattle.scr_tables.specs.Names.{is_name, is_currency}
use Rattle.scr_sheet.specs.declared.{edit.Edit.Edit, keys.AbsorbKey.AbsorbKey}
use Rattle.scr_sheet.specs.declared.edit.Edit.TheVariants as edits
use Rattle.scr_profile.specs.Segments.{segments}
use Rattle.scr_sheet.specs.declared.keys.AbsorbKey.TheVariants as absorb

-- a number of at most 18 digits
abbrev pub IsNumber : ℤ → Type 0
IsNumber z = unsigned_abs z < 10 ^ 18

abbrev pub IsName : List ℕ → Type 0
IsName name = IsTrue (is_name name)

abbrev pub IsCurrency : List ℕ → Type 0
IsCurrency code = IsTrue (is_currency code)

-- a group's name, or none
abbrev pub IsNameOrNone : Option (List ℕ) → Type 0
IsNameOrNone None = Unit {0}
IsNameOrNone (Some name) = IsName name

-- a credit quality step from 0 to 6, or none
abbrev pub IsStepOrNone : Option ℕ → Type 0
IsStepOrNone None = Unit {0}
IsStepOrNone (Some step) = step ≤ 6

abbrev pub AreFlows : List (Day × ℤ) → Type 0
AreFlows flows = AllByRecursion (λ flow. IsDay flow.0.number × IsNumber flow.1) flows

-- components of a fund with their weights
abbrev pub AreComponents : List (List ℕ × ℤ) → Type 0
AreComponents components = AllByRecursion (λ c. IsName c.0 × IsNumber c.1) components

-- the currency of a key that has one
abbrev pub IsAbsorbKey : AbsorbKey → Type 0
IsAbsorbKey (absorb.CurrencyUp currency) = IsCurrency currency
IsAbsorbKey (absorb.CurrencyDown currency) = IsCurrency currency
IsAbsorbKey key = Unit {0}

-- Each field has its form. How long a list is, and whether the record may be applied, are other questions.
abbrev pub Formed : Edit → Type 0
Formed (edits.Asof date currency) = IsDay date.number × IsCurrency currency
Formed (edits.Curve currency rates) = IsCurrency currency × AllByRecursion IsNumber rates
Formed (edits.Group name kind step) = IsName name × IsStepOrNone step
Formed (edits.Security name class group currency duration) = IsName name × IsNameOrNone group × IsCurrency currency × IsNumber duration
Formed (edits.Flows security flows) = IsName security × AreFlows flows
Formed (edits.Fund name components) = IsName name × AreComponents components
Formed (edits.Hold name cents) = IsName name × IsNumber cents
Formed (edits.Liability name kind currency) = IsName name × IsCurrency currency
Formed (edits.LiabilityFlows liability projection flows) = IsName liability × AreFlows flows
Formed (edits.Absorb key cents) = IsAbsorbKey key × IsNumber cents
Formed (edits.Segment set number region premium reserve) = (1 ≤ number) × (number ≤ segments set) × (1 ≤ region) × (region ≤ 18) × IsNumber premium × IsNumber reserve
Formed (edits.Cat key cents) = IsNumber cents
Formed (edits.Lapse set cents) = IsNumber cents
Formed (edits.Rein name group recoverables mitigation collateral) = IsName name × IsName group × IsNumber recoverables × IsNumber mitigation × IsNumber collateral
Formed (edits.Bank name group cents) = IsName name × IsName group × IsNumber cents
Formed (edits.Due overdue other) = IsNumber overdue × IsNumber other
Formed (edits.Op tpl tpul tpn el eul pel peul en pen expul) =
    IsNumber tpl × IsNumber tpul × IsNumber tpn × IsNumber el × IsNumber eul × IsNumber pel × IsNumber peul × IsNumber en × IsNumber pen × IsNumber expul
Formed (edits.Sym millionths) = IsNumber millionths
Formed (edits.Tax millionths most) = IsNumber millionths × IsNumber most
Formed (edits.Fdb cents) = IsNumber cents
Formed (edits.Intangible cents) = IsNumber cents
Formed (edits.Remove table name) = IsName name

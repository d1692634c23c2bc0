-- Which rows of the balance sheet a figure is reckoned from (Delegated Regulation (EU) 2015/35, Articles 84, 165 and
-- 168).
use Rattle.std.specs.Prelude.{ℕ, ℤ, ◌+◌, ◌==◌, Bool, true, false, not, ◌&&◌, List, [], ◌∷◌, Option, None, filter, sum_by, if◌then◌else◌}
use Rattle.std.specs.List.{list_any}
use Rattle.std.specs.Option.{option_map_or}
use Rattle.scr_tables.specs.Names.{same_name}
use Rattle.scr_tables.specs.Tables.{row_of}
use Rattle.scr_profile.specs.DefaultClasses.{class_of_step, first_step}
use Rattle.scr_profile.specs.declared.default_class.DefaultClass.{DefaultClass}
use Rattle.scr_sheet.specs.BalanceSheet.{curve_name, group_name, liability_name, position_of, stake_of}
use Rattle.scr_sheet.specs.Records.{natural}
use Rattle.scr_sheet.specs.declared.keys.Projection.{Projection}
use Rattle.scr_sheet.specs.declared.keys.Projection.TheVariants as projections
use Rattle.scr_sheet.specs.declared.sheet.BalanceSheet.{BalanceSheet}
use Rattle.scr_sheet.specs.declared.rows.Bank.{Bank}
use Rattle.scr_sheet.specs.declared.rows.Curve.{Curve}
use Rattle.scr_sheet.specs.declared.rows.Group.{Group}
use Rattle.scr_sheet.specs.declared.rows.Liability.{Liability}
use Rattle.scr_sheet.specs.declared.rows.LiabilityKind.{LiabilityKind}
use Rattle.scr_sheet.specs.declared.rows.LiabilityKind.TheVariants as kinds
use Rattle.scr_sheet.specs.declared.rows.Position.{Position}
use Rattle.scr_sheet.specs.declared.rows.Rein.{Rein}
use Rattle.scr_sheet.specs.declared.rows.Stake.{Stake}
use Rattle.scr_nodes.specs.declared.node.Biometric.{Biometric}
use Rattle.scr_nodes.specs.declared.node.Biometric.TheVariants as biometrics
use Rattle.scr_nodes.specs.Own.{Share}
-- the tests by which the large sums take rows
pub use Rattle.scr_sheet.specs.Members.{has_class, has_flows, has_group, is_closed, is_held_in, is_of_class, is_of_group, is_owed_in, is_paying, is_paying_in}

-- ---- funds

-- what a fund holds, each component with its weight
abbrev pub components : Stake → List (List ℕ × ℤ)
components stake = stake.fund.components

-- a component of this name
abbrev pub is_component : List ℕ → List ℕ × ℤ → Bool
is_component name component = same_name name component.0

-- the fund holds what has this name
abbrev pub holds : List ℕ → Stake → Bool
holds name stake = list_any (is_component name) stake.fund.components

-- the funds that hold it, in the order of their table
abbrev pub holders : List ℕ → BalanceSheet → List Stake
holders name sheet = filter (holds name) sheet.funds

-- the weights of the components before the first of this name
abbrev pub weights_before : List ℕ → List (List ℕ × ℤ) → ℕ
weights_before name [] = 0
weights_before name (c ∷ cs) = if is_component name c then 0 else natural c.1 + weights_before name cs

-- the weights of the components up to the first of this name and with it
abbrev pub weights_through : List ℕ → List (List ℕ × ℤ) → ℕ
weights_through name [] = 0
weights_through name (c ∷ cs) = natural c.1 + (if is_component name c then 0 else weights_through name cs)

abbrev pub share_in : List ℕ → Stake → Share
share_in name stake = record {
  before = weights_before name stake.fund.components;
  through = weights_through name stake.fund.components;
  all = sum_by (λ c. natural c.1) stake.fund.components;
}

-- ---- what is held directly, in cents; 0 of a name that no row has

abbrev pub security_held : List ℕ → BalanceSheet → ℕ
security_held name sheet = option_map_or (λ p. p.held) (position_of name sheet.securities) 0

abbrev pub fund_held : List ℕ → BalanceSheet → ℕ
fund_held name sheet = option_map_or (λ s. s.held) (stake_of name sheet.funds) 0

-- ---- payments

abbrev pub liability_of : List ℕ → List Liability → Option Liability
liability_of name liabilities = row_of liability_name name liabilities

-- the rates of a currency in millionths, none where it has no curve
abbrev pub rates_of : List ℕ → BalanceSheet → List ℤ
rates_of currency sheet = option_map_or (λ (curve : Curve). curve.rates) (row_of curve_name currency sheet.curves) []

-- ---- currencies

-- a currency other than the reporting one (Article 188(1))
abbrev pub is_foreign : BalanceSheet → Curve → Bool
is_foreign sheet curve = not (same_name sheet.numbers.currency curve.currency)

-- ---- groups of counterparties

abbrev pub group_of : List ℕ → List Group → Option Group
group_of name groups = row_of group_name name groups

-- the credit quality step of a group, none where it has none or no group has the name
abbrev pub step_of_group : BalanceSheet → List ℕ → Option ℕ
step_of_group sheet name = option_map_or (λ (group : Group). group.step) (group_of name sheet.groups) None

-- that of a security's group
abbrev pub step_of : BalanceSheet → Position → Option ℕ
step_of sheet position = option_map_or (step_of_group sheet) position.security.group None

-- the bank, and the reinsurer, is of this group of counterparties
abbrev pub is_bank_of : List ℕ → Bank → Bool
is_bank_of name bank = same_name name bank.group

abbrev pub is_reinsurer_of : List ℕ → Rein → Bool
is_reinsurer_of name reinsurer = same_name name reinsurer.group

-- its step is of the class of probabilities of default (Article 199(2))
abbrev pub is_of_default_class : DefaultClass → Group → Bool
is_of_default_class class group = first_step (class_of_step group.step) == first_step class

-- ---- biometric stresses

-- a projection other than the best estimate
abbrev pub is_stress : Projection → Bool
is_stress projections.Base = false
is_stress projection = true

abbrev pub is_of_kind : Biometric → LiabilityKind → Bool
is_of_kind biometrics.Life kinds.Life = true
is_of_kind biometrics.Health kinds.Health = true
is_of_kind biometric kind = false

-- a liability of the kind with flows under the projection
abbrev pub is_stressed : Biometric → Projection → Liability → Bool
is_stressed biometric projection liability = is_of_kind biometric liability.kind && has_flows projection liability

-- the stresses of a kind of obligations: those of Articles 137 to 143, and of Articles 152 to 159
abbrev pub has_stress : Biometric → Projection → Bool
has_stress biometric projections.Base = false
has_stress biometrics.Health projections.Catastrophe = false
has_stress biometric projection = true

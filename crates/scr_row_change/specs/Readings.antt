-- What is read of a row, if there is one (this project's own).
use Rattle.std.specs.Prelude.{ℕ, ℤ, ◌==◌, ◌||◌, Bool, true, false, not, List, [], Option, None, nat_eq, is_some, if◌then◌else◌}
use Rattle.std.specs.Option.{option_eq, option_map_or}
use Rattle.scr_dates.specs.declared.day.Day.{Day}
use Rattle.scr_tables.specs.Names.{same_name}
use Rattle.scr_tables.specs.Tables.{has_row}
use Rattle.scr_profile.specs.declared.group_kind.GroupKind.{GroupKind}
use Rattle.scr_profile.specs.declared.group_kind.GroupKind.TheVariants as group_kinds
use Rattle.scr_sheet.specs.BalanceSheet.{stake_name}
use Rattle.scr_sheet.specs.CashFlows.{flows_under}
use Rattle.scr_sheet.specs.declared.keys.Projection.{Projection}
use Rattle.scr_sheet.specs.declared.rows.Curve.{Curve}
use Rattle.scr_sheet.specs.declared.rows.Group.{Group}
use Rattle.scr_sheet.specs.declared.rows.Liability.{Liability}
use Rattle.scr_sheet.specs.declared.rows.Position.{Position}
use Rattle.scr_sheet.specs.declared.rows.Stake.{Stake}
use Rattle.scr_sheet.specs.declared.sheet.BalanceSheet.{BalanceSheet}
use Rattle.scr_row_change.specs.Comparisons.{same_rates}

-- ---- of a security

abbrev pub position_held : Option Position → ℕ
position_held position = option_map_or (λ p. p.held) position 0

abbrev pub flows_of : Option Position → List (Day × ℤ)
flows_of position = option_map_or (λ p. p.security.flows) position []

abbrev pub duration_of : Option Position → ℕ
duration_of position = option_map_or (λ p. p.security.duration) position 0

-- ---- of a fund

abbrev pub stake_held : Option Stake → ℕ
stake_held stake = option_map_or (λ s. s.held) stake 0

-- a fund x, where that of this name has become another, or came or went
abbrev pub is_fund_after : BalanceSheet → List ℕ → Option Stake → List ℕ → Bool
is_fund_after sheet name new x = if same_name x name then is_some new else has_row stake_name x sheet.funds

-- as much is held directly of the fund x
abbrev pub held_kept : List ℕ → Option Stake → Option Stake → List ℕ → Bool
held_kept name old new x = not (same_name x name) || (stake_held old == stake_held new)

-- ---- of a group of counterparties

abbrev pub kind_of : Option Group → GroupKind
kind_of group = option_map_or (λ g. g.kind) group group_kinds.Name

abbrev pub step_of : Option Group → Option ℕ
step_of group = option_map_or (λ g. g.step) group None

abbrev pub is_same_kind : GroupKind → GroupKind → Bool
is_same_kind group_kinds.Name group_kinds.Name = true
is_same_kind group_kinds.Covered group_kinds.Covered = true
is_same_kind group_kinds.Property group_kinds.Property = true
is_same_kind group_kinds.State group_kinds.State = true
is_same_kind kind other = false

abbrev pub same_step : Option Group → Option Group → Bool
same_step old new = option_eq nat_eq (step_of old) (step_of new)

-- ---- of a liability

-- what is paid for it by the best estimate
abbrev pub best_estimate_of : Option Liability → List (Day × ℤ)
best_estimate_of liability = option_map_or (λ (l : Liability). l.flows.base) liability []

-- what is paid for it under a projection
abbrev pub paid_for : Projection → Option Liability → List (Day × ℤ)
paid_for projection liability = option_map_or (λ (l : Liability). flows_under projection l.flows) liability []

-- ---- of a curve

abbrev pub rates_by : Option Curve → List ℤ
rates_by curve = option_map_or (λ (c : Curve). c.rates) curve []

-- the currency is another, or its rates stay
abbrev pub keeps_rates : List ℕ → Option Curve → Option Curve → List ℕ → Bool
keeps_rates name old new currency = not (same_name currency name) || same_rates (rates_by old) (rates_by new)

-- of a security or a liability, if there is one
abbrev pub keeps_security : List ℕ → Option Curve → Option Curve → Option Position → Bool
keeps_security name old new position =
    option_map_or (λ (p : Position). keeps_rates name old new p.security.currency) position true

abbrev pub keeps_liability : List ℕ → Option Curve → Option Curve → Option Liability → Bool
keeps_liability name old new liability =
    option_map_or (λ (l : Liability). keeps_rates name old new l.currency) liability true

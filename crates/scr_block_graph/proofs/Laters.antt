-- The rows, members and readers that a record leaves, by what it exchanges.
use Rattle.std.proofs.Common.{◌≡◌, ℕ, Bool, true, false, cond, List, [], Option, Some, None, map, refl, sym, ap, subst, ◌∙◌}
use Rattle.std.specs.List.{IsDistinct}
use Rattle.std.specs.Option.{option_map_or}
use Rattle.scr_dates.specs.declared.day.Day.{Day}
use Rattle.scr_tables.specs.Names.{same_name}
use Rattle.scr_tables.specs.Tables.{row_of}
use Rattle.scr_tables.proofs.TableRows.{same_name-is}
use Rattle.scr_row_change.specs.Changes.{IsNamed, after, change_of}
use Rattle.scr_row_change.specs.Exchanges.{HasName, exchanged}
use Rattle.scr_row_change.specs.declared.change.Change.{Change}
use Rattle.scr_row_change.specs.declared.change.Change.TheVariants as changes
use Rattle.scr_row_change.proofs.AsExchanged.{as-change, named-change}
use Rattle.scr_row_change.proofs.Exchanged.{row-other, row-own}
use Rattle.scr_sheet.specs.BalanceSheet.{curve_name, group_name, liability_name, position_name, position_of, stake_name, stake_of}
use Rattle.scr_sheet.specs.Members.{edit_name, is_member, row_name}
use Rattle.scr_sheet.specs.Records.{applied}
use Rattle.scr_sheet.specs.Validity.{Valid}
use Rattle.scr_sheet.specs.declared.{edit.Edit.Edit, roll.Roll.Roll, rows.Curve.Curve, rows.Group.Group, rows.Liability.Liability, rows.Position.Position, rows.Stake.Stake, sheet.BalanceSheet.BalanceSheet}
use Rattle.scr_sheet.specs.declared.edit.Edit.TheVariants as edits
use Rattle.scr_sheet.proofs.Membership.{same-rows}
use Rattle.scr_block_graph.specs.Turns.{step_of}
use Rattle.scr_block_graph.specs.declared.turns.Step.TheVariants as steps
use Rattle.scr_block_graph.proofs.Members.{once-funds, once-groups, once-liabilities, once-securities}

-- ---- rows

exchanged-row : {Row : Type 0} (name_of : Row → List ℕ) (own : List ℕ) (new : Option Row) (rows : List Row) → IsDistinct same_name (map name_of rows)
    → HasName name_of own new → (x : List ℕ) → cond (same_name x own) new (row_of name_of x rows) ≡ row_of name_of x (exchanged name_of own new rows)
exchanged-row name_of own new rows distinct named x = by (same_name x own) refl
  where
    by : (t : Bool) → same_name x own ≡ t → cond t new (row_of name_of x rows) ≡ row_of name_of x (exchanged name_of own new rows)
    by true e = sym (row-own name_of own new rows distinct named) ∙ ap (λ n. row_of name_of n (exchanged name_of own new rows)) (sym (same_name-is x own e))
    by false e = sym (row-other name_of own new rows named x e)

pub position-later : (sheet : BalanceSheet) → Valid sheet → (x own : List ℕ) (new : Option Position) (change : Change) → change ≡ changes.Security own new → IsNamed change
    → cond (same_name x own) new (position_of x sheet.securities) ≡ position_of x (after change sheet).securities
position-later sheet valid x own new change is named =
    exchanged-row position_name own new sheet.securities (once-securities sheet valid) (subst IsNamed is named) x
    ∙ ap (λ c. position_of x (after c sheet).securities) (sym is)

pub position-kept : (sheet : BalanceSheet) (x : List ℕ) (change : Change) → ((own : List ℕ) (new : Option Position) → change ≡ changes.Security own new → ⊥)
    → position_of x sheet.securities ≡ position_of x (after change sheet).securities
position-kept sheet x (changes.Security name new) other = absurd (other name new refl)
position-kept sheet x (changes.Fund name new) other = refl
position-kept sheet x (changes.Group name new) other = refl
position-kept sheet x (changes.Bank name new) other = refl
position-kept sheet x (changes.Rein name new) other = refl
position-kept sheet x (changes.Liability name new) other = refl
position-kept sheet x (changes.Curve name new) other = refl
position-kept sheet x (changes.Asof date currency) other = refl
position-kept sheet x (changes.Numbers numbers) other = refl

pub stake-later : (sheet : BalanceSheet) → Valid sheet → (x own : List ℕ) (new : Option Stake) (change : Change) → change ≡ changes.Fund own new → IsNamed change
    → cond (same_name x own) new (stake_of x sheet.funds) ≡ stake_of x (after change sheet).funds
stake-later sheet valid x own new change is named =
    exchanged-row stake_name own new sheet.funds (once-funds sheet valid) (subst IsNamed is named) x
    ∙ ap (λ c. stake_of x (after c sheet).funds) (sym is)

pub stake-kept : (sheet : BalanceSheet) (x : List ℕ) (change : Change) → ((own : List ℕ) (new : Option Stake) → change ≡ changes.Fund own new → ⊥)
    → stake_of x sheet.funds ≡ stake_of x (after change sheet).funds
stake-kept sheet x (changes.Security name new) other = refl
stake-kept sheet x (changes.Fund name new) other = absurd (other name new refl)
stake-kept sheet x (changes.Group name new) other = refl
stake-kept sheet x (changes.Bank name new) other = refl
stake-kept sheet x (changes.Rein name new) other = refl
stake-kept sheet x (changes.Liability name new) other = refl
stake-kept sheet x (changes.Curve name new) other = refl
stake-kept sheet x (changes.Asof date currency) other = refl
stake-kept sheet x (changes.Numbers numbers) other = refl

pub liability-later : (sheet : BalanceSheet) → Valid sheet → (x own : List ℕ) (new : Option Liability) (change : Change) → change ≡ changes.Liability own new → IsNamed change
    → cond (same_name x own) new (row_of liability_name x sheet.liabilities) ≡ row_of liability_name x (after change sheet).liabilities
liability-later sheet valid x own new change is named =
    exchanged-row liability_name own new sheet.liabilities (once-liabilities sheet valid) (subst IsNamed is named) x
    ∙ ap (λ c. row_of liability_name x (after c sheet).liabilities) (sym is)

pub liability-kept : (sheet : BalanceSheet) (x : List ℕ) (change : Change) → ((own : List ℕ) (new : Option Liability) → change ≡ changes.Liability own new → ⊥)
    → row_of liability_name x sheet.liabilities ≡ row_of liability_name x (after change sheet).liabilities
liability-kept sheet x (changes.Security name new) other = refl
liability-kept sheet x (changes.Fund name new) other = refl
liability-kept sheet x (changes.Group name new) other = refl
liability-kept sheet x (changes.Bank name new) other = refl
liability-kept sheet x (changes.Rein name new) other = refl
liability-kept sheet x (changes.Liability name new) other = absurd (other name new refl)
liability-kept sheet x (changes.Curve name new) other = refl
liability-kept sheet x (changes.Asof date currency) other = refl
liability-kept sheet x (changes.Numbers numbers) other = refl

pub group-later : (sheet : BalanceSheet) → Valid sheet → (x own : List ℕ) (new : Option Group) (change : Change) → change ≡ changes.Group own new → IsNamed change
    → cond (same_name x own) new (row_of group_name x sheet.groups) ≡ row_of group_name x (after change sheet).groups
group-later sheet valid x own new change is named =
    exchanged-row group_name own new sheet.groups (once-groups sheet valid) (subst IsNamed is named) x
    ∙ ap (λ c. row_of group_name x (after c sheet).groups) (sym is)

pub group-kept : (sheet : BalanceSheet) (x : List ℕ) (change : Change) → ((own : List ℕ) (new : Option Group) → change ≡ changes.Group own new → ⊥)
    → row_of group_name x sheet.groups ≡ row_of group_name x (after change sheet).groups
group-kept sheet x (changes.Security name new) other = refl
group-kept sheet x (changes.Fund name new) other = refl
group-kept sheet x (changes.Group name new) other = absurd (other name new refl)
group-kept sheet x (changes.Bank name new) other = refl
group-kept sheet x (changes.Rein name new) other = refl
group-kept sheet x (changes.Liability name new) other = refl
group-kept sheet x (changes.Curve name new) other = refl
group-kept sheet x (changes.Asof date currency) other = refl
group-kept sheet x (changes.Numbers numbers) other = refl

pub curve-later : (sheet : BalanceSheet) → Valid sheet → (x own : List ℕ) (new : Option Curve) (change : Change) → change ≡ changes.Curve own new → IsNamed change
    → cond (same_name x own) new (row_of curve_name x sheet.curves) ≡ row_of curve_name x (after change sheet).curves
curve-later sheet valid x own new change is named =
    exchanged-row curve_name own new sheet.curves valid.currencies_once (subst IsNamed is named) x
    ∙ ap (λ c. row_of curve_name x (after c sheet).curves) (sym is)

pub curve-kept : (sheet : BalanceSheet) (x : List ℕ) (change : Change) → ((own : List ℕ) (new : Option Curve) → change ≡ changes.Curve own new → ⊥)
    → row_of curve_name x sheet.curves ≡ row_of curve_name x (after change sheet).curves
curve-kept sheet x (changes.Security name new) other = refl
curve-kept sheet x (changes.Fund name new) other = refl
curve-kept sheet x (changes.Group name new) other = refl
curve-kept sheet x (changes.Bank name new) other = refl
curve-kept sheet x (changes.Rein name new) other = refl
curve-kept sheet x (changes.Liability name new) other = refl
curve-kept sheet x (changes.Curve name new) other = absurd (other name new refl)
curve-kept sheet x (changes.Asof date currency) other = refl
curve-kept sheet x (changes.Numbers numbers) other = refl

-- ---- the reporting currency

pub reporting-kept : (sheet : BalanceSheet) (change : Change) → ((date : Day) (currency : List ℕ) → change ≡ changes.Asof date currency → ⊥)
    → sheet.numbers.currency ≡ (after change sheet).numbers.currency
reporting-kept sheet (changes.Security name new) other = refl
reporting-kept sheet (changes.Fund name new) other = refl
reporting-kept sheet (changes.Group name new) other = refl
reporting-kept sheet (changes.Bank name new) other = refl
reporting-kept sheet (changes.Rein name new) other = refl
reporting-kept sheet (changes.Liability name new) other = refl
reporting-kept sheet (changes.Curve name new) other = refl
reporting-kept sheet (changes.Asof date currency) other = absurd (other date currency refl)
reporting-kept sheet (changes.Numbers numbers) other = refl

-- ---- what a record is

pub applied-after : (edit : Edit) (sheet : BalanceSheet) (change : Change) → Valid sheet → change ≡ change_of edit sheet → after change sheet ≡ applied edit sheet
applied-after edit sheet change valid is = ap (λ c. after c sheet) is ∙ sym (as-change edit sheet valid)

pub is-named-change : (edit : Edit) (sheet : BalanceSheet) (change : Change) → change ≡ change_of edit sheet → IsNamed change
is-named-change edit sheet change is = subst IsNamed (sym is) (named-change edit sheet)

-- a record that has no row of its own leaves all members
pub unnamed-still : (edit : Edit) (sheet : BalanceSheet) (roll : Roll) (x : List ℕ) → row_name edit ≡ None → is_member roll x (applied edit sheet) ≡ is_member roll x sheet
unnamed-still (edits.Group name kind step) sheet roll x none = absurd (cc)
unnamed-still (edits.Security name class group currency duration) sheet roll x none = absurd (cc)
unnamed-still (edits.Flows security flows) sheet roll x none = absurd (cc)
unnamed-still (edits.Fund name components) sheet roll x none = absurd (cc)
unnamed-still (edits.Hold name cents) sheet roll x none = absurd (cc)
unnamed-still (edits.Liability name kind currency) sheet roll x none = absurd (cc)
unnamed-still (edits.LiabilityFlows liability projection flows) sheet roll x none = absurd (cc)
unnamed-still (edits.Rein name group recoverables mitigation collateral) sheet roll x none = absurd (cc)
unnamed-still (edits.Bank name group cents) sheet roll x none = absurd (cc)
unnamed-still (edits.Remove table name) sheet roll x none = absurd (cc)
unnamed-still edit sheet roll x none = same-rows roll x sheet (applied edit sheet) refl refl refl refl

stays-by : (b : Bool) (place : ℕ) → steps.Stays ≡ step_of b b place
stays-by true place = refl
stays-by false place = refl

pub unnamed-stays : (edit : Edit) (sheet : BalanceSheet) (roll : Roll) (place : ℕ) → row_name edit ≡ None
    → steps.Stays ≡ step_of (is_member roll (edit_name edit) sheet) (is_member roll (edit_name edit) (applied edit sheet)) place
unnamed-stays edit sheet roll place none =
    stays-by (is_member roll (edit_name edit) sheet) place
    ∙ ap (λ b. step_of (is_member roll (edit_name edit) sheet) b place) (sym (unnamed-still edit sheet roll (edit_name edit) none))

pub name-is : (edit : Edit) (name : List ℕ) → row_name edit ≡ Some name → edit_name edit ≡ name
name-is edit name is = ap (λ o. option_map_or (λ (n : List ℕ). n) o []) is

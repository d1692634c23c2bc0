-- Worked records, by computation.
use Rattle.std.specs.Prelude.{◌≡◌, ℕ, pos, negsuc, List, [], ◌∷◌, Some, None, fold, refl}
use Rattle.scr_funds.specs.Paths.{earliest_between, fewest_between}
use Rattle.scr_sheet.specs.BalanceSheet.{opening, euro, held_of}
use Rattle.scr_sheet.specs.declared.{sheet.BalanceSheet.BalanceSheet, edit.Edit.Edit}
use Rattle.scr_sheet.specs.Records.{applied}
use Rattle.scr_sheet.specs.Faults.{fault_of}
use Rattle.scr_sheet.specs.declared.edit.Edit.TheVariants as edits
use Rattle.scr_sheet.specs.declared.fault.Fault.TheVariants as faults
use Rattle.scr_sheet.specs.declared.fault.Quantity.TheVariants as quantities
use Rattle.scr_sheet.specs.declared.fault.User.TheVariants as users
use Rattle.scr_sheet.specs.declared.keys.Table.TheVariants as tables
use Rattle.scr_sheet.specs.declared.keys.AbsorbKey.TheVariants as absorb
use Rattle.scr_sheet.specs.declared.keys.Projection.TheVariants as projections
use Rattle.scr_sheet.specs.declared.rows.Class.TheVariants as classes
use Rattle.scr_sheet.specs.declared.rows.LiabilityKind.TheVariants as kinds

-- the names S, U, L, F and G, and the currency USD
abbrev s : List ℕ
s = 83 ∷ []

abbrev u : List ℕ
u = 85 ∷ []

abbrev l : List ℕ
l = 76 ∷ []

abbrev f : List ℕ
f = 70 ∷ []

abbrev g : List ℕ
g = 71 ∷ []

abbrev dollar : List ℕ
dollar = 85 ∷ 83 ∷ 68 ∷ []

-- the sheet after these records
abbrev after : List Edit → BalanceSheet
after records = fold (λ sheet edit. applied edit sheet) opening records

abbrev security : List ℕ → List ℕ → Edit
security name currency = edits.Security name classes.Other None currency (pos 0)

-- ---- what is held has a limit

held_above : fault_of (edits.Hold s (pos 50_000_000_000_001)) (after (security s euro ∷ [])) ≡ Some (faults.Range quantities.Held (pos 50_000_000_000_001) (pos 50_000_000_000_000))
held_above = refl

held_at : fault_of (edits.Hold s (pos 50_000_000_000_000)) (after (security s euro ∷ [])) ≡ None
held_at = refl

held_below_zero : fault_of (edits.Hold s (negsuc 0)) (after (security s euro ∷ [])) ≡ Some (faults.Range quantities.Hold (negsuc 0) (pos 0))
held_below_zero = refl

-- ---- users

in_use_by_hold : fault_of (edits.Remove tables.Security s) (after (security s euro ∷ edits.Hold s (pos 100) ∷ [])) ≡ Some (faults.InUse s users.Hold)
in_use_by_hold = refl

abbrev in_dollars : List Edit
in_dollars = edits.Curve dollar (pos 30_000 ∷ []) ∷ security u dollar ∷ security s dollar ∷ []

-- the first name in byte order, and not the first row
in_use_by_name : fault_of (edits.Remove tables.Curve dollar) (after in_dollars) ≡ Some (faults.InUse dollar (users.Row s))
in_use_by_name = refl

in_use_by_asof : fault_of (edits.Remove tables.Curve euro) (after (security u euro ∷ [])) ≡ Some (faults.InUse euro users.Asof)
in_use_by_asof = refl

in_use_by_absorption : fault_of (edits.Remove tables.Curve dollar) (after (edits.Curve dollar (pos 30_000 ∷ []) ∷ security u dollar ∷ edits.Absorb (absorb.CurrencyUp dollar) (pos 1) ∷ edits.Absorb (absorb.CurrencyDown dollar) (pos 2) ∷ []))
    ≡ Some (faults.InUse dollar (users.Absorb (absorb.CurrencyDown dollar)))
in_use_by_absorption = refl

-- ---- names and kinds

unknown_before_wrong_kind : fault_of (edits.Bank s u (pos 1)) (after (security s euro ∷ [])) ≡ Some (faults.UnknownName u)
unknown_before_wrong_kind = refl

own_name_before_group : fault_of (edits.Bank s s (pos 1)) (after (security s euro ∷ [])) ≡ Some (faults.WrongKind s)
own_name_before_group = refl

projection_lacking : fault_of (edits.LiabilityFlows l projections.Mortality []) (after (edits.Liability l kinds.Other euro ∷ [])) ≡ Some (faults.WrongKind l)
projection_lacking = refl

-- ---- funds

holds_itself : fault_of (edits.Fund f ((f, pos 1) ∷ [])) opening ≡ Some (faults.Cycle (f ∷ f ∷ []))
unfolding fewest_between earliest_between
holds_itself = refl

-- of two chains the shorter, although the other begins with an earlier component
shortest_chain : fault_of (edits.Fund f ((g, pos 1) ∷ (u, pos 1) ∷ [])) (after (edits.Fund f [] ∷ edits.Fund u ((f, pos 1) ∷ []) ∷ edits.Fund g ((u, pos 1) ∷ []) ∷ [])) ≡ Some (faults.Cycle (f ∷ u ∷ f ∷ []))
unfolding fewest_between earliest_between
shortest_chain = refl

no_chain : fault_of (edits.Fund g ((f, pos 1) ∷ (s, pos 1_000_000_000) ∷ [])) (after (security s euro ∷ edits.Fund f ((s, pos 1) ∷ []) ∷ [])) ≡ None
unfolding fewest_between earliest_between
no_chain = refl

-- the field of the second component is the fourth
component_twice : fault_of (edits.Fund f ((s, pos 1) ∷ (s, pos 2) ∷ [])) opening ≡ Some (faults.Syntax 4)
component_twice = refl

unknown_component : fault_of (edits.Fund f ((s, pos 1) ∷ (u, pos 2) ∷ [])) (after (security s euro ∷ [])) ≡ Some (faults.UnknownName u)
unknown_component = refl

component_is_liability : fault_of (edits.Fund f ((l, pos 1) ∷ [])) (after (edits.Liability l kinds.Other euro ∷ [])) ≡ Some (faults.WrongKind l)
component_is_liability = refl

no_weight : fault_of (edits.Fund f ((s, pos 0) ∷ [])) (after (security s euro ∷ [])) ≡ Some (faults.Range quantities.Weight (pos 0) (pos 1))
unfolding fewest_between earliest_between
no_weight = refl

in_use_by_fund : fault_of (edits.Remove tables.Security s) (after (security s euro ∷ edits.Fund f ((s, pos 1) ∷ []) ∷ [])) ≡ Some (faults.InUse s (users.Row f))
in_use_by_fund = refl

in_use_by_hold_of_fund : fault_of (edits.Remove tables.Fund f) (after (edits.Fund f [] ∷ edits.Hold f (pos 100) ∷ [])) ≡ Some (faults.InUse f users.Hold)
in_use_by_hold_of_fund = refl

-- a fund replaced keeps what is held of it
hold_kept : held_of (after (security s euro ∷ edits.Fund f [] ∷ edits.Hold f (pos 100) ∷ edits.Fund f ((s, pos 1) ∷ []) ∷ [])) f ≡ 100
hold_kept = refl

-- ---- rows in their places

-- a row replaced keeps its place, a row made again goes last
replaced_in_place : (after (security s euro ∷ security u euro ∷ security s euro ∷ [])).securities ≡ (after (security s euro ∷ security u euro ∷ [])).securities
replaced_in_place = refl

made_again_last : (after (security s euro ∷ security u euro ∷ edits.Remove tables.Security s ∷ security s euro ∷ [])).securities ≡ (after (security u euro ∷ security s euro ∷ [])).securities
made_again_last = refl

-- ---- lists and numbers

no_rates : fault_of (edits.Curve dollar []) opening ≡ Some (faults.Syntax 2)
no_rates = refl

-- amounts come before provisions, whichever field stands first
amounts_first : fault_of (edits.Op (pos 10_000_000_000_001) (pos 0) (pos 0) (negsuc 0) (pos 0) (pos 0) (pos 0) (pos 0) (pos 0) (pos 0)) opening ≡ Some (faults.Range quantities.Amount (negsuc 0) (pos 0))
amounts_first = refl

-- How the sums of a sheet are carried along by a record without a fault: what goes out and what comes in.
use Rattle.std.proofs.Common.{◌≡◌, ℕ, ℤ, ◌+◌, ◌-◌, ◌≤◌, ◌==◌, ◌&&◌, ◌||◌, ◌⊎◌, inl, inr, Bool, true, false, not, List, map, Option, Some, None, is_some, if◌then◌else◌, length, set, get_or, refl, sym, ap, subst, ◌∙◌, arith}
use Rattle.std.specs.Option.{option_map_or}
use Rattle.scr_dates.specs.declared.day.Day.{Day}
use Rattle.scr_profile.specs.declared.set.Set.{Set}
use Rattle.scr_profile.specs.declared.set.Set.TheVariants as sets
use Rattle.scr_tables.specs.Tables.{row_of, has_row}
use Rattle.scr_sheet.specs.CashFlows.{total, flows_under, all_projections}
use Rattle.scr_sheet.specs.BalanceSheet.{stake_name, liability_name, bank_name, rein_name, is_in, is_named, held_of, held_total, liability_flows_total, volumes_total, defaults_total, components_total}
use Rattle.scr_sheet.specs.declared.sheet.BalanceSheet.{BalanceSheet}
use Rattle.scr_sheet.specs.Faults.{fault_of, in_use, unknown_row, misplaced, misplaced_holding}
use Rattle.scr_sheet.specs.Records.{applied, natural}
use Rattle.scr_sheet.specs.Validity.{Valid}
use Rattle.scr_sheet.specs.Volumes.{volumes_in}
use Rattle.scr_sheet.specs.declared.edit.Edit.{Edit}
use Rattle.scr_sheet.specs.declared.edit.Edit.TheVariants as edits
use Rattle.scr_sheet.specs.declared.keys.Projection.{Projection}
use Rattle.scr_sheet.specs.declared.keys.Projection.TheVariants as projections
use Rattle.scr_sheet.specs.declared.keys.Table.TheVariants as tables
use Rattle.scr_sheet.specs.declared.rows.Liability.{Liability}
use Rattle.scr_sheet.specs.declared.fault.Quantity.TheVariants as quantities
use Rattle.scr_profile.specs.declared.limits.TheConstants.{MAX_LIABILITY_FLOWS}
use Rattle.scr_sheet.proofs.Bounds.{neither, within_from_above}
use Rattle.scr_sheet.proofs.Preserved.{passes, passed, failed, right_table}
use Rattle.scr_sheet.proofs.Projections.{or_false}
use Rattle.scr_sheet.proofs.Sums.{moves_held, moves_liability_flows, moves_volumes, moves_defaults, moves_components, in_one_table, held-hold, held-part, held-same, stake_components, components-fund, components-drop, components-part, components-same, liability_total, liability_flows-own, liability_flows-other, liability_flows-part, liability_flows-drop, liability_flows-same, volumes-segment, volumes-part, volumes-same, defaults-bank, defaults-rein, defaults-drop_bank, defaults-drop_rein, defaults-part_bank, defaults-part_rein, defaults-same}
use Rattle.scr_book.specs.Sums.{AreSumsOf, place_of, volumes_sum, with_volumes_sum}
use Rattle.scr_book.specs.declared.sums.Sums.{Sums}

-- a row that is there
pub row_there : {Row : Type 0} (name_of : Row → List ℕ) (name : List ℕ) (rows : List Row) → has_row name_of name rows ≡ true → (row : Row) × (row_of name_of name rows ≡ Some row)
row_there {Row} name_of name rows has = by (row_of name_of name rows) refl
  where
    by : (found : Option Row) → row_of name_of name rows ≡ found → (row : Row) × (row_of name_of name rows ≡ Some row)
    by None e = let missing : false ≡ true = sym (ap is_some e) ∙ has in absurd (cc)
    by (Some row) e = (row, e)

pub none_there : {Row : Type 0} (name_of : Row → List ℕ) (name : List ℕ) (rows : List Row) → has_row name_of name rows ≡ false → row_of name_of name rows ≡ None
none_there {Row} name_of name rows has = by (row_of name_of name rows) has
  where
    by : (found : Option Row) → is_some found ≡ false → found ≡ None
    by None e = refl
    by (Some row) e = absurd (cc)

-- ---- records that move no sum

abbrev pub moves_a_sum : Edit → Bool
moves_a_sum edit = moves_held edit || moves_liability_flows edit || moves_volumes edit || moves_defaults edit || moves_components edit

same_flows : (f g : Projection → ℕ) → ((projection : Projection) → f projection ≡ g projection) → (ps : List Projection) → map f ps ≡ map g ps
same_flows f g same ps = ap (λ h. map h ps) (λ i projection. same projection i)

module _ (edit : Edit) (sheet : BalanceSheet) (sums : Sums) (are : AreSumsOf sheet sums) where
  held_stays : moves_held edit ≡ false → in_use edit sheet ≡ None → sums.held ≡ held_total (applied edit sheet)
  held_stays still free = are.held ∙ sym (held-same edit sheet still free)

  flows_stay : moves_liability_flows edit ≡ false → sums.liability_flows ≡ map (λ projection. liability_flows_total projection (applied edit sheet)) all_projections
  flows_stay still = are.liability_flows ∙ same_flows _ _ (λ projection. sym (liability_flows-same projection edit sheet still)) all_projections

  nl_stays : moves_volumes edit ≡ false → sums.nl ≡ volumes_total sets.Nl (applied edit sheet)
  nl_stays still = are.nl ∙ sym (volumes-same sets.Nl edit sheet still)

  nslt_stays : moves_volumes edit ≡ false → sums.nslt ≡ volumes_total sets.Nslt (applied edit sheet)
  nslt_stays still = are.nslt ∙ sym (volumes-same sets.Nslt edit sheet still)

  defaults_stay : moves_defaults edit ≡ false → sums.defaults ≡ defaults_total (applied edit sheet)
  defaults_stay still = are.defaults ∙ sym (defaults-same edit sheet still)

  components_stay : moves_components edit ≡ false → sums.components ≡ components_total (applied edit sheet)
  components_stay still = are.components ∙ sym (components-same edit sheet still)

  pub sums-same : moves_a_sum edit ≡ false → in_use edit sheet ≡ None → AreSumsOf (applied edit sheet) sums
  sums-same still free =
      let components = or_false (moves_held edit || moves_liability_flows edit || moves_volumes edit || moves_defaults edit) (moves_components edit) still in
      let defaults = or_false (moves_held edit || moves_liability_flows edit || moves_volumes edit) (moves_defaults edit) components.0 in
      let volumes = or_false (moves_held edit || moves_liability_flows edit) (moves_volumes edit) defaults.0 in
      let flows = or_false (moves_held edit) (moves_liability_flows edit) volumes.0 in
      record {
        held = held_stays flows.0 free;
        liability_flows = flows_stay flows.1;
        nl = nl_stays volumes.1;
        nslt = nslt_stays volumes.1;
        defaults = defaults_stay defaults.1;
        components = components_stay components.1;
      }

-- ---- what is held

-- what exists, and may be held, is a security or a fund
pub right_holding : (name : List ℕ) (sheet : BalanceSheet) → unknown_row name sheet ≡ None → misplaced_holding name sheet ≡ None → (is_in tables.Security name sheet || is_in tables.Fund name sheet) ≡ true
right_holding name sheet known none = by (is_named name sheet) (is_in tables.Security name sheet || is_in tables.Fund name sheet) (passed _ _ known) (failed _ _ none)
  where
    by : (named here : Bool) → named ≡ true → (named && not here) ≡ false → here ≡ true
    by named true e h = refl
    by true false e h = absurd (cc)
    by false false e h = absurd (cc)

module _ (name : List ℕ) (cents : ℤ) (sheet : BalanceSheet) (valid : Valid sheet) (none : fault_of (edits.Hold name cents) sheet ≡ None) where
  pub held-moved : held_total (applied (edits.Hold name cents) sheet) ≡ held_total sheet - held_of sheet name + natural cents
  held-moved =
      let p = passes (edits.Hold name cents) sheet none in
      let part = held-part name sheet in
      let sum = held-hold name cents sheet (right_holding name sheet p.known p.kind) (in_one_table sheet valid name) in
      omega arith

  pub sums-hold : (sums : Sums) (held : ℕ) → AreSumsOf sheet sums → held ≡ sums.held - held_of sheet name + natural cents → AreSumsOf (applied (edits.Hold name cents) sheet) (record sums { held = held })
  sums-hold sums held are is =
      let edit : Edit = edits.Hold name cents in
      record {
        held = is ∙ ap (λ n. n - held_of sheet name + natural cents) are.held ∙ sym held-moved;
        liability_flows = flows_stay edit sheet sums are refl;
        nl = nl_stays edit sheet sums are refl;
        nslt = nslt_stays edit sheet sums are refl;
        defaults = defaults_stay edit sheet sums are refl;
        components = components_stay edit sheet sums are refl;
      }

-- ---- the flows of liabilities

same_or_apart : (p q : Projection) → (p ≡ q) ⊎ ((place_of p == place_of q) ≡ false)
same_or_apart projections.Base projections.Base = inl refl
same_or_apart projections.Base q = inr refl
same_or_apart projections.Mortality projections.Mortality = inl refl
same_or_apart projections.Mortality q = inr refl
same_or_apart projections.Longevity projections.Longevity = inl refl
same_or_apart projections.Longevity q = inr refl
same_or_apart projections.Disability projections.Disability = inl refl
same_or_apart projections.Disability q = inr refl
same_or_apart projections.Expense projections.Expense = inl refl
same_or_apart projections.Expense q = inr refl
same_or_apart projections.Revision projections.Revision = inl refl
same_or_apart projections.Revision q = inr refl
same_or_apart projections.LapseUp projections.LapseUp = inl refl
same_or_apart projections.LapseUp q = inr refl
same_or_apart projections.LapseDown projections.LapseDown = inl refl
same_or_apart projections.LapseDown q = inr refl
same_or_apart projections.LapseMass projections.LapseMass = inl refl
same_or_apart projections.LapseMass q = inr refl
same_or_apart projections.Catastrophe projections.Catastrophe = inl refl
same_or_apart projections.Catastrophe q = inr refl

own_place : (p : Projection) → (place_of p == place_of p) ≡ true
own_place projections.Base = refl
own_place projections.Mortality = refl
own_place projections.Longevity = refl
own_place projections.Disability = refl
own_place projections.Expense = refl
own_place projections.Revision = refl
own_place projections.LapseUp = refl
own_place projections.LapseDown = refl
own_place projections.LapseMass = refl
own_place projections.Catastrophe = refl

-- a number written in the place of a projection
written : (f : Projection → ℕ) (n : ℕ) (p : Projection) → set (map f all_projections) (place_of p) n ≡ map (λ q. if place_of p == place_of q then n else f q) all_projections
written f n projections.Base = refl
written f n projections.Mortality = refl
written f n projections.Longevity = refl
written f n projections.Disability = refl
written f n projections.Expense = refl
written f n projections.Revision = refl
written f n projections.LapseUp = refl
written f n projections.LapseDown = refl
written f n projections.LapseMass = refl
written f n projections.Catastrophe = refl

-- and read there
pub read : (f : Projection → ℕ) (p : Projection) → get_or (map f all_projections) (place_of p) 0 ≡ f p
read f projections.Base = refl
read f projections.Mortality = refl
read f projections.Longevity = refl
read f projections.Disability = refl
read f projections.Expense = refl
read f projections.Revision = refl
read f projections.LapseUp = refl
read f projections.LapseDown = refl
read f projections.LapseMass = refl
read f projections.Catastrophe = refl

exchanged : (f g : Projection → ℕ) (p : Projection) → ((q : Projection) → (p ≡ q) ⊎ (g q ≡ f q)) → set (map f all_projections) (place_of p) (g p) ≡ map g all_projections
exchanged f g p other = written f (g p) p ∙ same_flows (λ q. if place_of p == place_of q then g p else f q) g each all_projections
  where
    each : (q : Projection) → (if place_of p == place_of q then g p else f q) ≡ g q
    each q =
        elim (same_or_apart p q) [
          | inl e ↦ subst (λ (r : Projection). (if place_of p == place_of r then g p else f r) ≡ g r) e (ap (λ (t : Bool). if t then g p else f p) (own_place p))
          | inr apart ↦
              ap (λ (t : Bool). if t then g p else f q) apart
              ∙ elim (other q) as (λ _. f q ≡ g q) [
                | inl e ↦ let both : true ≡ false = sym (own_place p) ∙ ap (λ (r : Projection). place_of p == place_of r) e ∙ apart in absurd (cc)
                | inr e ↦ sym e
              ]
        ]

-- the sum that is kept for a projection
kept_flows_sum : (sheet : BalanceSheet) (sums : Sums) → AreSumsOf sheet sums → (projection : Projection) → get_or sums.liability_flows (place_of projection) 0 ≡ liability_flows_total projection sheet
kept_flows_sum sheet sums are projection = ap (λ xs. get_or xs (place_of projection) 0) are.liability_flows ∙ read (λ q. liability_flows_total q sheet) projection

pub liability-le : (liability : List ℕ) (sheet : BalanceSheet) (l : Liability) → row_of liability_name liability sheet.liabilities ≡ Some l → (sums : Sums) → AreSumsOf sheet sums → (projection : Projection) → liability_total projection l ≤ get_or sums.liability_flows (place_of projection) 0
liability-le liability sheet l is sums are projection =
    let own = kept_flows_sum sheet sums are projection in
    let part = liability_flows-part projection liability sheet l is in
    omega arith

-- what stands for a liability under a projection, 0 where there is none
abbrev pub liability_part : Projection → List ℕ → BalanceSheet → ℕ
liability_part projection liability sheet = option_map_or (λ l. total (flows_under projection l.flows)) (row_of liability_name liability sheet.liabilities) 0

module _ (liability : List ℕ) (projection : Projection) (flows : List (Day × ℤ)) (sheet : BalanceSheet) (none : fault_of (edits.LiabilityFlows liability projection flows) sheet ≡ None) where
  pub liability_there : (l : Liability) × (row_of liability_name liability sheet.liabilities ≡ Some l)
  liability_there =
      let p = passes (edits.LiabilityFlows liability projection flows) sheet none in
      row_there liability_name liability sheet.liabilities (right_table tables.Liability liability sheet p.known (neither (misplaced tables.Liability liability sheet) _ p.kind).0)

  pub liability_flows-moved : liability_flows_total projection (applied (edits.LiabilityFlows liability projection flows) sheet) ≡ liability_flows_total projection sheet - liability_part projection liability sheet + total flows
  liability_flows-moved =
      let row = liability_there in
      let own : liability_part projection liability sheet ≡ liability_total projection row.0 = ap (λ o. option_map_or (liability_total projection) o 0) row.1 in
      let part = liability_flows-part projection liability sheet row.0 row.1 in
      let sum = liability_flows-own liability flows sheet projection row.0 row.1 in
      omega arith

  pub liability_flows-most : liability_flows_total projection (applied (edits.LiabilityFlows liability projection flows) sheet) ≤ MAX_LIABILITY_FLOWS
  liability_flows-most = within_from_above quantities.LiabilityFlows _ _ (passes (edits.LiabilityFlows liability projection flows) sheet none).liability_flows

  pub liability_part-le : (sums : Sums) → AreSumsOf sheet sums → liability_part projection liability sheet ≤ get_or sums.liability_flows (place_of projection) 0
  liability_part-le sums are =
      let row = liability_there in
      let own : liability_part projection liability sheet ≡ liability_total projection row.0 = ap (λ o. option_map_or (liability_total projection) o 0) row.1 in
      let part = liability-le liability sheet row.0 row.1 sums are projection in
      omega arith

  -- the sum under the projection, as it is carried along
  pub liability_flows-carried : (sums : Sums) → AreSumsOf sheet sums → get_or sums.liability_flows (place_of projection) 0 - liability_part projection liability sheet + total flows ≡ liability_flows_total projection (applied (edits.LiabilityFlows liability projection flows) sheet)
  liability_flows-carried sums are =
      ap (λ m. m - liability_part projection liability sheet + total flows) (kept_flows_sum sheet sums are projection) ∙ sym liability_flows-moved

  pub sums-liability_flows : (sums : Sums) (n : ℕ) → AreSumsOf sheet sums → n ≡ get_or sums.liability_flows (place_of projection) 0 - liability_part projection liability sheet + total flows
      → AreSumsOf (applied (edits.LiabilityFlows liability projection flows) sheet) (record sums { liability_flows = set sums.liability_flows (place_of projection) n })
  sums-liability_flows sums n are is =
      let edit : Edit = edits.LiabilityFlows liability projection flows in
      let before : Projection → ℕ = λ q. liability_flows_total q sheet in
      let after : Projection → ℕ = λ q. liability_flows_total q (applied edit sheet) in
      let new : n ≡ after projection = is ∙ liability_flows-carried sums are in
      record {
        held = held_stays edit sheet sums are refl (passes edit sheet none).free;
        liability_flows = ap (λ xs. set xs (place_of projection) n) are.liability_flows ∙ ap (set (map before all_projections) (place_of projection)) new ∙ exchanged before after projection (liability_flows-other liability flows sheet projection);
        nl = nl_stays edit sheet sums are refl;
        nslt = nslt_stays edit sheet sums are refl;
        defaults = defaults_stay edit sheet sums are refl;
        components = components_stay edit sheet sums are refl;
      }

module _ (liability : List ℕ) (sheet : BalanceSheet) (l : Liability) (is : row_of liability_name liability sheet.liabilities ≡ Some l) where
  liability_flows-left : (projection : Projection) → liability_flows_total projection (applied (edits.Remove tables.Liability liability) sheet) ≡ liability_flows_total projection sheet - liability_total projection l
  liability_flows-left projection =
      let own : option_map_or (liability_total projection) (row_of liability_name liability sheet.liabilities) 0 ≡ liability_total projection l = ap (λ o. option_map_or (liability_total projection) o 0) is in
      let sum = liability_flows-drop projection liability sheet in
      omega arith

  pub sums-drop_liability : (sums : Sums) → AreSumsOf sheet sums
      → AreSumsOf (applied (edits.Remove tables.Liability liability) sheet) (record sums { liability_flows = map (λ projection. get_or sums.liability_flows (place_of projection) 0 - total (flows_under projection l.flows)) all_projections })
  sums-drop_liability sums are =
      let edit : Edit = edits.Remove tables.Liability liability in
      let each : (q : Projection) → get_or sums.liability_flows (place_of q) 0 - liability_total q l ≡ liability_flows_total q (applied edit sheet) =
      λ q. ap (λ m. m - liability_total q l) (kept_flows_sum sheet sums are q) ∙ sym (liability_flows-left q) in
      record {
        held = held_stays edit sheet sums are refl refl;
        liability_flows = same_flows _ _ each all_projections;
        nl = nl_stays edit sheet sums are refl;
        nslt = nslt_stays edit sheet sums are refl;
        defaults = defaults_stay edit sheet sums are refl;
        components = components_stay edit sheet sums are refl;
      }

-- ---- volumes

pub volumes_sum-is : (set : Set) (sheet : BalanceSheet) (sums : Sums) → AreSumsOf sheet sums → volumes_sum set sums ≡ volumes_total set sheet
volumes_sum-is sets.Nl sheet sums are = are.nl
volumes_sum-is sets.Nslt sheet sums are = are.nslt

module _ (set : Set) (number region : ℕ) (premium reserve : ℤ) (sheet : BalanceSheet) (old : ℕ × ℕ) (is : volumes_in set number region sheet.numbers ≡ Some old) where
  pub volumes-moved : volumes_total set (applied (edits.Segment set number region premium reserve) sheet) ≡ volumes_total set sheet - (old.0 + old.1) + (natural premium + natural reserve)
  volumes-moved =
      let part = volumes-part set number region sheet old is in
      let sum = volumes-segment set number region premium reserve sheet old is in
      omega arith

pub sums-segment : (set : Set) (number region : ℕ) (premium reserve : ℤ) (sheet : BalanceSheet) (sums : Sums) (n : ℕ) → AreSumsOf sheet sums → n ≡ volumes_total set (applied (edits.Segment set number region premium reserve) sheet)
    → AreSumsOf (applied (edits.Segment set number region premium reserve) sheet) (with_volumes_sum set n sums)
sums-segment sets.Nl number region premium reserve sheet sums n are is = record { held = are.held; liability_flows = are.liability_flows; nl = is; nslt = are.nslt; defaults = are.defaults; components = are.components }
sums-segment sets.Nslt number region premium reserve sheet sums n are is = record { held = are.held; liability_flows = are.liability_flows; nl = are.nl; nslt = is; defaults = are.defaults; components = are.components }

-- ---- exposures

-- the sums with others than the old exposures
sums-defaults : (edit : Edit) (sheet : BalanceSheet) (sums : Sums) (n : ℕ) → moves_held edit ≡ false → moves_liability_flows edit ≡ false → moves_volumes edit ≡ false → moves_components edit ≡ false → in_use edit sheet ≡ None → AreSumsOf sheet sums → n ≡ defaults_total (applied edit sheet)
    → AreSumsOf (applied edit sheet) (record sums { defaults = n })
sums-defaults edit sheet sums n held flows volumes components free are is =
    record {
      held = held_stays edit sheet sums are held free;
      liability_flows = flows_stay edit sheet sums are flows;
      nl = nl_stays edit sheet sums are volumes;
      nslt = nslt_stays edit sheet sums are volumes;
      defaults = is;
      components = components_stay edit sheet sums are components;
    }

-- what stands for a bank or a reinsurer, 0 where there is none
abbrev pub bank_part : List ℕ → BalanceSheet → ℕ
bank_part name sheet = option_map_or (λ b. b.cents) (row_of bank_name name sheet.banks) 0

abbrev pub rein_part : List ℕ → BalanceSheet → ℕ
rein_part name sheet = option_map_or (λ r. r.recoverables + r.mitigation) (row_of rein_name name sheet.reinsurers) 0

pub sums-bank : (name group : List ℕ) (cents : ℤ) (sheet : BalanceSheet) (sums : Sums) (n : ℕ) → AreSumsOf sheet sums → n ≡ sums.defaults - bank_part name sheet + natural cents
    → AreSumsOf (applied (edits.Bank name group cents) sheet) (record sums { defaults = n })
sums-bank name group cents sheet sums n are is =
    let part = defaults-part_bank name sheet in
    let sum = defaults-bank name group cents sheet in
    let own = are.defaults in
    sums-defaults (edits.Bank name group cents) sheet sums n refl refl refl refl refl are (omega arith)

pub sums-rein : (name group : List ℕ) (recoverables mitigation collateral : ℤ) (sheet : BalanceSheet) (sums : Sums) (n : ℕ) → AreSumsOf sheet sums → n ≡ sums.defaults - rein_part name sheet + natural recoverables + natural mitigation
    → AreSumsOf (applied (edits.Rein name group recoverables mitigation collateral) sheet) (record sums { defaults = n })
sums-rein name group recoverables mitigation collateral sheet sums n are is =
    let part = defaults-part_rein name sheet in
    let sum = defaults-rein name group recoverables mitigation collateral sheet in
    let own = are.defaults in
    sums-defaults (edits.Rein name group recoverables mitigation collateral) sheet sums n refl refl refl refl refl are (omega arith)

pub sums-drop_bank : (name : List ℕ) (sheet : BalanceSheet) (sums : Sums) (n : ℕ) → AreSumsOf sheet sums → n ≡ sums.defaults - bank_part name sheet → AreSumsOf (applied (edits.Remove tables.Bank name) sheet) (record sums { defaults = n })
sums-drop_bank name sheet sums n are is =
    let sum = defaults-drop_bank name sheet in
    let own = are.defaults in
    sums-defaults (edits.Remove tables.Bank name) sheet sums n refl refl refl refl refl are (omega arith)

pub sums-drop_rein : (name : List ℕ) (sheet : BalanceSheet) (sums : Sums) (n : ℕ) → AreSumsOf sheet sums → n ≡ sums.defaults - rein_part name sheet → AreSumsOf (applied (edits.Remove tables.Rein name) sheet) (record sums { defaults = n })
sums-drop_rein name sheet sums n are is =
    let sum = defaults-drop_rein name sheet in
    let own = are.defaults in
    sums-defaults (edits.Remove tables.Rein name) sheet sums n refl refl refl refl refl are (omega arith)

-- ---- the components of funds

-- the sums with another number of components
sums-components : (edit : Edit) (sheet : BalanceSheet) (sums : Sums) (n : ℕ) → moves_held edit ≡ false → moves_liability_flows edit ≡ false → moves_volumes edit ≡ false → moves_defaults edit ≡ false → in_use edit sheet ≡ None → AreSumsOf sheet sums → n ≡ components_total (applied edit sheet)
    → AreSumsOf (applied edit sheet) (record sums { components = n })
sums-components edit sheet sums n held flows volumes defaults free are is =
    record {
      held = held_stays edit sheet sums are held free;
      liability_flows = flows_stay edit sheet sums are flows;
      nl = nl_stays edit sheet sums are volumes;
      nslt = nslt_stays edit sheet sums are volumes;
      defaults = defaults_stay edit sheet sums are defaults;
      components = is;
    }

-- how many components stand for a fund, 0 where there is none
abbrev pub components_part : List ℕ → BalanceSheet → ℕ
components_part name sheet = option_map_or stake_components (row_of stake_name name sheet.funds) 0

pub sums-fund : (name : List ℕ) (components : List (List ℕ × ℤ)) (sheet : BalanceSheet) (sums : Sums) (n : ℕ) → AreSumsOf sheet sums → n ≡ sums.components - components_part name sheet + length components
    → AreSumsOf (applied (edits.Fund name components) sheet) (record sums { components = n })
sums-fund name components sheet sums n are is =
    let part = components-part name sheet in
    let sum = components-fund name components sheet in
    let own = are.components in
    sums-components (edits.Fund name components) sheet sums n refl refl refl refl refl are (omega arith)

pub sums-drop_fund : (name : List ℕ) (sheet : BalanceSheet) (sums : Sums) (n : ℕ) → fault_of (edits.Remove tables.Fund name) sheet ≡ None → AreSumsOf sheet sums → n ≡ sums.components - components_part name sheet
    → AreSumsOf (applied (edits.Remove tables.Fund name) sheet) (record sums { components = n })
sums-drop_fund name sheet sums n none are is =
    let edit : Edit = edits.Remove tables.Fund name in
    let sum = components-drop name sheet in
    let own = are.components in
    sums-components edit sheet sums n refl refl refl refl (passes edit sheet none).free are (omega arith)

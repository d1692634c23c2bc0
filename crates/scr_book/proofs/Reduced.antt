-- What the tests of a record's own kind say of the first quantity of the whole book outside its limits.
use Rattle.std.proofs.Common.{◌≡◌, ℕ, ℤ, List, ◌+◌, ◌-◌, Option, None, length, sym, ap, subst, ◌∙◌, arith}
use Rattle.std.specs.Option.{option_or, option_map_or}
use Rattle.scr_tables.specs.Tables.{row_of, rows_with}
use Rattle.scr_sheet.specs.BalanceSheet.{bank_name, rein_name, defaults_total}
use Rattle.scr_sheet.specs.declared.sheet.BalanceSheet.{BalanceSheet}
use Rattle.scr_dates.specs.declared.day.Day.{Day}
use Rattle.scr_sheet.specs.CashFlows.{greatest_years}
use Rattle.scr_sheet.specs.declared.numbers.Numbers.{Numbers}
use Rattle.scr_sheet.specs.Faults.{above, unknown_name, wrong_kind, sheet_outside}
use Rattle.scr_sheet.specs.Records.{applied}
use Rattle.scr_sheet.specs.declared.edit.Edit.{Edit}
use Rattle.scr_sheet.specs.declared.fault.Fault.{Fault}
use Rattle.scr_sheet.specs.declared.fault.Quantity.{Quantity}
use Rattle.scr_sheet.specs.declared.fault.Quantity.TheVariants as quantities
use Rattle.scr_profile.specs.declared.limits.TheConstants.{MAX_AMOUNT, MAX_EXPOSURES}
use Rattle.scr_tables.proofs.TableRows.{added}
use Rattle.scr_sheet.proofs.Sums.{rein_total}
use Rattle.scr_sheet.proofs.Quiet.{added-is}

-- the fault is the first of the whole book, where the record names what is there
abbrev pub IsFirst : BalanceSheet → Option Fault → Edit → Type 0
IsFirst sheet fault edit = unknown_name edit sheet ≡ None → wrong_kind edit sheet ≡ None → fault ≡ sheet_outside edit (applied edit sheet)

-- the record is this one
pub first_by_is : (sheet : BalanceSheet) (fault : Option Fault) (edit own : Edit) → edit ≡ own → IsFirst sheet fault own → IsFirst sheet fault edit
first_by_is sheet fault edit own is first = subst (IsFirst sheet fault) (sym is) first

-- ---- numbers of rows

rows_with-is : {Row : Type 0} (name_of : Row → List ℕ) (name : List ℕ) (rows : List Row) → rows_with name_of name rows ≡ length rows + added (row_of name_of name rows)
rows_with-is name_of name rows = added-is (row_of name_of name rows) (length rows)

pub above-with : {Row : Type 0} (quantity : Quantity) (limit : ℕ) (name_of : Row → List ℕ) (name : List ℕ) (rows own : List Row) → rows ≡ own
    → above quantity (rows_with name_of name rows) limit ≡ above quantity (length own + added (row_of name_of name own)) limit
above-with quantity limit name_of name rows own is = ap (λ rs. above quantity (rows_with name_of name rs) limit) is ∙ ap (λ (n : ℕ). above quantity n limit) (rows_with-is name_of name own)

-- ---- exposures

-- other numbers of the same value
same_exposures : (defaults rows defaults_now rows_now : ℕ) → defaults ≡ defaults_now → rows ≡ rows_now
    → option_or (above quantities.Defaults defaults MAX_AMOUNT) (above quantities.Exposures rows MAX_EXPOSURES) ≡ option_or (above quantities.Defaults defaults_now MAX_AMOUNT) (above quantities.Exposures rows_now MAX_EXPOSURES)
same_exposures defaults rows defaults_now rows_now d r =
    ap (λ (n : ℕ). option_or (above quantities.Defaults n MAX_AMOUNT) (above quantities.Exposures rows MAX_EXPOSURES)) d
    ∙ ap (λ (n : ℕ). option_or (above quantities.Defaults defaults_now MAX_AMOUNT) (above quantities.Exposures n MAX_EXPOSURES)) r

module _ (sheet : BalanceSheet) (name : List ℕ) (new new_now : ℕ) (is : new ≡ new_now) where
  pub banks-with : let old : ℕ = option_map_or (λ b. b.cents) (row_of bank_name name sheet.banks) 0 in
      option_or (above quantities.Defaults (defaults_total sheet - old + new) MAX_AMOUNT) (above quantities.Exposures (rows_with bank_name name sheet.banks + length sheet.reinsurers) MAX_EXPOSURES)
      ≡ option_or (above quantities.Defaults (defaults_total sheet - old + new_now) MAX_AMOUNT) (above quantities.Exposures (length sheet.banks + length sheet.reinsurers + added (row_of bank_name name sheet.banks)) MAX_EXPOSURES)
  banks-with =
      let old : ℕ = option_map_or (λ b. b.cents) (row_of bank_name name sheet.banks) 0 in
      let rows = rows_with-is bank_name name sheet.banks in
      same_exposures _ _ _ _ (ap (λ (n : ℕ). defaults_total sheet - old + n) is) (omega arith)

  pub reinsurers-with : let old : ℕ = option_map_or rein_total (row_of rein_name name sheet.reinsurers) 0 in
      option_or (above quantities.Defaults (defaults_total sheet - old + new) MAX_AMOUNT) (above quantities.Exposures (length sheet.banks + rows_with rein_name name sheet.reinsurers) MAX_EXPOSURES)
      ≡ option_or (above quantities.Defaults (defaults_total sheet - old + new_now) MAX_AMOUNT) (above quantities.Exposures (length sheet.banks + length sheet.reinsurers + added (row_of rein_name name sheet.reinsurers)) MAX_EXPOSURES)
  reinsurers-with =
      let old : ℕ = option_map_or rein_total (row_of rein_name name sheet.reinsurers) 0 in
      let rows = rows_with-is rein_name name sheet.reinsurers in
      same_exposures _ _ _ _ (ap (λ (n : ℕ). defaults_total sheet - old + n) is) (omega arith)

-- ---- sums and years

pub both-is : (a b a' b' : ℕ) → a ≡ a' → b ≡ b' → a + b ≡ a' + b'
both-is a b a' b' p q = omega arith

-- the years of flows that were read, from a date that was read
pub years-is : (years : ℕ) (numbers own : Numbers) (flows given : List (Day × ℤ)) → years ≡ greatest_years numbers.asof.number flows → numbers ≡ own → flows ≡ given → years ≡ greatest_years own.asof.number given
years-is years numbers own flows given is n f =
    is ∙ ap (λ (m : Numbers). greatest_years m.asof.number flows) n ∙ ap (greatest_years own.asof.number) f

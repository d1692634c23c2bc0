-- The form of each field of a record, and what a field of that form stands for (this project's own).
use Rattle.std.specs.Prelude.{ℕ, ℤ, pos, negsuc, ◌&&◌, List, take, drop, Option, Some, None, if◌then◌else◌, codes, nat_le, option_and_then, option_map}
use Rattle.std.specs.Option.{option_or}
use Rattle.scr_profile.specs.declared.set.Set.{Set}
use Rattle.scr_tables.specs.Names.{is_name, is_currency}
use Rattle.scr_profile.specs.Segments.{segments}
use Rattle.scr_sheet.specs.declared.keys.AbsorbKey.{AbsorbKey}
use Rattle.scr_sheet.specs.declared.keys.AbsorbKey.TheVariants as absorb
use Rattle.scr_fields.specs.Numbers.{number_value}
use Rattle.scr_fields.specs.Words.{is_text, value_of, scenario_word, all_scenarios}

unfoldable pub name_of : List ℕ → Option (List ℕ)
name_of field = if is_name field then Some field else None

unfoldable pub currency_of : List ℕ → Option (List ℕ)
currency_of field = if is_currency field then Some field else None

-- a field that may be `-`, which stands for none
abbrev pub or_none : {A : Type 0} → (List ℕ → Option A) → List ℕ → Option (Option A)
or_none form field = if is_text (codes "-") field then Some None else option_map Some (form field)

-- the group of a security, if it has one
unfoldable pub group_of : List ℕ → Option (Option (List ℕ))
group_of field = or_none name_of field

abbrev pub between : ℕ → ℕ → ℤ → Option ℕ
between low high (pos n) = if nat_le low n && nat_le n high then Some n else None
between low high (negsuc n) = None

-- a number from `low` to `high`
unfoldable pub small_number : ℕ → ℕ → List ℕ → Option ℕ
small_number low high field = option_and_then (between low high) (number_value field)

-- a credit quality step from 0 to 6, if there is one
unfoldable pub step_of : List ℕ → Option (Option ℕ)
step_of field = or_none (small_number 0 6) field

-- a segment of a set, numbered from 1
unfoldable pub segment_of : Set → List ℕ → Option ℕ
segment_of set field = small_number 1 (segments set) field

-- a region, numbered from 1
unfoldable pub region_of : List ℕ → Option ℕ
region_of field = small_number 1 18 field

-- what the currency rises or falls to
abbrev pub turn_of : List ℕ → List ℕ → Option AbsorbKey
turn_of currency field =
    if is_text (codes ".up") field then Some (absorb.CurrencyUp currency)
    else (if is_text (codes ".down") field then Some (absorb.CurrencyDown currency) else None)

-- `currency.CUR.up` and `currency.CUR.down`
unfoldable pub currency_key_of : List ℕ → Option AbsorbKey
currency_key_of field =
    if is_text (take 9 field) (codes "currency.") then option_and_then
    (λ currency. turn_of currency (drop 3 (drop 9 field))) (currency_of (take 3 (drop 9 field)))
    else None

unfoldable pub absorb_key_of : List ℕ → Option AbsorbKey
absorb_key_of field = option_or (value_of scenario_word all_scenarios field) (currency_key_of field)

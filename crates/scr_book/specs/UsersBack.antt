-- What users go and come where what stood in a sheet before is put back (this project's own).
use Rattle.std.specs.Option.{option_map_or}
use Rattle.scr_tables.specs.declared.past.Past.{Past}
use Rattle.scr_sheet.specs.BalanceSheet.{position_name, stake_name, liability_name, bank_name, rein_name}
use Rattle.scr_sheet.specs.declared.earlier.Earlier.{Earlier}
use Rattle.scr_sheet.specs.declared.earlier.Earlier.TheVariants as earlier
use Rattle.scr_sheet.specs.declared.sheet.BalanceSheet.{BalanceSheet}
use Rattle.scr_book.specs.Pasts.{name_in, row_in}
use Rattle.scr_book.specs.Users.{Used, no_uses, kept_uses, position_uses, stake_uses, liability_uses, bank_uses, rein_uses}

-- what the row uses that comes back, nothing where there was none
abbrev pub past_uses : {Row : Type 0} → (Row → Used) → Past Row → Used
past_uses uses_of past = option_map_or uses_of (row_in past) no_uses

-- what the row uses that goes out
abbrev pub used_now : Earlier → BalanceSheet → Used
used_now (earlier.Securities past) sheet = kept_uses position_name position_uses (name_in position_name past) sheet.securities
used_now (earlier.Funds past) sheet = kept_uses stake_name stake_uses (name_in stake_name past) sheet.funds
used_now (earlier.Liabilities past) sheet = kept_uses liability_name liability_uses (name_in liability_name past) sheet.liabilities
used_now (earlier.Banks past) sheet = kept_uses bank_name bank_uses (name_in bank_name past) sheet.banks
used_now (earlier.Reinsurers past) sheet = kept_uses rein_name rein_uses (name_in rein_name past) sheet.reinsurers
used_now earlier sheet = no_uses

-- and the one that comes back
abbrev pub used_then : Earlier → Used
used_then (earlier.Securities past) = past_uses position_uses past
used_then (earlier.Funds past) = past_uses stake_uses past
used_then (earlier.Liabilities past) = past_uses liability_uses past
used_then (earlier.Banks past) = past_uses bank_uses past
used_then (earlier.Reinsurers past) = past_uses rein_uses past
used_then earlier = no_uses

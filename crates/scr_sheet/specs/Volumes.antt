-- The volumes of one segment in one region (this project's own), both numbered from 1.
use Rattle.std.specs.Prelude.{ℕ, ◌-◌, [], Option, slice_get}
use Rattle.std.specs.List.{slice_index_or}
use Rattle.scr_sheet.specs.BalanceSheet.{volumes_of}
use Rattle.scr_profile.specs.declared.set.Set.{Set}
use Rattle.scr_sheet.specs.declared.numbers.Numbers.{Numbers}

-- the premium and the reserve volume, none where the set has no such segment or the segment no such region
abbrev pub volumes_in : Set → ℕ → ℕ → Numbers → Option (ℕ × ℕ)
volumes_in set number region numbers = slice_get (slice_index_or (volumes_of set numbers) (number - 1) []) (region - 1)

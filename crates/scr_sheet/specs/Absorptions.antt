-- The absorptions that stand among the single numbers (this project's own).
use Rattle.std.specs.Prelude.{ℕ, slice_index_or}
use Rattle.std.specs.Option.{option_map_or}
use Rattle.scr_sheet.specs.Records.{absorb_place}
use Rattle.scr_sheet.specs.declared.{keys.AbsorbKey.AbsorbKey, numbers.Numbers.Numbers}

-- what is absorbed of a scenario, in cents; 0 for those of a currency, whose absorptions stand with its curve
abbrev pub absorbed : AbsorbKey → Numbers → ℕ
absorbed key numbers = option_map_or (λ place. slice_index_or numbers.absorb place 0) (absorb_place key) 0

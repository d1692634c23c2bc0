-- The ids of parts (own): each slot has a row of three ids, one for each sum that runs over the list of its part.
use Rattle.std.specs.Prelude.{◌≡◌, ℕ, Some}
use Rattle.scr_ids.specs.Ranges.{IsAt, Numbered}
use Rattle.scr_ids.specs.declared.table.Table.TheVariants as tables
use Rattle.scr_sum_slots.specs.Parts.{Parted, slot_of}
use Rattle.scr_sum_slots.specs.declared.parts.Part.{Part}

-- The part has id `number` for sum `place` (0 to 2), from the row of its slot (own).
pub record PartAt (parts : Parted) (places : Numbered) (part : Part) (place number : ℕ) : Type 0 where
  pub slot : ℕ
  pub held : slot_of part parts ≡ Some slot
  pub at : IsAt places tables.Part slot place number

-- What it means that a field is at fault (this project's own).
use Rattle.std.specs.Prelude.{◌≡◌, ℕ, ◌+◌, ◌<◌, ◌≤◌, ◌++◌, List, Ok, length, take}
use Rattle.scr_sheet.specs.declared.edit.Edit.{Edit}
use Rattle.scr_csv.specs.Records.{any_record}

-- these fields, of which the first is the verb, are a record
abbrev pub AreRecord : List (List ℕ) → Type 0
AreRecord fields = (edit : Edit) × (any_record (record { number = 0; fields = fields }) ≡ Ok edit)

-- some record begins with these fields: each of them has the form that it must have there, and none is surplus
abbrev pub BeginRecord : List (List ℕ) → Type 0
BeginRecord fields = (more : List (List ℕ)) × AreRecord (fields ++ more)

-- The fields before it begin a record, so each has its form. The field itself is missing, where they are all that there
-- is and no record yet; or no record begins with them and it, since it has not its form or is surplus.
pub record IsAtFault (k : ℕ) (fields : List (List ℕ)) : Type 0 where
  pub within : k ≤ length fields
  pub before : BeginRecord (take k fields)
  pub missing : k ≡ length fields → ¬ AreRecord fields
  pub wrong : k < length fields → ¬ BeginRecord (take (k + 1) fields)

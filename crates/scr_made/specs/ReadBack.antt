-- What the made texts are read as (this project's own).
use Rattle.std.specs.Prelude.{ℕ, List, Result, map}
use Rattle.scr_sheet.specs.declared.edit.Edit.{Edit}
use Rattle.scr_csv.specs.Lines.{records}
use Rattle.scr_csv.specs.Records.{edit_of_line}
use Rattle.scr_csv.specs.declared.fault.LineFault.{LineFault}

-- what the records of a file are read as, one after another
abbrev pub edits_read : List ℕ → List (Result Edit LineFault)
edits_read bytes = map (λ line. edit_of_line line.1) (records bytes)

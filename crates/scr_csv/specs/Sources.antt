-- How the state of a walk over a line shows the fields that are left of it (this project's own).
use Rattle.std.specs.Prelude.{ℕ, List}
use Rattle.scr_csv.specs.Parts.{behind}
use Rattle.scr_csv.specs.declared.source.Source.{Source}

abbrev pub fields_in : Source → List (List ℕ)
fields_in source = behind source.end source.rest

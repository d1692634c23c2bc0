-- How the state of a walk over a file shows the records that are left of it (this project's own).
use Rattle.std.specs.Prelude.{ℕ, ◌+◌, List}
use Rattle.scr_csv.specs.Lines.{records_from}
use Rattle.scr_csv.specs.declared.{walk.Line.Line, walk.Lines.Lines}

abbrev pub numbered_text : Line → ℕ × List ℕ
numbered_text line = (line.number, line.text.now)

abbrev pub lines_left : Lines → List (ℕ × List ℕ)
lines_left walk = records_from (walk.passed + 1) walk.rest.now

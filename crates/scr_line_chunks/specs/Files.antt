-- The bytes that passages stand for (this project's own).
use Rattle.std.specs.Prelude.{ℕ, ◌++◌, List}
use Rattle.scr_line_chunks.specs.Passages.{joined}
use Rattle.scr_line_chunks.specs.declared.passages.Passages.{Passages}

-- the passages of whole lines, and what follows them
abbrev pub bytes_of : Passages → List ℕ
bytes_of file = joined file.whole.items ++ file.last.items

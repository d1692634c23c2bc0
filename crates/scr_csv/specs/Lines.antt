-- The records of a file, with the numbers of their lines (this project's own).
use Rattle.std.specs.Prelude.{ℕ, ◌==◌, ◌&&◌, Bool, false, not, List, [], ◌∷◌, if◌then◌else◌, filter}
use Rattle.std.specs.List.{enumerate_from}
use Rattle.std.specs.Str.Lines.{lines}

-- A byte order mark, the bytes EF BB BF, at the very start is dropped.
abbrev pub without_mark : List ℕ → List ℕ
without_mark (a ∷ b ∷ c ∷ bytes) = if ((a == 0xEF) && (b == 0xBB)) && (c == 0xBF) then bytes else a ∷ b ∷ c ∷ bytes
without_mark bytes = bytes

-- An empty line and one that begins with `#` are no records.
abbrev pub is_record : List ℕ → Bool
is_record [] = false
is_record (b ∷ bytes) = not (b == 35)

-- The records among the lines of these bytes, of which the first has this number. A line ends at each
-- newline, and one carriage return before the newline belongs to the end.
abbrev pub records_from : ℕ → List ℕ → List (ℕ × List ℕ)
records_from number bytes = filter (λ line. is_record line.1) (enumerate_from number (lines bytes))

-- The records of a file: its lines are numbered from 1.
abbrev pub records : List ℕ → List (ℕ × List ℕ)
records bytes = records_from 1 (without_mark bytes)

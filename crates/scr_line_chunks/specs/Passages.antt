-- Passages of a file (this project's own): bytes that follow one another, of which each but the last is whole lines.
use Rattle.std.specs.Prelude.{◌≡◌, ℕ, ◌+◌, ◌==◌, ◌++◌, List, [], ◌∷◌, if◌then◌else◌, flat_map}
use Rattle.std.specs.List.{AllByRecursion, count_by}
use Rattle.std.specs.Global.{Vec}
use Rattle.scr_csv.specs.Lines.{records, records_from}

-- bytes that end with a newline
abbrev pub IsWhole : List ℕ → Type 0
IsWhole bytes = (front : List ℕ) × (bytes ≡ front ++ 10 ∷ [])

abbrev pub AreWhole : List (Vec ℕ) → Type 0
AreWhole passages = AllByRecursion (λ passage. IsWhole passage.items) passages

-- passages one after another
abbrev pub joined : List (Vec ℕ) → List ℕ
joined passages = flat_map (λ passage. passage.items) passages

-- how many lines end in these bytes
abbrev pub ended_lines : List ℕ → ℕ
ended_lines bytes = count_by (λ b. b == 10) bytes

-- The records of bytes of a file before which so many lines ended. At the very start, where none did, the file may have
-- a byte order mark.
abbrev pub records_behind : ℕ → List ℕ → List (ℕ × List ℕ)
records_behind passed bytes = if passed == 0 then records bytes else records_from (passed + 1) bytes

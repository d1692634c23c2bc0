-- The first line of a piece of the report (this project's own).
use Rattle.std.specs.Prelude.{ℕ, ◌==◌, List, Option, Some, None, position, take}

abbrev pub up_to : Option ℕ → List ℕ → List ℕ
up_to None piece = piece
up_to (Some end) piece = take end piece

-- the bytes before the first newline, all of them where there is none
abbrev pub first_line : List ℕ → List ℕ
first_line piece = up_to (position (λ b. b == 10) piece) piece

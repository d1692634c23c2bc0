-- Which part of some bytes a sink has taken (this project's own).
use Rattle.std.specs.Prelude.{◌≡◌, ℕ, List, Option, ◌++◌}
use Rattle.std.specs.Io.KnownBytes.{Appends}

-- whole begins with front
abbrev pub Starts : List ℕ → List ℕ → Type 0
Starts whole front = (rest : List ℕ) × (whole ≡ front ++ rest)

-- what is known to be written grew by a front of bytes, which may be none or all of them
abbrev pub AppendsFront : Option (List ℕ) → Option (List ℕ) → List ℕ → Type 0
AppendsFront old new bytes = (front : List ℕ) × Starts bytes front × Appends old new front

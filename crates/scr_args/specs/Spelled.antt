-- The written form once more, from the side of who writes the words (this project's own): options that are spelled one
-- after another, in any order, each known and given once.
use Rattle.std.specs.Prelude.{◌≡◌, ◌⊎◌, ℕ, ◌++◌, true, List, [], ◌∷◌, codes}
use Rattle.scr_args.specs.Options.{Given, can_begin, is_value}

-- the words begin with an option, as two words or as one
abbrev pub Begins : Given → List (List ℕ) → List (List ℕ) → Type 0
Begins option words rest =
    (words ≡ (codes "--" ++ option.0) ∷ option.1 ∷ rest)
    ⊎ (words ≡ (codes "--" ++ (option.0 ++ (codes "=" ++ option.1))) ∷ rest)

-- the words spell these options behind those before them
abbrev pub AreSpelled : List Given → List Given → List (List ℕ) → Type 0
AreSpelled before [] words = words ≡ []
AreSpelled before (option ∷ options) words =
    (rest : List (List ℕ)) × Begins option words rest × (can_begin option.0 before ≡ true) ×
    (is_value option.1 ≡ true) × AreSpelled (before ++ option ∷ []) options rest

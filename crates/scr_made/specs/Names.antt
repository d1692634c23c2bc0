-- The names of the made book's rows (this project's own): a letter, and a number from 0 on.
use Rattle.std.specs.Prelude.{◌≡◌, ℕ, ◌++◌, ◌∷◌, List, [], codes, decimal, true}
use Rattle.std.specs.Char.{is_ascii_alphanumeric}

unfoldable pub numbered : List ℕ → ℕ → List ℕ
numbered letter k = letter ++ decimal k

-- a letter of the alphabet alone
abbrev pub IsLetter : List ℕ → Type 0
IsLetter text = (letter : ℕ) × (text ≡ letter ∷ []) × (is_ascii_alphanumeric letter ≡ true)

abbrev pub group_name : ℕ → List ℕ
group_name k = numbered (codes "G") k

abbrev pub security_name : ℕ → List ℕ
security_name k = numbered (codes "S") k

abbrev pub fund_name : ℕ → List ℕ
fund_name k = numbered (codes "U") k

abbrev pub liability_name : ℕ → List ℕ
liability_name k = numbered (codes "L") k

abbrev pub bank_name : ℕ → List ℕ
bank_name k = numbered (codes "B") k

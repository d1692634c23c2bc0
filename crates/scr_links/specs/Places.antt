-- Lists of slots (own).
use Rattle.std.specs.Prelude.{◌≡◌, ℕ, ◌==◌, Bool, false, not, List, [], ◌∷◌, filter, ⊤}
use Rattle.std.specs.List.{list_any}

-- The slot is in the list (own).
unfoldable pub has : ℕ → List ℕ → Bool
has place places = list_any (λ p. p == place) places

-- No slot is in the list twice (own).
unfoldable pub AreApart : List ℕ → Type 0
AreApart [] = ⊤
AreApart (place ∷ places) = (has place places ≡ false) × AreApart places

-- The list but the slot (own).
unfoldable pub without : ℕ → List ℕ → List ℕ
without place places = filter (λ p. not (p == place)) places

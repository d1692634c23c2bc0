-- How much the items of a list come to together, and how often a number stands in a list.
use Rattle.std.specs.Prelude.{ℕ, ◌+◌, Bool, List, [], ◌∷◌, if◌then◌else◌, nat_eq}

-- 1 for true, 0 for false (own).
abbrev pub one_if : Bool → ℕ
one_if b = if b then 1 else 0

-- The sum of a number over all items of a list (own).
abbrev pub total : {A : Type 0} → (A → ℕ) → List A → ℕ
total f [] = 0
total f (x ∷ xs) = f x + total f xs

-- The number of times `n` stands in a list (own).
abbrev pub times : ℕ → List ℕ → ℕ
times n xs = total (λ x. one_if (nat_eq n x)) xs

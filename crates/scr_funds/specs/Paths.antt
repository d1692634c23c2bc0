-- The chain that is told where several go from one holder to another: one of the fewest steps, and among these the one
-- that goes on by the earliest components, step by step (this project's own). `same` tells whether two holders are one.
use Rattle.std.specs.Prelude.{ℕ, zero, suc, Bool, List, [], ◌∷◌, ◌++◌, Option, Some, None, if◌then◌else◌}
use Rattle.std.specs.List.{list_any}
use Rattle.std.specs.Option.{option_or, option_map}

-- the first of a list from which there is a way on, and that way
abbrev pub first_way : {A : Type 0} → (A → Option (List A)) → List A → Option (List A)
first_way way [] = None
first_way way (c ∷ cs) = option_or (option_map (λ on. c ∷ on) (way c)) (first_way way cs)

module _ {A : Type 0} (same : A → A → Bool) (components : A → List A) where
  -- what lies between a and b on the earliest chain that has so many between them
  unfoldable pub earliest_between : ℕ → A → A → Option (List A)
  earliest_between zero a b = if list_any (λ c. same c b) (components a) then Some [] else None
  earliest_between (suc n) a b = first_way (λ c. earliest_between n c b) (components a)

  -- the same with the fewest between them: n or one of the next numbers, so many in all
  unfoldable pub fewest_between : ℕ → ℕ → A → A → Option (List A)
  fewest_between n zero a b = None
  fewest_between n (suc more) a b = option_or (earliest_between n a b) (fewest_between (suc n) more a b)

  -- the first of the shortest chains from a to b with both its ends, where fewer than so many lie between them
  abbrev pub path_within : ℕ → A → A → Option (List A)
  path_within most a b = option_map (λ between. a ∷ (between ++ b ∷ [])) (fewest_between 0 most a b)

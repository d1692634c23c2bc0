-- What is held of each fund and security, directly and through funds: the look-through approach (Article 84 of
-- Delegated Regulation (EU) 2015/35). `same` tells whether two names are one. `held` gives the cents held directly
-- under a name.
use Rattle.std.specs.Prelude.{ℕ, zero, suc, ◌+◌, Bool, List, [], ◌∷◌, map, length, sum_by, if◌then◌else◌, nat_eq}
use Rattle.std.specs.List.{range_with_len}
use Rattle.scr_funds.specs.Parts.{part_of}

-- the components of a fund with their weights, in the order of its record; a fund without components is closed
abbrev pub Weighted : Type 0 → Type 0
Weighted A = List (A × ℕ)

-- a fund: its name and its components
abbrev pub Shared : Type 0 → Type 0
Shared A = A × Weighted A

-- the parts of a value in the order of the weights
abbrev pub parts_of : ℕ → List ℕ → List ℕ
parts_of value weights = map (part_of value weights) (range_with_len 0 (length weights))

module _ {A : Type 0} (same : A → A → Bool) where
  -- what falls to one of the names, each of which has its part
  abbrev pub falling_to : A → List A → List ℕ → ℕ
  falling_to x [] parts = 0
  falling_to x (name ∷ names) [] = 0
  falling_to x (name ∷ names) (part ∷ parts) = (if same x name then part else 0) + falling_to x names parts

  -- the part of x in a fund of that value
  abbrev pub part_in : ℕ → Weighted A → A → ℕ
  part_in value components x = falling_to x (map (λ c. c.0) components) (parts_of value (map (λ c. c.1) components))

  -- the components of the fund of that name; none where it is no fund's
  abbrev pub names_in : List (Shared A) → A → List A
  names_in [] x = []
  names_in (fund ∷ funds) x = if same x fund.0 then map (λ c. c.0) fund.1 else names_in funds x

  -- a chain of components ends here: a security, or a closed fund
  abbrev pub is_last : List (Shared A) → A → Bool
  is_last funds x = nat_eq (length (names_in funds x)) 0

  module _ (held : A → ℕ) (funds : List (Shared A)) where
    -- what is held directly, and the parts in all funds, looked through so many levels of them
    unfoldable pub total_through : ℕ → A → ℕ
    total_through zero x = 0
    total_through (suc levels) x = held x + sum_by (λ fund. part_in (total_through levels fund.0) fund.1 x) funds

    -- A chain on which nothing comes twice has no more levels than there are funds.
    abbrev pub total : A → ℕ
    total x = total_through (length funds + 1) x

-- Worked rolls, by computation.
use Rattle.std.specs.Prelude.{◌≡◌, ℕ, ◌*◌, List, [], ◌∷◌, Some, None, fold, map, refl, true, false}
use Rattle.std.specs.List.{range_with_len}
use Rattle.scr_member_lists.specs.Members.{has, moved, returned}

-- the name of one letter, and the roll with it as a member, and without it
abbrev letter : ℕ → List ℕ
letter k = k ∷ []

abbrev with_name : List (List ℕ) → ℕ → List (List ℕ)
with_name roll k = moved (letter k) (has (letter k) roll) true roll

abbrev without_name : List (List ℕ) → ℕ → List (List ℕ)
without_name roll k = moved (letter k) (has (letter k) roll) false roll

-- the last takes the place of the one that leaves, and goes back where that one stands again
leaves : without_name (map letter (1 ∷ 2 ∷ 3 ∷ 4 ∷ [])) 2 ≡ map letter (1 ∷ 4 ∷ 3 ∷ [])
leaves = refl

last-leaves : without_name (map letter (1 ∷ 2 ∷ 3 ∷ 4 ∷ [])) 4 ≡ map letter (1 ∷ 2 ∷ 3 ∷ [])
last-leaves = refl

comes : with_name (map letter (1 ∷ 2 ∷ [])) 0 ≡ map letter (1 ∷ 2 ∷ 0 ∷ [])
comes = refl

stays : with_name (map letter (1 ∷ 2 ∷ 3 ∷ [])) 2 ≡ map letter (1 ∷ 2 ∷ 3 ∷ [])
stays = refl

goes-back : returned (letter 2) (Some 1) (map letter (1 ∷ 4 ∷ 3 ∷ [])) ≡ map letter (1 ∷ 2 ∷ 3 ∷ 4 ∷ [])
goes-back = refl

goes-out : returned (letter 3) None (map letter (1 ∷ 2 ∷ 3 ∷ [])) ≡ map letter (1 ∷ 2 ∷ [])
goes-out = refl

-- of 100 that came each third leaves, beginning with the first
thirds : fold without_name (fold with_name [] (range_with_len 0 100)) (map (λ k. 3 * k) (range_with_len 0 34))
    ≡ map letter (
    77 ∷ 1 ∷ 2 ∷ 98 ∷ 4 ∷ 5 ∷ 97 ∷ 7 ∷ 8 ∷ 67 ∷ 10 ∷ 11 ∷ 95 ∷ 13 ∷ 14 ∷ 94 ∷ 16 ∷ 17 ∷ 68 ∷ 19 ∷ 20 ∷ 92 ∷ 22 ∷ 23 ∷
    91 ∷ 25 ∷ 26 ∷ 76 ∷ 28 ∷ 29 ∷ 89 ∷ 31 ∷ 32 ∷ 88 ∷ 34 ∷ 35 ∷ 70 ∷ 37 ∷ 38 ∷ 86 ∷ 40 ∷ 41 ∷ 85 ∷ 43 ∷ 44 ∷ 71 ∷ 46 ∷
    47 ∷ 83 ∷ 49 ∷ 50 ∷ 82 ∷ 52 ∷ 53 ∷ 74 ∷ 55 ∷ 56 ∷ 80 ∷ 58 ∷ 59 ∷ 79 ∷ 61 ∷ 62 ∷ 73 ∷ 64 ∷ 65 ∷ [])
thirds = refl

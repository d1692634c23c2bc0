-- Two lists are the same where no lane of a mask tells two of their members apart.
use Rattle.std.proofs.Common.{◌≡◌, ℕ, Bool, not, List, [], ◌∷◌, length, refl, arith, eqb, inl, inr}
use Rattle.std.specs.Prelude.{◌==◌, nat_eq}
use Rattle.std.specs.Cmp.Lexicographic.{pointwise}
use Rattle.std.proofs.lemmas.Bool.{cases_Bool}
use lib.Lanes.{zip2, mask_l}

abbrev pub differs : ℕ → ℕ → Bool
differs a b = not (eqb a b)

pub none_apart : (xs ys : List ℕ) → length xs ≡ length ys → (mask_l (zip2 differs xs ys) == 0) ≡ pointwise nat_eq xs ys
none_apart [] [] long = refl
none_apart [] (y ∷ ys) long = absurd (omega (arith, long))
none_apart (x ∷ xs) [] long = absurd (omega (arith, long))
none_apart (x ∷ xs) (y ∷ ys) long =
    let rest = none_apart xs ys (omega (arith, long)) in
    elim (cases_Bool (eqb x y)) [
      | inl same ↦ grind (arith, same, rest)
      | inr other ↦ grind (arith, other)
    ]

-- The falls of discounts between two lists of rates, in whole numbers (this project's own).
use Rattle.std.specs.Prelude.{ℤ, pos, if◌then◌else◌, List, [], ◌∷◌}
use Rattle.std.specs.Ordering.{int_eq}
use Rattle.scr_num.specs.Rounding.{Ends, exact_ends, sub_ends}

-- the fall of a discount between two rates: exactly 0 where they are equal
abbrev pub difference : ℤ → Ends → ℤ → Ends → Ends
difference base from stressed to = if int_eq base stressed then exact_ends (pos 0) else sub_ends from to

-- the falls of the discounts of all maturities
unfoldable pub differences : List ℤ → List Ends → List ℤ → List Ends → List Ends
differences (base ∷ bases) (from ∷ froms) (stressed ∷ stresseds) (to ∷ tos) =
    difference base from stressed to ∷ differences bases froms stresseds tos
differences bases froms stresseds tos = []

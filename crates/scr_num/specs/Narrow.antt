-- How far apart the two ends of a figure are (this project's own).
use Rattle.std.specs.Prelude.{ℕ, pos, ◌+ℤ◌, ◌≤ℤ◌, List, [], ◌∷◌}
use Rattle.scr_num.specs.Rounding.{Ends}

-- the high end is at most so much above the low one
pub record IsNarrow (width : ℕ) (e : Ends) : Type 0 where
  pub apart : e.high ≤ℤ (e.low +ℤ pos width)

-- each within its own number
abbrev pub AreNarrow : List ℕ → List Ends → Type 0
AreNarrow [] [] = Unit {0}
AreNarrow (width ∷ widths) (e ∷ es) = IsNarrow width e × AreNarrow widths es
AreNarrow [] (e ∷ es) = ⊥
AreNarrow (width ∷ widths) [] = ⊥

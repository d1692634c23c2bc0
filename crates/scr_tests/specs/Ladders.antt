-- What is due in the test of a board (this project's own).
use Rattle.std.specs.Prelude.{◌≡◌, ℕ, suc, ◌+◌, ◌<◌, ◌%◌, ◌⊎◌, List, [], ◌∷◌, pos}
use Rattle.scr_num.specs.Rounding.{Ends, exact_ends}
use Rattle.scr_reachability.specs.declared.ranks.Due.{Due}

-- the figure at a number: the number that is left of it by hundreds
abbrev pub figure_of : ℕ → Ends
figure_of number = exact_ends (pos (number % 100))

-- it has no source, or that which stands a hundred numbers before it
abbrev pub IsRung : Due → Type 0
IsRung due = ((due.sources.items ≡ []) × (due.number < 100)) ⊎ ((source : ℕ) × (due.sources.items ≡ source ∷ []) × (due.number ≡ source + 100))

-- so are all of these, in the order of their numbers from k on
abbrev pub AreRungs : ℕ → List Due → Type 0
AreRungs k [] = Unit {0}
AreRungs k (due ∷ dues) = (due.number ≡ k) × IsRung due × AreRungs (suc k) dues

-- What is left of the trail leads to the place, and what was passed is noted down, the last first.
use Rattle.std.proofs.Common.{◌≡◌, ℕ, List, ◌∷◌, ◌++◌}
use Rattle.scr_funds.specs.Search.{IsTraced}
use Rattle.scr_funds.proofs.search.trace.Given as goal

abbrev pub invariant-loop-place : goal.invariant-loop-place
invariant-loop-place l = (trail : List ℕ) → IsTraced l.reached.entries l.from l.fn.place trail
    → (rest : List ℕ) × IsTraced l.reached.entries l.from l.place rest × (l.path.items ++ rest ≡ l.to ∷ trail)

abbrev pub decreases-loop-place : goal.decreases-loop-place
decreases-loop-place l = l.place

-- What is answered of a fund's components (this project's own): the path by which it would hold itself, where there is
-- one. Want of memory may come in place of either.
use Rattle.std.specs.Prelude.{◌≡◌, ℕ, List, Option, Some, None, Result, Ok, Err}
use Rattle.scr_fund_graph.specs.declared.fault.GraphFault.{GraphFault}
use Rattle.scr_fund_graph.specs.declared.fault.GraphFault.TheVariants as faults

abbrev pub Answers : {A : Type 0} → Option (List (List ℕ)) → Result A GraphFault → Type 0
Answers due (Ok a) = due ≡ None
Answers due (Err (faults.Cycle path)) = due ≡ Some path
Answers due (Err faults.NoMemory) = Unit {0}

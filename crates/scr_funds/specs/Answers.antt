-- What is answered where edges are to be added (this project's own), with `components` as they would be: no fault where
-- the fund does not lead to itself, and else the first shortest chain by which it does. Want of memory may come in
-- place of either.
use Rattle.std.specs.Prelude.{ℕ, List, Result, Ok, Err}
use Rattle.scr_funds.specs.Chains.{LeadsTo, IsFirstShortest}
use Rattle.scr_funds.specs.declared.fault.OrderFault.{OrderFault}
use Rattle.scr_funds.specs.declared.fault.OrderFault.TheVariants as faults

abbrev pub Answers : {A : Type 0} → (ℕ → List ℕ) → ℕ → Result A OrderFault → Type 0
Answers components from (Ok a) = ¬ LeadsTo components from from
Answers components from (Err (faults.Cycle path)) = IsFirstShortest components from from path
Answers components from (Err faults.NoMemory) = Unit {0}

-- What is due of two checks, of which the second counts where the first finds nothing.
use Rattle.std.proofs.Common.{◌≡◌, Option, Some, None, Result, Ok, Err, sym, ap, subst}
use Rattle.std.specs.Option.{option_or}
use Rattle.std.specs.Result.{result_and}
use Rattle.scr_sheet.specs.Faults.{Answers}
use Rattle.scr_sheet.specs.declared.fault.Fault.{Fault}
use Rattle.scr_sheet.specs.declared.fault.Fault.TheVariants as faults

module _ (due next : Option Fault) where
  -- a fault that is due stays due before others
  stays : (fault : Fault) → due ≡ Some fault → option_or due next ≡ Some fault
  stays fault is = ap (λ found. option_or found next) is

  pub answers_and : (a b : Result (Unit {0}) Fault) → Answers due a → Answers next b → Answers (option_or due next) (result_and a b)
  answers_and (Ok done) b none rest = subst (λ found. Answers (option_or found next) b) (sym none) rest
  answers_and (Err (faults.Syntax k)) b is rest = stays (faults.Syntax k) is
  answers_and (Err (faults.UnknownName name)) b is rest = stays (faults.UnknownName name) is
  answers_and (Err (faults.WrongKind name)) b is rest = stays (faults.WrongKind name) is
  answers_and (Err (faults.InUse name user)) b is rest = stays (faults.InUse name user) is
  answers_and (Err (faults.Cycle path)) b is rest = stays (faults.Cycle path) is
  answers_and (Err (faults.Range quantity value limit)) b is rest = stays (faults.Range quantity value limit) is
  answers_and (Err faults.NoMemory) b is rest = tt

-- a check with no other after it
pub answers_alone : (due : Option Fault) (a : Result (Unit {0}) Fault) → Answers due a → Answers (option_or due None) a
answers_alone None a answers = answers
answers_alone (Some fault) a answers = answers

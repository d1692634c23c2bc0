use Rattle.scr_obligations.proofs.AllPlans.{called_for, cause, ended, front, lacking, no_stray, strays, whole}
use Rattle.scr_obligations.proofs.laws.of_plans.Goals as goal

pub returns : goal.returns
returns g c = record {
  cause = λ plan before now old new answer. cause before now old new plan answer;
  called_for = λ plan before now old new status. called_for before now old new plan status;
  whole = λ plan before now old new answer due text. whole before now old new plan answer due text;
  front = λ plan before now old new answer due text. front before now old new plan answer due text;
  ended = λ plan before now old new answer due. ended before now old new plan answer due;
  lacking = λ plan before now old new answer. lacking before now old new plan answer;
  strays = λ plan before now old new answer. strays before now old new plan answer;
  no_stray = λ plan before now old new answer. no_stray before now old new plan answer;
}

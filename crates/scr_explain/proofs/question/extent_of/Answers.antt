use Rattle.std.proofs.Common.{rules}
use Rattle.scr_explain.proofs.question.extent_of.Goals as goal

pub returns-in_err-number_of-clause-none : goal.returns-in_err-number_of-clause-none
returns-in_err-number_of-clause-none c = λ none extent is. c.in_err-number_of.ensures.none (search rules) is.levels is.depth

pub returns-in_err-number_of-2-clause-none : goal.returns-in_err-number_of-2-clause-none
returns-in_err-number_of-2-clause-none c = λ none extent is. c.in_err-number_of-2.ensures.none (search rules) extent.top is.top

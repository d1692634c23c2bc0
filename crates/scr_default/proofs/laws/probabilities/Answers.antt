use Rattle.std.proofs.Common.{sym, ap}
use Rattle.scr_profile.proofs.Words.{class-shared}
use Rattle.scr_default.specs.Probabilities.{thousandths_of_percent}
use Rattle.scr_default.proofs.laws.probabilities.Goals as goal

pub returns-clause-shared : goal.returns-clause-shared
returns-clause-shared c = λ step h. ap thousandths_of_percent (sym (class-shared step h))

use Rattle.scr_num.proofs.SumLemmas.{Encloses-cut_first, Encloses-cut_last}
use Rattle.scr_num.proofs.laws.gains_count_as_nil.Goals as goal

pub returns-clause-zero_first : goal.returns-clause-zero_first
returns-clause-zero_first c = Encloses-cut_first

pub returns-clause-zero_last : goal.returns-clause-zero_last
returns-clause-zero_last c = Encloses-cut_last

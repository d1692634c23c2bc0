use Rattle.scr_num.proofs.SumLemmas.{Encloses-sum, Encloses-sum_fraction, parts-enclosed}
use Rattle.scr_num.proofs.laws.sums.Goals as goal

pub returns-clause-figures : goal.returns-clause-figures
returns-clause-figures c = Encloses-sum

pub returns-clause-fractions : goal.returns-clause-fractions
returns-clause-fractions c = Encloses-sum_fraction

pub returns-clause-parts : goal.returns-clause-parts
returns-clause-parts c = parts-enclosed

use Rattle.scr_num.proofs.Shares.{Encloses-ratio, Encloses-product}
use Rattle.scr_num.proofs.laws.figure_times_share.Goals as goal

pub returns-clause-ratio : goal.returns-clause-ratio
returns-clause-ratio c = Encloses-ratio

pub returns-clause-product : goal.returns-clause-product
returns-clause-product c = Encloses-product

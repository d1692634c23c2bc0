use Rattle.scr_num.proofs.Quadratic.{Encloses-quad}
use Rattle.scr_num.proofs.laws.root_over_table.Goals as goal

pub returns : goal.returns
returns c = record { encloses = Encloses-quad }

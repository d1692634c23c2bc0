use Rattle.scr_agg.proofs.Roots.{table_of-square}
use Rattle.scr_agg.proofs.RootSizes.{root-within}
use Rattle.scr_agg.proofs.laws.roots.Goals as goal

pub returns-clause-size : goal.returns-clause-size
returns-clause-size c = root-within

pub returns-clause-square : goal.returns-clause-square
returns-clause-square c = table_of-square
